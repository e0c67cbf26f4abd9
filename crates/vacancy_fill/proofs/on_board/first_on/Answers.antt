use Rattle.std.proofs.Common.{◌≡◌, ◌+◌, true, false, Some, is_some, is_none, take, length, sym, ap, ◌∙◌, arith}
use Rattle.slot_tree.specs.Slots.{slot_at, filled}
use Rattle.slot_tree.proofs.SlotLemmas.{slot_at-within}
use Rattle.pool_board.proofs.BoardLemmas.{before-few}
use Rattle.vacancy_fill.specs.declared.fill.Found.{Found}
use Rattle.vacancy_fill.proofs.ChainLemmas.{first_free-there, first_free-none, barred-to, barred-all, barred-next, passed_over-next, passed_over-most, is_none-from}
use Rattle.vacancy_fill.proofs.on_board.first_on.Goals as goal

pub overflow_cast-result : goal.overflow_cast-result
overflow_cast-result g c = omega (arith, c.before-then-is_none.ensures, before-few c.args.slots.now c.in-Some.at, c.requires.most)

pub overflow_add-result : goal.overflow_add-result
overflow_add-result g c = omega (arith, c.before-then-is_none.ensures, before-few c.args.slots.now c.in-Some.at, c.requires.most)

pub returns-then-is_none-clause-first : goal.returns-then-is_none-clause-first
returns-then-is_none-clause-first g c bar judges unready =
    let slots = c.args.slots.now in
    let is : slot_at slots c.in-Some.at ≡ Some c.in-Some-at.held = sym c.at.ensures ∙ c.in-Some-at.is in
    let unbarred : is_some c.bar.result ≡ false = grind (arith, c.is_none.ensures, c.if-is_none.true) in
    let free : is_none (bar c.in-Some-at.held.person) ≡ true = ap is_none (sym (c.bar.ensures bar judges)) ∙ is_none-from c.bar.result unbarred in
    let barred = barred-to bar c.args.m slots c.loop-at.from c.in-Some.at unready c.requires.distinct (c.loop-at.invariant.barred bar judges unready) c.in-Some.ensures.found in
    let position : 1 + length (filled (take c.in-Some.at slots)) ≡ c.before-then-is_none.result + 1 = omega (arith, c.before-then-is_none.ensures) in
    sym (first_free-there bar c.args.link 1 slots c.in-Some.at c.in-Some-at.held barred is free
    ∙ ap (λ n. let f : Found = record { link = c.args.link; person = c.in-Some-at.held.person; position = n } in Some f) position)

pub returns-then-is_none-clause-cost : goal.returns-then-is_none-clause-cost
returns-then-is_none-clause-cost g c bar judges unready =
    omega (
      arith,
      c.loop-at.invariant.cost bar judges unready,
      c.in-Some.ensures.cost 10 c.requires.length,
      passed_over-most bar c.args.m c.args.slots.now c.loop-at.from (omega (arith, c.loop-at.invariant.within, c.requires.length)),
    )

pub loop-at-preserved : goal.loop-at-preserved
loop-at-preserved g c =
    let slots = c.args.slots.now in
    let is : slot_at slots c.in-Some.at ≡ Some c.in-Some-at.held = sym c.at.ensures ∙ c.in-Some-at.is in
    let some : is_some c.bar.result ≡ true = grind (arith, c.is_none.ensures, c.if-is_none.false) in
    record {
      within = omega (arith, slot_at-within slots c.in-Some.at (ap is_some is), c.requires.length);
      barred = λ bar judges unready.
          barred-next bar slots c.in-Some.at c.in-Some-at.held
          (barred-to bar c.args.m slots c.loop-at.from c.in-Some.at unready c.requires.distinct (c.loop-at.invariant.barred bar judges unready) c.in-Some.ensures.found)
          is (ap is_some (sym (c.bar.ensures bar judges)) ∙ some);
      cost = λ bar judges unready. omega (
        arith,
        c.loop-at.invariant.cost bar judges unready,
        c.in-Some.ensures.cost 10 c.requires.length,
        passed_over-next bar c.args.m slots c.loop-at.from c.in-Some.at c.in-Some-at.held c.in-Some.ensures.found.behind is c.in-Some.ensures.found.ready
            (ap is_some (sym (c.bar.ensures bar judges)) ∙ some),
      );
    }

pub returns-clause-first : goal.returns-clause-first
returns-clause-first g c bar judges unready =
    sym (first_free-none bar c.args.link 1 c.args.slots.now
    (barred-all bar c.args.m c.args.slots.now c.loop-at.from unready c.requires.distinct (c.loop-at.invariant.barred bar judges unready) c.in_default.ensures.found))

pub returns-clause-cost : goal.returns-clause-cost
returns-clause-cost g c bar judges unready =
    omega (
      arith,
      c.loop-at.invariant.cost bar judges unready,
      c.in_default.ensures.cost 10 c.requires.length,
      passed_over-most bar c.args.m c.args.slots.now c.loop-at.from (omega (arith, c.loop-at.invariant.within, c.requires.length)),
    )
