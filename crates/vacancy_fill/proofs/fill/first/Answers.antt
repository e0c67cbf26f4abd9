use Rattle.std.proofs.Common.{◌<◌, is_none, length, sym, ap, subst, ◌∙◌, arith}
use Rattle.slot_tree.specs.Slots.{filled}
use Rattle.pool_board.specs.Members.{persons}
use Rattle.vacancy_fill.specs.Chain.{positions, first_free, BarsUnready}
use Rattle.vacancy_fill.proofs.ChainLemmas.{find-front, find-behind, members_at-link, chain_from-next, most_steps-next}
use Rattle.vacancy_fill.proofs.fill.first.Goals as goal

pub returns-in-Some-clause-first : goal.returns-in-Some-clause-first
returns-in-Some-clause-first g c bar judges unready =
    let within : c.from.result < length c.args.boards.now = subst (λ i. i < length c.args.boards.now) (sym c.from.ensures) (c.requires.boards c.loop-link.link 0 c.loop-link-test.true) in
    let are = members_at-link c.args.boards.now c.args.chain.now c.loop-link.link c.from.result c.index-boards-from.result (filled c.slots.result.now) c.from.ensures within c.index-boards-from.is c.slots.ensures.members in
    sym (c.loop-link.invariant.none bar judges unready ∙ ap (first_free bar) (chain_from-next c.args.boards.now c.args.chain.now c.loop-link.link (filled c.slots.result.now) c.loop-link-test.true are)
    ∙ find-front (λ f. is_none (bar f.person)) (positions c.loop-link.link 1 (persons (filled c.slots.result.now))) _ c.in-Some.found (sym (c.in-Some.ensures.first bar judges (subst (BarsUnready bar c.args.m) are (unready c.loop-link.link 0 c.loop-link-test.true)))))

pub returns-in-Some-clause-cost : goal.returns-in-Some-clause-cost
returns-in-Some-clause-cost g c bar judges unready =
    let within : c.from.result < length c.args.boards.now = subst (λ i. i < length c.args.boards.now) (sym c.from.ensures) (c.requires.boards c.loop-link.link 0 c.loop-link-test.true) in
    let are = members_at-link c.args.boards.now c.args.chain.now c.loop-link.link c.from.result c.index-boards-from.result (filled c.slots.result.now) c.from.ensures within c.index-boards-from.is c.slots.ensures.members in
    omega (
      arith,
      c.loop-link.invariant.cost bar judges unready,
      c.in-Some.ensures.cost bar judges (subst (BarsUnready bar c.args.m) are (unready c.loop-link.link 0 c.loop-link-test.true)),
      most_steps-next bar c.args.m c.args.boards.now c.args.chain.now c.loop-link.link (filled c.slots.result.now) c.loop-link-test.true are,
    )

pub loop-link-preserved : goal.loop-link-preserved
loop-link-preserved g c =
    let within : c.from.result < length c.args.boards.now = subst (λ i. i < length c.args.boards.now) (sym c.from.ensures) (c.requires.boards c.loop-link.link 0 c.loop-link-test.true) in
    let are = members_at-link c.args.boards.now c.args.chain.now c.loop-link.link c.from.result c.index-boards-from.result (filled c.slots.result.now) c.from.ensures within c.index-boards-from.is c.slots.ensures.members in
    record {
      none = λ bar judges unready.
          c.loop-link.invariant.none bar judges unready ∙ ap (first_free bar) (chain_from-next c.args.boards.now c.args.chain.now c.loop-link.link (filled c.slots.result.now) c.loop-link-test.true are)
          ∙ find-behind (λ f. is_none (bar f.person)) (positions c.loop-link.link 1 (persons (filled c.slots.result.now))) _ (sym (c.in_default.ensures.first bar judges (subst (BarsUnready bar c.args.m) are (unready c.loop-link.link 0 c.loop-link-test.true))));
      cost = λ bar judges unready. omega (
        arith,
        c.loop-link.invariant.cost bar judges unready,
        c.in_default.ensures.cost bar judges (subst (BarsUnready bar c.args.m) are (unready c.loop-link.link 0 c.loop-link-test.true)),
        most_steps-next bar c.args.m c.args.boards.now c.args.chain.now c.loop-link.link (filled c.slots.result.now) c.loop-link-test.true are,
      );
    }
