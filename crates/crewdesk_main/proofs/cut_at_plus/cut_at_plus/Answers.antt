use Rattle.std.proofs.Common.{◌≡◌, ◌+◌, ◌&&◌, ◌==◌, false, drop, get_or, ap, sym, refl, ◌∙◌, subst, arith}
use Rattle.std.proofs.lemmas.List.{take_rest}
use Rattle.crewdesk_main.specs.Parts.{is_plus}
use Rattle.crewdesk_main.proofs.PartLemmas.{Passed, Passed-journal, Passed-commands, Passed-more, Passed-whole, Passed-no_commands}
use Rattle.crewdesk_main.proofs.cut_at_plus.cut_at_plus.Goals as goal
use Rattle.crewdesk_main.proofs.cut_at_plus.cut_at_plus.Goals.{then-begins+in_default, else-begins}

pub returns-in-Some-clause-journal : goal.returns-in-Some-clause-journal
returns-in-Some-clause-journal c =
    Passed-journal c.args.text.now c.in-Some.more.now c.loop-at.at (sym (take_rest c.args.text.now c.loop-at.at) ∙ c.in-Some.ensures.some) (subst (Passed c.args.text.now c.loop-at.at) c.if-begins.true c.loop-at.invariant)

pub returns-in-Some-clause-more : goal.returns-in-Some-clause-more
returns-in-Some-clause-more c =
    Passed-commands c.args.text.now c.in-Some.more.now c.loop-at.at (sym (take_rest c.args.text.now c.loop-at.at) ∙ c.in-Some.ensures.some) (subst (Passed c.args.text.now c.loop-at.at) c.if-begins.true c.loop-at.invariant)

pub loop-at-preserved : goal.loop-at-preserved
loop-at-preserved c =
    let next : (c.loop-at.begins && is_plus (drop c.loop-at.at c.args.text.now)) ≡ false
    → Passed c.args.text.now (c.loop-at.at + 1) (get_or c.args.text.now c.loop-at.at 0 == 10) =
    λ not. Passed-more c.args.text.now c.loop-at.at c.loop-at.begins (omega (arith, c.loop-at-test.true)) not c.loop-at.invariant in
    elim c.if-begins.branch [
      | then-begins+in_default w ↦ next (rw (w.if-begins.true) (ap is_plus (sym (take_rest c.args.text.now c.loop-at.at)) ∙ w.behind_plus.ensures.none w.in_default.is))
      | else-begins w ↦ next (rw (w.if-begins.false) refl)
    ]

pub returns-clause-journal : goal.returns-clause-journal
returns-clause-journal c =
    Passed-whole c.args.text.now c.loop-at.at c.loop-at.begins (omega (arith, c.loop-at-test.false, c.loop-at.auto.at-end)) c.loop-at.invariant

pub returns-clause-more : goal.returns-clause-more
returns-clause-more c =
    Passed-no_commands c.args.text.now c.loop-at.at c.loop-at.begins (omega (arith, c.loop-at-test.false, c.loop-at.auto.at-end)) c.loop-at.invariant
