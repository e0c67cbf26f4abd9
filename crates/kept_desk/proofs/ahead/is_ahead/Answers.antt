use Rattle.std.proofs.Common.{◌<◌, arith}
use Rattle.kept_desk.proofs.AheadLemmas.{ahead-crew, ahead-command, on-true, on-false, within-first, within-neither}
use Rattle.kept_desk.proofs.ahead.is_ahead.Goals as goal

pub returns-then-beginning-clause-ahead : goal.returns-then-beginning-clause-ahead
returns-then-beginning-clause-ahead c =
    let later : c.args.latest < c.in-Some.beginning.minute = omega (arith, c.if-number-latest.true, c.number.ensures.value) in
    rw (c.if-beginning.true) (ahead-crew _ _ _ (rw (c.in-Some.is) at c.in_ok-beginning.ensures) c.if-beginning.true later)

pub returns-in_ok-is_command-in-Some-clause-ahead : goal.returns-in_ok-is_command-in-Some-clause-ahead
returns-in_ok-is_command-in-Some-clause-ahead c =
    let later : c.args.latest < c.in-Some.beginning.minute = omega (arith, c.if-number-latest.true, c.number.ensures.value) in
    on-true _ _ _ (λ command. ahead-command _ _ _ (rw (c.in-Some.is) at c.in_ok-beginning.ensures) command later) c.in_ok-is_command-in-Some.ensures.some

pub returns-in_ok-is_command-in-Some-clause-within : goal.returns-in_ok-is_command-in-Some-clause-within
returns-in_ok-is_command-in-Some-clause-within c =
    on-false _ _ _ (λ none. within-neither _ _ _ (rw (c.in-Some.is) at c.in_ok-beginning.ensures) c.if-beginning.false none) c.in_ok-is_command-in-Some.ensures.none

pub returns-in_default-clause-within : goal.returns-in_default-clause-within
returns-in_default-clause-within c =
    within-first _ _ _ c.in_ok-beginning.ensures (rw (c.in-Some.is) (omega (arith, c.if-number-latest.false, c.number.ensures.value)))

pub returns-in_default-2-clause-within : goal.returns-in_default-2-clause-within
returns-in_default-2-clause-within c = within-first _ _ _ c.in_ok-beginning.ensures (rw (c.in_default.is) tt)
