use Rattle.std.proofs.Common.{◌≡◌}
use Rattle.desk_text.proofs.SpelledEntryLemmas.{statement-unbarred, BeginsEntry-parts}
use Rattle.desk_text.proofs.spelled_entry.put_statement.Goals as goal

pub returns-in_err-caller-clause-only : goal.returns-in_err-caller-clause-only
returns-in_err-caller-clause-only c = λ s outcome is.
    absurd (c.in_err-caller.ensures.only s.caller _ is.caller_in is.line_is)

pub returns-in_err-stated-clause-only : goal.returns-in_err-stated-clause-only
returns-in_err-stated-clause-only c = λ s outcome is.
    let caller = c.in_ok-caller.ensures.only s.caller _ is.caller_in is.line_is in
    absurd (c.in_err-stated.ensures.only _ _ (statement-unbarred s.stated is.valid) caller.1)

pub returns-in_err-statement-clause-only : goal.returns-in_err-statement-clause-only
returns-in_err-statement-clause-only c = λ s outcome is.
    let caller = c.in_ok-caller.ensures.only s.caller _ is.caller_in is.line_is in
    let found = c.in_err-statement.ensures.only s.caller is.caller_in caller.0 in
    cc

pub returns-then-put_stated_text-clause-some : goal.returns-then-put_stated_text-clause-some
returns-then-put_stated_text-clause-some c = BeginsEntry-parts _ _ _ _ _ _ c.in_ok-statement.ensures.some.0 c.in_ok-caller.ensures.some c.in_ok-stated.ensures.some
    c.in_ok-statement.ensures.some.1 (c.put_stated_text.ensures.some c.if-put_stated_text.true)

pub returns-then-put_stated_text-clause-only : goal.returns-then-put_stated_text-clause-only
returns-then-put_stated_text-clause-only c = λ s outcome is.
    let caller = c.in_ok-caller.ensures.only s.caller _ is.caller_in is.line_is in
    let stated = c.in_ok-stated.ensures.only _ _ (statement-unbarred s.stated is.valid) caller.1 in
    let who = c.in_ok-statement.ensures.only s.caller is.caller_in caller.0 in
    let what = c.put_stated_text.ensures.only s.stated (record { valid = is.valid; text_is = stated.0 }) in
    let caller_is : c.in_ok-statement.field-0 ≡ s.caller = cc in
    (λ i. record { caller = caller_is i; stated = what.1 i }, stated.1)

pub returns-else-put_stated_text-clause-only : goal.returns-else-put_stated_text-clause-only
returns-else-put_stated_text-clause-only c = λ s outcome is.
    let caller = c.in_ok-caller.ensures.only s.caller _ is.caller_in is.line_is in
    let stated = c.in_ok-stated.ensures.only _ _ (statement-unbarred s.stated is.valid) caller.1 in
    let what = c.put_stated_text.ensures.only s.stated (record { valid = is.valid; text_is = stated.0 }) in
    let was = c.if-put_stated_text.false in
    let so = what.0 in
    cc
