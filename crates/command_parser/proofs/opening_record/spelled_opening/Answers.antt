use Rattle.std.proofs.Common.{◌≡◌, arith}
use Rattle.std.specs.Option.{SomeIff}
use Rattle.desk_model.specs.statements.Opening.{IsOpening}
use Rattle.desk_base.proofs.WindowLemmas.{in_years-Holds}
use Rattle.command_parser.proofs.OpeningLemmas.{SomeIff-yes}
use Rattle.command_parser.proofs.opening_record.spelled_opening.Goals as goal

pub returns-in_err-start-clause-only : goal.returns-in_err-start-clause-only
returns-in_err-start-clause-only c = λ opening spells.
    let in_years = in_years-Holds opening.window opening.start spells.valid.window spells.valid.start in
    let none = c.in_err-start.ensures.only opening.start in_years spells.start_is in cc

pub returns-clause-only : goal.returns-clause-only
returns-clause-only c = λ opening spells.
    let in_years = in_years-Holds opening.window opening.start spells.valid.window spells.valid.start in
    let some_start = c.in_ok-start.ensures.only opening.start in_years spells.start_is in
    let some_window = c.in_ok-window.ensures.only opening.window spells.window_is in
    let some_answer = c.in_ok-answer.ensures.only opening.answer (omega (arith, spells.valid.most)) spells.answer_is in
    let start : c.in_ok-start.start ≡ opening.start = cc in
    let window : c.in_ok-window.window ≡ opening.window = cc in
    let answer : c.in_ok-answer.answer ≡ opening.answer = cc in
    let new : SomeIff c.new.result (IsOpening opening) opening = rw (start, window, answer, spells.edition_is) at c.new.ensures in
    SomeIff-yes c.new.result (IsOpening opening) opening new spells.valid
