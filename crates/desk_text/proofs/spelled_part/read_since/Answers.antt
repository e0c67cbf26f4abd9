use Rattle.std.proofs.Common.{◌∙◌, ◌∷◌, ◌++◌, ap}
use Rattle.command_parser.proofs.SpelledLemmas.{same}
use Rattle.desk_text.proofs.spelled_part.read_since.Goals as goal

pub returns-in_err-read-clause-only : goal.returns-in_err-read-clause-only
returns-in_err-read-clause-only c = λ minute rest in_years e.
    let both = c.in_ok-minute.ensures.only minute rest e in
    let none = c.in_err-read.ensures.only minute in_years both.0 in cc

pub returns-clause-some : goal.returns-clause-some
returns-clause-some c =
    let read = c.in_ok-read.ensures.some in
    (read.0, c.in_ok-minute.ensures.some ∙ ap (λ t. t ++ 32 ∷ c.in_ok-minute.rest.now) read.1)

pub returns-clause-only : goal.returns-clause-only
returns-clause-only c = λ minute rest in_years e.
    let both = c.in_ok-minute.ensures.only minute rest e in
    (same _ _ (c.in_ok-read.ensures.only minute in_years both.0), both.1)
