use Rattle.std.proofs.Common.{decimal, refl}
use Rattle.desk_base.specs.Month.{month_text}
use Rattle.command_parser.proofs.SpelledLemmas.{same}
use Rattle.desk_text.proofs.PartLemmas.{month-unbroken}
use Rattle.desk_text.proofs.spelled_part.read_total.Goals as goal

pub returns-in_err-month-clause-only : goal.returns-in_err-month-clause-only
returns-in_err-month-clause-only c = λ m n in_years few e.
    absurd (c.in_err-month.ensures.only (month_text m) (decimal n) (month-unbroken m) e)

pub returns-in_err-read-clause-only : goal.returns-in_err-read-clause-only
returns-in_err-read-clause-only c = λ m n in_years few e.
    let both = c.in_ok-month.ensures.only (month_text m) (decimal n) (month-unbroken m) e in
    let none = c.in_err-read.ensures.only m in_years both.0 in cc

pub returns-in_err-read_decimal-clause-only : goal.returns-in_err-read_decimal-clause-only
returns-in_err-read_decimal-clause-only c = λ m n in_years few e.
    let both = c.in_ok-month.ensures.only (month_text m) (decimal n) (month-unbroken m) e in
    let none = c.in_err-read_decimal.ensures.only n few both.1 in cc

pub returns-clause-only : goal.returns-clause-only
returns-clause-only c = λ m n in_years few e.
    let both = c.in_ok-month.ensures.only (month_text m) (decimal n) (month-unbroken m) e in
    let month = same _ _ (c.in_ok-read.ensures.only m in_years both.0) in
    let total = same _ _ (c.in_ok-read_decimal.ensures.only n few both.1) in
    rw (month, total) refl
