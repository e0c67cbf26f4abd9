use Rattle.std.proofs.Common.{decimal, arith, refl}
use Rattle.command_parser.proofs.SpelledLemmas.{same}
use Rattle.desk_text.proofs.ReplyApartLemmas.{decimal-unbroken}
use Rattle.desk_text.proofs.spelled_part.read_numbers.Goals as goal

pub returns-in_err-first-clause-only : goal.returns-in_err-first-clause-only
returns-in_err-first-clause-only c = λ a b few also e.
    absurd (c.in_err-first.ensures.only (decimal a) (decimal b) (decimal-unbroken a (omega (arith, few))) e)

pub returns-in_err-read_decimal-clause-only : goal.returns-in_err-read_decimal-clause-only
returns-in_err-read_decimal-clause-only c = λ a b few also e.
    let both = c.in_ok-first.ensures.only (decimal a) (decimal b) (decimal-unbroken a (omega (arith, few))) e in
    let none = c.in_err-read_decimal.ensures.only a few both.0 in cc

pub returns-in_err-read_decimal-2-clause-only : goal.returns-in_err-read_decimal-2-clause-only
returns-in_err-read_decimal-2-clause-only c = λ a b few also e.
    let both = c.in_ok-first.ensures.only (decimal a) (decimal b) (decimal-unbroken a (omega (arith, few))) e in
    let none = c.in_err-read_decimal-2.ensures.only b also both.1 in cc

pub returns-clause-only : goal.returns-clause-only
returns-clause-only c = λ a b few also e.
    let both = c.in_ok-first.ensures.only (decimal a) (decimal b) (decimal-unbroken a (omega (arith, few))) e in
    let first = same _ _ (c.in_ok-read_decimal.ensures.only a few both.0) in
    let second = same _ _ (c.in_ok-read_decimal-2.ensures.only b also both.1) in
    rw (first, second) refl
