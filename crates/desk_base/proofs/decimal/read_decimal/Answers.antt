use Rattle.std.proofs.Common.{ap, length, arith}
use Rattle.std.proofs.lemmas.Fmt.{length-decimal-le}
use Rattle.desk_base.specs.Decimal.{IsPlain}
use Rattle.desk_base.proofs.DecimalLemmas.{is_plain}
use Rattle.desk_base.proofs.decimal.read_decimal.Goals as goal

pub returns-in_default-clause-only : goal.returns-in_default-clause-only
returns-in_default-clause-only c = λ number small e.
    absurd (omega (arith, c.if-text-gt-MOST_DIGITS.true, ap length e, length-decimal-le 10 number (omega arith) (omega (arith, small)) (omega (arith, small))))

pub returns-in-empty-clause-only : goal.returns-in-empty-clause-only
returns-in-empty-clause-only c = λ number small e.
    let plain : IsPlain c.args.text.now = rw e (is_plain number small) in absurd (omega (arith, plain.0, plain.1))

pub returns-in-empty-2-clause-only : goal.returns-in-empty-2-clause-only
returns-in-empty-2-clause-only c = λ number small e.
    let plain : IsPlain c.args.text.now = rw e (is_plain number small) in absurd (omega (arith, plain.0, plain.1))
