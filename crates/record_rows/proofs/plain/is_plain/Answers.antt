use Rattle.std.proofs.Common.{rules}
use Rattle.record_rows.proofs.PlainLemmas.{records_of-plain}
use Rattle.record_rows.proofs.plain.is_plain.Goals as goal

pub returns-then-first-clause-one : goal.returns-then-first-clause-one
returns-then-first-clause-one c = λ all. records_of-plain c.args.text.now (search rules)
