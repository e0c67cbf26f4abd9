use Rattle.std.proofs.Common.{ap, sym, ◌∙◌}
use Rattle.std.specs.Option.{option_copied}
use Rattle.record_rows.proofs.PlainLemmas.{records_of-empty, records_of-lines}
use Rattle.record_rows.proofs.plain.has_plain_lines.Goals as goal

pub returns-then-first : goal.returns-then-first
returns-then-first c =
    records_of-lines c.args.text.now c.in-Some.first.now c.memchr2.result c.is_none.result (ap option_copied (sym c.in-Some.is) ∙ c.first.ensures.value) c.if-first.true c.memchr2.ensures c.is_none.ensures

pub returns-in-None : goal.returns-in-None
returns-in-None c = λ _. records_of-empty c.args.text.now (ap option_copied (sym c.in-None.is) ∙ c.first.ensures.value)
