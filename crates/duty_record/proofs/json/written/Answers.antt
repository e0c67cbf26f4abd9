use Rattle.std.proofs.Common.{subst, sym, arith}
use Rattle.std.specs.Str.{IsAscii}
use Rattle.duty_record.proofs.AsciiLemmas.{minute_text-plain}
use Rattle.duty_record.proofs.json.written.Goals as goal

pub returns-clause-plain : goal.returns-clause-plain
returns-clause-plain c = subst IsAscii (sym c.write.ensures.text) (minute_text-plain c.args.minute (omega (arith, c.number.ensures.range))).bytes
