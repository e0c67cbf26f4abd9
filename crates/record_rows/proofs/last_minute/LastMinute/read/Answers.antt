use Rattle.std.proofs.Common.{◌∙◌, length, ap, arith}
use Rattle.std.proofs.lemmas.List.{take_all}
use Rattle.record_rows.proofs.MinuteLemmas.{length-minute_text}
use Rattle.record_rows.proofs.last_minute.LastMinute.read.Goals as goal

pub invariant_of-self : goal.invariant_of-self
invariant_of-self c =
    let text = c.args.text.now in
    let minute = c.in_ok-minute.minute in
    let is = c.in_ok-minute.ensures.some.1 in
    record { is = c.in-Some.ensures.cases.same ∙ take_all 16 text (omega (arith, ap length is, length-minute_text minute)) ∙ is }
