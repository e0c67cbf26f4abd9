use Rattle.std.proofs.Common.{Some, ap, sym, ◌∙◌, length, arith}
use Rattle.std.proofs.lemmas.List.{take_all}
use Rattle.record_rows.proofs.MinuteLemmas.{minute_text-one, length-minute_text}
use Rattle.record_rows.proofs.last_minute.LastMinute.read_beside.Goals as goal
use Rattle.record_rows.proofs.last_minute.LastMinute.read_beside.Goals.{in_default-via-in-Some+else-text-eq-TEXT_BYTES, in_default-via-in_default}

pub returns-in-Some-of_same_day-clause-only : goal.returns-in-Some-of_same_day-clause-only
returns-in-Some-of_same_day-clause-only c = λ minute years is.
    ap Some (minute_text-one c.in-Some-of_same_day.minute minute (sym c.in-Some-of_same_day.ensures.1 ∙ c.in-Some.ensures.cases.same ∙ take_all 16 c.args.text.now (omega (arith, c.if-text-eq-TEXT_BYTES.true)) ∙ is))

pub returns-in_default-clause-only : goal.returns-in_default-clause-only
returns-in_default-clause-only c = λ minute years is.
    let len = ap length is ∙ length-minute_text minute in
    absurd (elim c.in_default.branch [
      | in_default-via-in-Some+else-text-eq-TEXT_BYTES w ↦ w.if-text-eq-TEXT_BYTES.false len
      | in_default-via-in_default w ↦ omega (arith, len, w.in_default.ensures.cases)
    ])
