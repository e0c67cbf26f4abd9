use Rattle.std.proofs.Common.{ap, ◌∙◌, take, refl}
use Rattle.record_rows.proofs.MinuteLemmas.{text-at, years-at, some-new}
use Rattle.record_rows.proofs.last_minute.LastMinute.of_same_day.Goals as goal

pub returns : goal.returns
returns c =
    let minute = c.args.self.now.minute in
    let time = c.in_ok-time.time in
    let of_time = c.in_ok-time.ensures in
    let last = c.number-last.ensures.value in
    let day = c.if-not-have_same_day.ensures refl ∙ ap (take 11) c.args.self.now.is in
    let made = rw last at c.new.ensures in
    some-new c.new.result _ _ _ made (years-at minute time of_time.0 (c.if-not-is_in_years.ensures.lies.0 refl), text-at c.args.text.now minute time of_time.0 day of_time.1)
