use Rattle.std.proofs.Common.{arith}
use Rattle.record_rows.proofs.MinuteLemmas.{time-is}
use Rattle.record_rows.proofs.last_minute.time_of.Goals as goal

pub returns-then-past-lt60 : goal.returns-then-past-lt60
returns-then-past-lt60 c =
    let h1 = c.in_ok-number_of.ensures in
    let h2 = c.in_ok-hour.ensures in
    let p1 = c.in_ok-number_of-2.ensures in
    let p2 = c.in_ok-past.ensures in
    (omega (arith, c.if-hour-lt24.true, c.if-past-lt60.true), time-is c.args.text.now _ _ _ _ c.told-text h1.0 h2.0 p1.0 p2.0 c.if-past-lt60.true h1.1 h2.1 (omega (arith, c.in-58)) p1.1 p2.1)
