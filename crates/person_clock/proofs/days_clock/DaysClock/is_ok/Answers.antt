use Rattle.std.proofs.Common.{◌≡◌, nat_le, refl, subst, ◌∙◌, arith}
use Rattle.duty_events.specs.EndedTours.{last_tour, end_of}
use Rattle.duty_events.specs.Gauge.{Tells}
use Rattle.duty_events.specs.Stretch.{has_stretch}
use Rattle.consecutive_days.specs.Days.{is_off_at_home, TellsOffAtHome}
use Rattle.duty_events.proofs.OffLemmas.{off-behind}
use Rattle.consecutive_days.proofs.HomeLemmas.{at_home-behind}
use Rattle.person_clock.proofs.days_clock.DaysClock.is_ok.Goals as goal

pub returns : goal.returns
returns c es lawful off late days =
    let home = c.args.home in
    let asked = is_off_at_home es home in
    let end = end_of (last_tour es) in
    let until : c.pass.result.until ≡ c.args.report = omega (arith, c.pass.ensures.until, c.number.ensures.value, days.until, late) in
    let tells : Tells asked end c.pass.result =
    c.pass.ensures.tells asked asked end days.tells (λ t early. refl)
    (λ t from to. at_home-behind es home c.args.self.now.place lawful days.there t (omega (arith, from, days.until)) ∙ rw (c.is_at_home-is_home.ensures, off-behind es lawful off) refl) in
    let longest : TellsOffAtHome es home c.args.report c.longest-longest.result =
    λ many some. subst (λ u. nat_le many c.longest-longest.result ≡ has_stretch asked many end u) until (c.longest-longest.ensures.stretch asked end many tells some) in
    c.are_days_ok.ensures.events es home days.counts days.away longest
