use Rattle.std.proofs.Common.{[], refl, sym, ap, subst}
use Rattle.duty_events.specs.Gauge.{Tells}
use Rattle.duty_events.specs.EndedTours.{end_of}
use Rattle.duty_events.proofs.EndedTourLemmas.{last_tour-nil}
use Rattle.duty_events.proofs.PlaceLemmas.{place_of-nil}
use Rattle.consecutive_days.specs.Days.{is_away, is_off_at_home}
use Rattle.consecutive_days.proofs.StartLemmas.{last_start-nil, run_days-nil}
use Rattle.person_clock.proofs.days_clock.DaysClock.new.Goals as goal

pub returns : goal.returns
returns c = record {
  counts = record { days = sym run_days-nil; last = rw last_start-nil refl };
  away = ap (λ o. is_away o c.args.home) (sym last_tour-nil);
  there = λ t late. place_of-nil c.args.home t;
  until = c.starting.ensures.until;
  tells = subst (λ o. Tells (is_off_at_home [] c.args.home) (end_of o) c.starting.result) (sym last_tour-nil) (c.starting.ensures.tells (is_off_at_home [] c.args.home));
}
