-- What a clock has of each month.
use Rattle.std.proofs.Common.{◌≡◌, ℕ, ◌+◌, ◌-◌, ◌<◌, ◌≤◌, List, get_or, sym, ◌∙◌, arith}
use Rattle.desk_base.specs.Month.{first_minute as month_start, minutes_of}
use Rattle.duty_events.specs.declared.asked.Asked.TheVariants as asked
use Rattle.duty_events.specs.declared.event.Event.{Event}
use Rattle.duty_events.specs.Asked.{asked_minutes}
use Rattle.duty_events.proofs.AskedLemmas.{asked_minutes-most}
use Rattle.month_hours.specs.declared.limit.Limit.TheVariants as limit
use Rattle.month_hours.specs.Capped.{capped_minutes, capped}
use Rattle.month_hours.specs.Used.{used}
use Rattle.month_hours.proofs.CappedLemmas.{capped_minutes-most}
use Rattle.tour_build.proofs.SumLemmas.{sum-at}
use Rattle.person_clock.specs.Clock.{ClockValue, Stands}
use Rattle.person_clock.specs.Hours.{AreSoFar}
use Rattle.person_clock.proofs.HoursLemmas.{month-ends, worked-before, capped-before, used-is}

pub used-at : (c : ClockValue) (es : List Event) → Stands c es → (month : ℕ) → c.window.first ≤ month → month < c.window.first + c.window.months
    → get_or c.used (month - c.window.first) 0 ≡ used es month
used-at c es stands month from to = sum-at c.window (asked_minutes asked.Worked es) c.used stands.worked month from to ∙ used-is es month

pub capped-at : (c : ClockValue) (es : List Event) → Stands c es → (month : ℕ) → c.window.first ≤ month → month < c.window.first + c.window.months
    → get_or c.capped (month - c.window.first) 0 ≡ capped es month
capped-at c es stands month from to = sum-at c.window (capped_minutes es) c.capped stands.waited month from to

pub used-so_far : (c : ClockValue) (es : List Event) → Stands c es → AreSoFar limit.Hours c.window c.used es
used-so_far c es stands = record {
  at = used-at c es stands;
  before = λ month early. sym (used-is es month) ∙ worked-before c.window es stands.totals.lawful stands.lie (month_start month) (minutes_of month) (month-ends month c.window.first early);
  most = λ month. omega (arith, used-is es month, asked_minutes-most asked.Worked es (month_start month) (minutes_of month));
}

pub capped-so_far : (c : ClockValue) (es : List Event) → Stands c es → AreSoFar limit.Limbo c.window c.capped es
capped-so_far c es stands = record {
  at = capped-at c es stands;
  before = λ month early. capped-before c.window es stands.totals.lawful stands.lie (month_start month) (minutes_of month) (month-ends month c.window.first early);
  most = λ month. capped_minutes-most es (month_start month) (minutes_of month);
}
