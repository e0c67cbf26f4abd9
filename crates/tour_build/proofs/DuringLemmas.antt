-- The minutes up to the next event by a stage and a latest minute are those between the last event and it.
use Rattle.std.proofs.Common.{◌≡◌, ℕ, ◌+◌, ◌-◌, Bool, cond, Option, None, Some, List, refl, ap}
use Rattle.std.specs.Option.{option_map}
use Rattle.duty_events.specs.declared.event.Event.{Event}
use Rattle.duty_events.specs.declared.limits.TheConstants.{DUTY_LIMIT}
use Rattle.duty_events.specs.declared.minute_kind.MinuteKind.{MinuteKind}
use Rattle.duty_events.specs.declared.stage.Stage.{Stage}
use Rattle.duty_events.specs.Allowed.{first_minute, last_minute}
use Rattle.duty_events.specs.Between.{kind_until, minutes_between}
use Rattle.duty_events.specs.During.{kind_during}
use Rattle.duty_events.specs.Lists.{IsLawful, stage_of, last_event, latest}
use Rattle.duty_events.specs.Minutes.{shared}
use Rattle.duty_events.proofs.DuringLemmas.{kind_during-is}
use Rattle.month_hours.specs.Capped.{is_limbo}
use Rattle.month_hours.specs.Steps.{capped_between}
use Rattle.tour_build.specs.During.{minutes_during, capped_during}

pub minutes_during-is : (q : MinuteKind → Bool) (s : Stage) (last : Option ℕ) (es : List Event) (e : Event) → IsLawful es → s ≡ stage_of es → last ≡ latest es → (x n : ℕ)
    → minutes_during q s last e x n ≡ minutes_between q (last_event es) e x n
minutes_during-is q s last es e lawful at came x n = rw (at, came) (go (last_event es) (kind_during-is es lawful e))
  where
    go : (o : Option Event) → kind_during (stage_of es) e ≡ kind_until o e → minutes_during q (stage_of es) (option_map last_minute o) e x n ≡ minutes_between q o e x n
    go None is = refl
    go (Some p) is = ap (λ k. cond (q k) (shared (last_minute p) (first_minute e) x n) 0) is

pub capped_during-is : (s : Stage) (last : Option ℕ) (es : List Event) (e : Event) (sum was : ℕ) → IsLawful es → s ≡ stage_of es → last ≡ latest es → sum ≡ was → (x n : ℕ)
    → capped_during s last e sum x n ≡ capped_between (last_event es) e was x n
capped_during-is s last es e sum was lawful at came same x n = rw (at, came, same) (go (last_event es) (kind_during-is es lawful e))
  where
    go : (o : Option Event) → kind_during (stage_of es) e ≡ kind_until o e → capped_during (stage_of es) (option_map last_minute o) e was x n ≡ capped_between o e was x n
    go None is = refl
    go (Some p) is = ap (λ k. cond (is_limbo k) (shared (last_minute p + (DUTY_LIMIT - was)) (first_minute e) x n) 0) is
