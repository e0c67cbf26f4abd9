-- A stage tells as much of the minutes up to the next event as the event that led there.
use Rattle.std.proofs.Common.{◌≡◌, ℕ, Option, IsOk, List, refl}
use Rattle.std.proofs.lemmas.Bool.{false≢true}
use Rattle.duty_events.specs.declared.event.Event.{Event}
use Rattle.duty_events.specs.declared.event.Event.TheVariants as event
use Rattle.duty_events.specs.declared.stage.Stage.{Stage}
use Rattle.duty_events.specs.declared.stage.Stage.TheVariants as stage
use Rattle.duty_events.specs.Allowed.{allow}
use Rattle.duty_events.specs.Between.{between, kind_until}
use Rattle.duty_events.specs.During.{kind_during}
use Rattle.duty_events.specs.Lists.{IsLawful, stage_after, stage_of, last_event, latest}
use Rattle.duty_events.proofs.ListLemmas.{stage_of-push, last_event-push, lawful-induction}

-- so it does after an event that is allowed
kind_during-after : (e : Event) (s : Stage) (last : Option ℕ) (next : Event) → IsOk (allow s e last) → kind_during (stage_after s e) next ≡ between e next
kind_during-after (event.Ride t) stage.Off last next ok = refl
kind_during-after (event.Duty t) stage.Off last next ok = refl
kind_during-after (event.Duty t) stage.Riding last next ok = refl
kind_during-after (event.Other span place) stage.Off last next ok = refl
kind_during-after (event.Interim t k place) stage.Duty last next ok = refl
kind_during-after (event.Resume t) (stage.Interim k since at) last next ok = refl
kind_during-after (event.Relieve t) stage.Duty last next ok = refl
kind_during-after (event.RideHome t) stage.Duty last next ok = refl
kind_during-after (event.RideHome t) stage.Waiting last next ok = refl
kind_during-after (event.Final t place) stage.Riding last next ok = refl
kind_during-after (event.Final t place) stage.Duty last next ok = refl
kind_during-after (event.Final t place) (stage.Interim k since at) last next ok = refl
kind_during-after (event.Final t place) stage.Waiting last next ok = refl
kind_during-after (event.Final t place) stage.RidingHome last next ok = refl
kind_during-after e s last next ok = absurd (false≢true ok)

pub kind_during-is : (es : List Event) → IsLawful es → (next : Event) → kind_during (stage_of es) next ≡ kind_until (last_event es) next
kind_during-is es lawful =
    lawful-induction (λ xs. (next : Event) → kind_during (stage_of xs) next ≡ kind_until (last_event xs) next) (λ next. refl)
    (λ old e before fits was next. rw (stage_of-push old e, last_event-push old e) (kind_during-after e (stage_of old) (latest old) next fits.allowed))
    es lawful
