-- What the minutes up to the next event count as, by the stage that a lawful list ends in, as `kinds_by_the_stage` says.
use Rattle.std.specs.Prelude.{◌-◌}
use Rattle.duty_events.specs.declared.event.Event.{Event}
use Rattle.duty_events.specs.declared.minute_kind.MinuteKind.{MinuteKind}
use Rattle.duty_events.specs.declared.minute_kind.MinuteKind.TheVariants as minute
use Rattle.duty_events.specs.declared.stage.Stage.{Stage}
use Rattle.duty_events.specs.declared.stage.Stage.TheVariants as stage
use Rattle.duty_events.specs.Allowed.{first_minute}
use Rattle.duty_events.specs.MinuteKind.{first_leads, interim}

-- those behind the list's latest minute and before the event
abbrev pub kind_during : Stage → Event → MinuteKind
kind_during stage.Off next = minute.Off
kind_during stage.Riding next = minute.OnDuty
kind_during stage.Duty next = minute.OnDuty
kind_during (stage.Interim k since place) next = interim k (first_minute next - since) (first_leads next)
kind_during stage.Waiting next = minute.Limbo
kind_during stage.RidingHome next = minute.Limbo
