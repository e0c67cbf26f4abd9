-- What each minute counts as, read from marks: each event is a mark at its minute; other service is two, one at its
-- first minute and one at its end. A minute counts by the last mark at or before it, and by the mark after that.
use Rattle.std.specs.Prelude.{ℕ, ◌-◌, Bool, true, false, nat_lt, nat_le, Option, None, Some, if◌then◌else◌, List, [], ◌∷◌, ◌++◌, reverse}
use Rattle.std.specs.List.{find}
use Rattle.duty_events.specs.declared.limits.TheConstants.{OFF_DUTY_INTERIM}
use Rattle.duty_events.specs.declared.kind.Kind.{Kind}
use Rattle.duty_events.specs.declared.kind.Kind.TheVariants as kind
use Rattle.duty_events.specs.declared.event.Event.{Event}
use Rattle.duty_events.specs.declared.event.Event.TheVariants as event
use Rattle.duty_events.specs.declared.stage.Stage.{Stage}
use Rattle.duty_events.specs.declared.stage.Stage.TheVariants as stage
use Rattle.duty_events.specs.declared.minute_kind.MinuteKind.{MinuteKind}
use Rattle.duty_events.specs.declared.minute_kind.MinuteKind.TheVariants as minute
use Rattle.duty_events.specs.Allowed.{last_minute}
use Rattle.duty_events.specs.Lists.{stage_after}

-- what a mark leads to
pub data Leads : Type 0 where
  ToOff : Leads
  ToOther : Leads
  ToRiding : Leads
  ToDuty : Leads
  ToResumed : Leads
  ToInterim : Kind → Leads
  ToWaiting : Leads
  ToRidingHome : Leads

-- a mark's minute, what it leads to, and whether a tour begins there
pub record Mark : Type 0 where
  pub at : ℕ
  pub leads : Leads
  pub begins : Bool

abbrev pub mark_of : ℕ → Leads → Bool → Mark
mark_of at leads begins = record { at = at; leads = leads; begins = begins }

abbrev pub is_off : Stage → Bool
is_off stage.Off = true
is_off s = false

-- a tour begins at an event that comes at a stage: at a ride or a duty from off
abbrev pub begins : Stage → Event → Bool
begins s (event.Ride t) = is_off s
begins s (event.Duty t) = is_off s
begins s e = false

-- what an event leads to from its last minute on
abbrev pub last_leads : Event → Leads
last_leads (event.Ride t) = ToRiding
last_leads (event.Duty t) = ToDuty
last_leads (event.Interim t k place) = ToInterim k
last_leads (event.Resume t) = ToResumed
last_leads (event.Relieve t) = ToWaiting
last_leads (event.RideHome t) = ToRidingHome
last_leads (event.Final t place) = ToOff
last_leads (event.Other span place) = ToOff

-- and from its first
abbrev pub first_leads : Event → Leads
first_leads (event.Other span place) = ToOther
first_leads e = last_leads e

-- the marks of an event that comes at a stage
abbrev pub marks_of : Stage → Event → List Mark
marks_of s (event.Other span place) = mark_of span.from ToOther false ∷ mark_of span.to ToOff false ∷ []
marks_of s e = mark_of (last_minute e) (last_leads e) (begins s e) ∷ []

-- the marks of events that come from a stage on, and of a list
abbrev pub marks_from : Stage → List Event → List Mark
marks_from s [] = []
marks_from s (e ∷ es) = marks_of s e ++ marks_from (stage_after s e) es

abbrev pub marks : List Event → List Mark
marks es = marks_from stage.Off es

-- the last mark at or before a minute, and the first mark after it
abbrev pub mark_before : List Mark → ℕ → Option Mark
mark_before ms t = find (λ m. nat_le m.at t) (reverse ms)

abbrev pub mark_after : List Mark → ℕ → Option Mark
mark_after ms t = find (λ m. nat_lt t m.at) ms

-- an interim that ends with a resume is on duty where it is of the kind O or shorter than four hours, else off
-- (21103(b)(5) to (7)); one that ends with the final release is off
abbrev pub resumed : Kind → ℕ → MinuteKind
resumed kind.O minutes = minute.OnDuty
resumed kind.D minutes = if nat_lt minutes OFF_DUTY_INTERIM then minute.OnDuty else minute.Off
resumed kind.P minutes = if nat_lt minutes OFF_DUTY_INTERIM then minute.OnDuty else minute.Off

abbrev pub interim : Kind → ℕ → Leads → MinuteKind
interim k minutes ToResumed = resumed k minutes
interim k minutes next = minute.Off

-- what the minutes between two marks count as: by what the first leads to, how many they are, and what the second
-- leads to
abbrev pub counted : Leads → ℕ → Leads → MinuteKind
counted ToOff minutes next = minute.Off
counted ToOther minutes next = minute.Other
-- 21103(b)(1), (2) and (4): on duty
counted ToRiding minutes next = minute.OnDuty
counted ToDuty minutes next = minute.OnDuty
counted ToResumed minutes next = minute.OnDuty
counted (ToInterim k) minutes next = interim k minutes next
-- the ride home by 21103(b)(4), and the wait for it by this desk's reading: neither on duty nor off
counted ToWaiting minutes next = minute.Limbo
counted ToRidingHome minutes next = minute.Limbo

-- what the minutes behind the last mark count as: an interim's are not known yet, and are counted nowhere. Other service
-- brings the mark of its end, so it is never the last
abbrev pub unended : Leads → MinuteKind
unended (ToInterim k) = minute.Open
unended ToOff = minute.Off
unended ToOther = minute.Off
unended ToRiding = minute.Off
unended ToDuty = minute.Off
unended ToResumed = minute.Off
unended ToWaiting = minute.Off
unended ToRidingHome = minute.Off

-- what a minute counts as by the mark before it and the mark after it
abbrev pub kind_between : Option Mark → Option Mark → MinuteKind
kind_between None b = minute.Off
kind_between (Some a) None = unended a.leads
kind_between (Some a) (Some b) = counted a.leads (b.at - a.at) b.leads

-- what a minute counts as after these events
unfoldable pub kind_of : List Event → ℕ → MinuteKind
kind_of es t = kind_between (mark_before (marks es) t) (mark_after (marks es) t)

-- it is worked: on duty, limbo or other service
abbrev pub is_worked : MinuteKind → Bool
is_worked minute.OnDuty = true
is_worked minute.Limbo = true
is_worked minute.Other = true
is_worked minute.Off = false
is_worked minute.Open = false

-- it is off: not worked, and not of an interim that has not ended
abbrev pub is_off_duty : MinuteKind → Bool
is_off_duty minute.Off = true
is_off_duty minute.OnDuty = false
is_off_duty minute.Limbo = false
is_off_duty minute.Other = false
is_off_duty minute.Open = false
