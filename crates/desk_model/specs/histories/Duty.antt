-- What persons have done: their events, and where they are.
use Rattle.std.specs.Prelude.{ℕ, Bool, nat_eq, Option, None, Some, is_some, not, if◌then◌else◌, List, [], ◌∷◌, ◌++◌, fold, map}
use Rattle.std.specs.Option.{option_map}
use Rattle.duty_events.specs.declared.event.Event.{Event}
use Rattle.duty_events.specs.Lists.{stage_of, latest, may_follow}
use Rattle.duty_events.specs.MinuteKind.{is_off}
use Rattle.duty_events.specs.Places as places
use Rattle.std.specs.List.{filter_map}
use Rattle.desk_model.specs.declared.command.Cmd.{Cmd}
use Rattle.desk_model.specs.declared.command.Cmd.TheVariants as cmd
use Rattle.desk_model.specs.declared.person.Person.{Person}
use Rattle.desk_model.specs.histories.History.{History, Step, steps, entry_no, said, first_of}

-- the event that a command tells of this person
abbrev pub tells : ℕ → Cmd → Option Event
tells p (cmd.Past person event) = if nat_eq person p then Some event else None
tells p (cmd.Happened person event) = if nat_eq person p then Some event else None
tells p other = None

-- an event, and the number of the entry that told it
pub record Told : Type 0 where
  pub place : ℕ
  pub event : Event

abbrev pub told_at : ℕ → Event → Told
told_at place event = record { place = place; event = event }

-- what a step tells of this person
abbrev pub told_by : ℕ → Step → Option Told
told_by p s = option_map (told_at (entry_no s)) (said (tells p) s.entry)

-- the events without these numbers
abbrev pub events_in : List Told → List Event
events_in xs = map (λ x. x.event) xs

-- an event is kept behind these where it may follow them: it is allowed, its minutes lie in the years 2000 to 2099, and it
-- doesn't end before it begins
abbrev pub may_come : List Event → Event → Bool
may_come es e = may_follow (stage_of es) (latest es) e

abbrev pub keep : List Told → Told → List Told
keep xs x = if may_come (events_in xs) x.event then xs ++ x ∷ [] else xs

-- what was told of a person and accepted, each event kept where it may follow those kept before it
unfoldable pub told : History → ℕ → List Told
told h p = fold keep [] (filter_map (told_by p) (steps h))

-- the person's events
unfoldable pub events : History → ℕ → List Event
events h p = events_in (told h p)

-- the person is in a tour of duty
abbrev pub in_tour : History → ℕ → Bool
in_tour h p = not (is_off (stage_of (events h p)))

-- where an enrolled person is at a moment: where their last tour or other service by then ended, else at home
abbrev pub place_at : History → ℕ → ℕ → Person → List ℕ
place_at h m p person = places.place_of (events h p) person.home m

-- a command after which the person's past can't be told any more: they are listed, or do something
abbrev pub closes : ℕ → Cmd → Option ℕ
closes p (cmd.List person board) = if nat_eq person p then Some person else None
closes p (cmd.Happened person event) = if nat_eq person p then Some person else None
closes p other = None

abbrev pub is_closed : History → ℕ → Bool
is_closed h p = is_some (first_of (said (closes p)) h.entries)
