-- What a person did, and for which vacancy: read off every list of entries, legal or not.
use Rattle.std.specs.Prelude.{ℕ, nat_eq, Option, None, Some, if◌then◌else◌, List, [], ◌∷◌, ◌++◌, fold, map}
use Rattle.std.specs.List.{filter_map}
use Rattle.duty_events.specs.declared.event.Event.{Event}
use Rattle.desk_model.specs.declared.command.Cmd.{Cmd}
use Rattle.desk_model.specs.declared.command.Cmd.TheVariants as cmd
use Rattle.desk_model.specs.histories.History.{History, Step, steps, said}
use Rattle.desk_model.specs.histories.Duty.{may_come}
use Rattle.desk_model.specs.offers.Assigned.{assigned}

-- an event, and the vacancy that was assigned to the person just before; None where none was, or where the past was told
pub record Deed : Type 0 where
  pub event : Event
  pub vacancy : Option ℕ

abbrev pub deed_of : Event → Option ℕ → Deed
deed_of event vacancy = record { event = event; vacancy = vacancy }

-- what a command tells of this person, after a history
abbrev pub deed_told : ℕ → History → Cmd → Option Deed
deed_told p h (cmd.Past person event) = if nat_eq person p then Some (deed_of event None) else None
deed_told p h (cmd.Happened person event) = if nat_eq person p then Some (deed_of event (assigned h p)) else None
deed_told p h other = None

-- what a step tells of them, where its command was accepted
abbrev pub deed_by : ℕ → Step → Option Deed
deed_by p s = said (deed_told p s.before) s.entry

abbrev pub events_in : List Deed → List Event
events_in ds = map (λ d. d.event) ds

-- a deed is kept behind these where its event may follow theirs: it is allowed, its minutes lie in the years 2000 to 2099,
-- and it doesn't end before it begins
abbrev pub keep : List Deed → Deed → List Deed
keep ds d = if may_come (events_in ds) d.event then ds ++ d ∷ [] else ds

-- what a person did, each deed kept where it may follow those kept before it
unfoldable pub deeds : History → ℕ → List Deed
deeds h p = fold keep [] (filter_map (deed_by p) (steps h))
