-- Clocks of persons, beside what a history says of what they did.
use Rattle.std.specs.Prelude.{◌≡◌, ℕ, None, Some, List, [], ◌∷◌, ◌++◌, length, slice_set}
use Rattle.std.specs.List.{slice_get}
use Rattle.std.specs.Option.{option_map}
use Rattle.desk_base.specs.Window.{WindowValue}
use Rattle.duty_events.specs.declared.event.Event.{Event}
use Rattle.person_clock.specs.Clock.{ClockValue, Stands, MayTake}
use Rattle.desk_model.specs.histories.History.{History}
use Rattle.desk_model.specs.histories.Register.{person_of, persons}
use Rattle.desk_model.specs.histories.Duty.{events}
use Rattle.desk_register.specs.Among.{index_among}
use Rattle.desk_state.specs.declared.duty.Duty.{Duty}

-- the clocks of a desk's persons, by their indexes
abbrev pub clocks_of : Duty → List ClockValue
clocks_of d = d.clocks.items

-- and the desk's window
abbrev pub window_of : Duty → WindowValue
window_of d = d.window

-- the clock is this person's: it stands for their events, in the desk's window, with their home
pub record IsClock (c : ClockValue) (h : History) (p : ℕ) : Type 0 where
  pub stands : Stands c (events h p)
  pub window : c.window ≡ h.opening.window
  pub home : option_map (λ x. x.home) (person_of h p) ≡ Some c.home

-- at the index of each person is their clock, and who isn't enrolled did nothing
pub record AreClocks (clocks : List ClockValue) (h : History) : Type 0 where
  pub each : (p i : ℕ) → index_among (persons h) p ≡ Some i → (c : ClockValue) × ((slice_get clocks i ≡ Some c) × IsClock c h p)
  pub none : (p : ℕ) → index_among (persons h) p ≡ None → events h p ≡ []
  pub many : length clocks ≡ length (persons h)

-- ---- one event more, and one person more

-- the clock has taken in the event
pub record HasTaken (c later : ClockValue) (t : Event) : Type 0 where
  pub window : later.window ≡ c.window
  pub home : later.home ≡ c.home
  pub stands : (es : List Event) → Stands c es → Stands later (es ++ t ∷ [])

-- so has the one at this index, and no other changes
abbrev pub Tells : ℕ → Event → List ClockValue → List ClockValue → Type 0
Tells i t clocks later = (c : ClockValue) → slice_get clocks i ≡ Some c → MayTake c t → (x : ClockValue) × ((later ≡ slice_set clocks i x) × HasTaken c x t)

-- a clock is new
pub record IsNew (c : ClockValue) (window : WindowValue) (home : List ℕ) : Type 0 where
  pub stands : Stands c []
  pub window_is : c.window ≡ window
  pub home_is : c.home ≡ home

-- there is one more at the end
abbrev pub Enrols : WindowValue → List ℕ → List ClockValue → List ClockValue → Type 0
Enrols window home clocks later = (x : ClockValue) × ((later ≡ clocks ++ x ∷ []) × IsNew x window home)
