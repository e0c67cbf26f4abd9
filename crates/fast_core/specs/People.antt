-- What is kept of each person, beside what a history says of them.
use Rattle.std.specs.Prelude.{◌≡◌, ℕ, true, Option, None, Some, is_some, []}
use Rattle.person_clock.specs.Clock.{ClockValue}
use Rattle.desk_model.specs.histories.History.{History}
use Rattle.desk_model.specs.histories.Register.{person_of}
use Rattle.desk_model.specs.histories.Duty.{events}
use Rattle.desk_register.specs.Register.{Keeps}
use Rattle.desk_state.specs.Clocks.{clocks_of, window_of, AreClocks, IsClock}
use Rattle.fast_core.specs.declared.people.People.{People}

-- the register and the clocks are those of the history
pub record KeepsPeople (people : People) (h : History) : Type 0 where
  pub register : Keeps people.register h
  pub clocks : AreClocks (clocks_of people.duty) h
  pub window : window_of people.duty ≡ h.opening.window

-- it is the clock of an enrolled person; nobody else has one, or did anything
abbrev pub IsClockOf : Option ClockValue → History → ℕ → Type 0
IsClockOf None h p = (person_of h p ≡ None) × (events h p ≡ [])
IsClockOf (Some clock) h p = IsClock clock h p × (is_some (person_of h p) ≡ true)
