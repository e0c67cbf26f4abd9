-- Sums of minutes by the months of a window.
use Rattle.std.specs.Prelude.{◌≡◌, ℕ, ◌+◌, ◌≤◌, ◌<◌, List, get_or}
use Rattle.desk_base.specs.Month.{first_minute, minutes_of}
use Rattle.desk_base.specs.Window.{WindowValue}
use Rattle.duty_events.specs.Minutes.{shared}

-- the sum at each index of the window is what is counted, of so many minutes from a first one on, in the month there
abbrev pub AreSums : WindowValue → (ℕ → ℕ → ℕ) → List ℕ → Type 0
AreSums window counted sums =
    (index : ℕ) → index < window.months → get_or sums index 0 ≡ counted (first_minute (window.first + index)) (minutes_of (window.first + index))

-- one count has the minutes from one on and before another more than another count, and never more than all
pub record IsMore (was now : ℕ → ℕ → ℕ) (from to : ℕ) : Type 0 where
  pub is : (first many : ℕ) → now first many ≡ was first many + shared from to first many
  pub most : (first many : ℕ) → now first many ≤ many
