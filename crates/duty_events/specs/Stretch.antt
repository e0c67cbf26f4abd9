-- Stretches: minutes one after another that are all of a kind that is asked about.
use Rattle.std.specs.Prelude.{◌≡◌, ℕ, ◌+◌, ◌-◌, ◌<◌, ◌≤◌, Bool, true, ◌&&◌, nat_le}
use Rattle.std.specs.List.{list_any, list_all, range_with_len}

-- so many minutes of the kind, one after another, lie from one minute on and before another
pub record Stretch (asked : ℕ → Bool) (many from to : ℕ) : Type 0 where
  pub first : ℕ
  pub begins : from ≤ first
  pub ends : first + many ≤ to
  pub each : (t : ℕ) → first ≤ t → t < first + many → asked t ≡ true

-- whether so many minutes from a first one on end by another, and are all of the kind
abbrev pub is_stretch : (ℕ → Bool) → ℕ → ℕ → ℕ → Bool
is_stretch asked many to first = nat_le (first + many) to && list_all asked (range_with_len first many)

-- whether there is such a stretch, of one minute or more: a minute from the one on and before the other is the first of it
unfoldable pub has_stretch : (ℕ → Bool) → ℕ → ℕ → ℕ → Bool
has_stretch asked many from to = list_any (is_stretch asked many to) (range_with_len from (to - from))
