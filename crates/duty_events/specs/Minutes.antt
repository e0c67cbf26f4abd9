-- Counting minutes.
use Rattle.std.specs.Prelude.{ℕ, ◌+◌, ◌-◌, Bool, ◌&&◌, nat_lt, nat_le, min, max}
use Rattle.std.specs.List.{count_by, range_with_len}

-- how many of so many minutes, from a first one on, are of a kind that is asked about
unfoldable pub minutes_where : (ℕ → Bool) → ℕ → ℕ → ℕ
minutes_where asked first many = count_by asked (range_with_len first many)

-- the minute lies from one minute on and before another
abbrev pub is_within : ℕ → ℕ → ℕ → Bool
is_within from to t = nat_le from t && nat_lt t to

-- how many minutes from one on and before another are among so many from a first one on
abbrev pub shared : ℕ → ℕ → ℕ → ℕ → ℕ
shared from to first many = min to (first + many) - max from first
