-- The number of which a hash is made.
use Rattle.std.specs.Prelude.{ℕ, List, length, take, nat_le, if◌then◌else◌}
use Rattle.std.specs.Int.{w32, from_le_bytes}

-- the number of the first four bytes, the lowest first; 0 where there are fewer
abbrev pub first_number : List ℕ → ℕ
first_number bytes = if nat_le 4 (length bytes) then from_le_bytes w32 (take 4 bytes) else 0
