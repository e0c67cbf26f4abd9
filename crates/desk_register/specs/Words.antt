-- The bits of words of 64.
use Rattle.std.specs.Prelude.{ℕ, ◌/◌, ◌%◌, Bool, ◌==◌, List, slice_index_or}
use Rattle.std.specs.Int.{bit_at}

-- the bit at the index is set, in words of 64 bits
abbrev pub has_index : List ℕ → ℕ → Bool
has_index words index = bit_at (slice_index_or words (index / 64) 0) (index % 64) == 1
