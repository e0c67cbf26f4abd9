-- Numbers in decimal.
use Rattle.std.specs.Prelude.{◌≡◌, ℕ, ◌<◌, List, length, slice_index_or}

-- a text that isn't empty, with no leading zero
abbrev pub IsPlain : List ℕ → Type 0
IsPlain text = (0 < length text) × (slice_index_or text 0 0 ≡ 48 → length text ≡ 1)
