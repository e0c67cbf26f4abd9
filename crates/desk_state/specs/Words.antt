-- Boards as the bits of a word, and a word for each person.
use Rattle.std.specs.Prelude.{ℕ, ◌==◌, Bool, ◌&&◌, nat_eq, nat_lt, Option, List, slice_index_or, if◌then◌else◌}
use Rattle.std.specs.Int.{bit_at}
use Rattle.std.specs.Option.{option_map_or}
use Rattle.desk_model.specs.declared.limits.TheConstants.{BOARD_LIMIT}

-- the word has the board at this index
abbrev pub has_board : ℕ → ℕ → Bool
has_board word j = nat_lt j BOARD_LIMIT && (bit_at word j == 1)

-- the word of the person at this index; that of no board where there is nobody
abbrev pub word_of : List ℕ → Option ℕ → ℕ
word_of words person = option_map_or (λ i. slice_index_or words i 0) person 0

-- the person at one index is kept as on the board at another
abbrev pub is_in : List ℕ → ℕ → ℕ → Bool
is_in words i j = has_board (slice_index_or words i 0) j

-- whether they are, where that is set at one person and one board
abbrev pub set_at : ℕ → ℕ → Bool → ℕ → ℕ → Bool → Bool
set_at person board to i j was = if nat_eq person i && nat_eq board j then to else was
