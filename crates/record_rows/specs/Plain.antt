-- Texts whose records are their lines, cut at commas.
use Rattle.std.specs.Prelude.{ℕ, ◌==◌, Bool, true, false, ◌&&◌, not, List, [], ◌∷◌, map, filter, if◌then◌else◌}
use Rattle.std.specs.List.{list_all}
use Rattle.desk_base.specs.Parts.{parts_by}

-- a byte that is neither a quote nor of the end of a line
abbrev pub is_plain_byte : ℕ → Bool
is_plain_byte b = not (b == 34) && (not (b == 10) && not (b == 13))

-- a text that isn't empty, doesn't begin with the byte EF, as a byte order mark does, and has such bytes alone
abbrev pub is_plain : List ℕ → Bool
is_plain [] = false
is_plain (b ∷ rest) = not (b == 0xEF) && list_all is_plain_byte (b ∷ rest)

-- whether a line has any bytes
abbrev pub has_bytes : List ℕ → Bool
has_bytes [] = false
has_bytes (b ∷ rest) = true

-- the lines that have any bytes, each with the fields between its commas
abbrev pub plain_records : List ℕ → List (List (List ℕ))
plain_records text = map (parts_by 44) (filter has_bytes (parts_by 10 text))

-- those, where this is the first line
abbrev pub records_with : List ℕ → List (List (List ℕ)) → List (List (List ℕ))
records_with line rest = if has_bytes line then parts_by 44 line ∷ rest else rest
