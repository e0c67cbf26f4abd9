-- Offsets of a civil time from UTC.
use Rattle.std.specs.Prelude.{ℕ, ◌+◌, ◌-◌, ◌*◌, ◌==◌, ◌&&◌, nat_le, nat_lt, Option, None, Some, if◌then◌else◌, List, [], ◌∷◌}
use Rattle.kept_desk.specs.declared.offset.Offset.{Offset}
use Rattle.kept_desk.specs.declared.offset.Offset.TheVariants.{Ahead, Behind}

-- the number that two decimal digits spell, below a limit; none for other bytes, and from the limit on
abbrev pub digits_below : ℕ → ℕ → ℕ → Option ℕ
digits_below limit tens ones =
    if nat_le 48 tens && nat_le tens 57 && nat_le 48 ones && nat_le ones 57 && nat_lt (10 * (tens - 48) + (ones - 48)) limit
    then Some (10 * (tens - 48) + (ones - 48)) else None

-- so many hours and minutes, ahead with a plus and behind with a minus
abbrev pub signed_offset : ℕ → Option ℕ → Option ℕ → Option Offset
signed_offset sign None past = None
signed_offset sign (Some hours) None = None
signed_offset sign (Some hours) (Some past) =
    if sign == 43 then Some (Ahead (60 * hours + past)) else if sign == 45 then Some (Behind (60 * hours + past)) else None

-- the offset whose text is `+HHMM` or `-HHMM`; none where the text is that of none
abbrev pub offset_in : List ℕ → Option Offset
offset_in (sign ∷ h1 ∷ h2 ∷ p1 ∷ p2 ∷ []) = signed_offset sign (digits_below 24 h1 h2) (digits_below 60 p1 p2)
offset_in other = None

-- the civil minute at a minute of UTC
abbrev pub civil_minute : Offset → ℕ → ℕ
civil_minute (Ahead minutes) utc = utc + minutes
civil_minute (Behind minutes) utc = utc - minutes
