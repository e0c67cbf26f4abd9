use Rattle.std.specs.Prelude.{◌≡◌, ℕ, ◌-◌, ◌<◌, List, [], ◌∷◌, ◌++◌, length, slice_get, None, Some}
use Rattle.std.specs.declared.option.Option.{Option}
use Rattle.caller_lines.specs.LineCalls.{LineCall, texts_in}

-- a list with one more at its end, where it is told
abbrev pub with_last : {A : Type 0} → Option (List A) → A → Option (List A)
with_last None x = None
with_last (Some xs) x = Some (xs ++ x ∷ [])

-- how many texts were put, 0 where no call is told
abbrev pub told_count : Option (List LineCall) → ℕ
told_count None = 0
told_count (Some calls) = length (texts_in calls)

-- the put of this number, from 1, is told, and it was of this text
abbrev pub WasPut : Option (List LineCall) → ℕ → List ℕ → Type 0
WasPut None number text = ⊥
WasPut (Some calls) number text = (0 < number) × (slice_get (texts_in calls) (number - 1) ≡ Some text)
