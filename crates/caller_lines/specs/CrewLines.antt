-- Lines that ask for a crew call.
use Rattle.std.specs.Prelude.{◌≡◌, ℕ, List, [], ◌∷◌, codes, decimal}
use Rattle.desk_base.specs.Minute.{IsInYears, minute_text}
use Rattle.desk_base.specs.Number.{IsNumber}
use Rattle.record_rows.specs.Rows.{records_of}

-- the fields of a crew call: these two vacancies are to be called at this minute
abbrev pub crew_fields : ℕ → ℕ → ℕ → List (List ℕ)
crew_fields minute first second = minute_text minute ∷ codes "crew" ∷ decimal first ∷ decimal second ∷ []

-- the fields are those of a crew call at a minute of the years 2000 to 2099
pub record IsCrewRecord (fields : List (List ℕ)) (minute first second : ℕ) : Type 0 where
  pub in_years : IsInYears minute
  pub number : IsNumber first
  pub other : IsNumber second
  pub fields_are : fields ≡ crew_fields minute first second

-- the line is one record, `M,crew,V,W`: vacancies V and W are to be called at minute M of the years 2000 to 2099
pub record IsCrewLine (line : List ℕ) (minute first second : ℕ) : Type 0 where
  pub in_years : IsInYears minute
  pub number : IsNumber first
  pub other : IsNumber second
  pub one : records_of line ≡ crew_fields minute first second ∷ []

-- the line asks for no crew call
abbrev pub IsNoCrew : List ℕ → Type 0
IsNoCrew line = (minute first second : ℕ) → ¬ IsCrewLine line minute first second
