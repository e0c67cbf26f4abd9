-- What records begin with that state a minute.
use Rattle.std.specs.Prelude.{◌≡◌, ℕ, IfSome, IsSomeAnd, List, [], ◌∷◌}
use Rattle.std.specs.declared.option.Option.{Option}
use Rattle.std.specs.Bool.{OnTrue, OnFalse}
use Rattle.desk_base.specs.Minute.{IsInYears, minute_text}
use Rattle.record_rows.specs.Rows.{records_of}
use Rattle.caller_lines.specs.CrewLines.{IsCrewRecord}
use Rattle.kept_desk.specs.declared.ahead.Beginning.{Beginning}

-- the first field is the text of this minute
pub record BeginsAt (fields : List (List ℕ)) (minute : ℕ) : Type 0 where
  pub in_years : IsInYears minute
  pub behind : List (List ℕ)
  pub fields_are : fields ≡ minute_text minute ∷ behind

-- the fields are those of a crew call at this minute
pub record IsCrewAt (fields : List (List ℕ)) (minute : ℕ) : Type 0 where
  pub first : ℕ
  pub second : ℕ
  pub crew : IsCrewRecord fields minute first second

-- with what the fields begin, and whether they are a crew call's
pub record BeginsWith (fields : List (List ℕ)) (found : Option Beginning) : Type 0 where
  pub only : (minute : ℕ) → BeginsAt fields minute → IsSomeAnd found (λ beginning. beginning.minute ≡ minute)
  pub crew : IfSome found (λ beginning. OnTrue beginning.is_crew (IsCrewAt fields beginning.minute))
  pub no_crew : IfSome found (λ beginning. OnFalse beginning.is_crew ((minute : ℕ) → ¬ IsCrewAt fields minute))

-- the line is one record
pub record HasOne (line : List ℕ) : Type 0 where
  pub fields : List (List ℕ)
  pub one : records_of line ≡ fields ∷ []

-- with what the only record of a line begins; nothing where it has none, or more than one
pub record LineBeginsWith (line : List ℕ) (found : Option Beginning) : Type 0 where
  pub record_begins : (fields : List (List ℕ)) → records_of line ≡ fields ∷ [] → BeginsWith fields found
  pub one : IfSome found (λ beginning. HasOne line)
