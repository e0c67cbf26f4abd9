-- A clock that is set.
use Rattle.std.specs.Prelude.{ℕ, None, Some, if◌then◌else◌, List, [], ◌∷◌}
use Rattle.std.specs.declared.option.Option.{Option}
use Rattle.desk_base.specs.Minute.{is_in_years}

-- the minutes that it has still to tell, the one that it told last, and how often it was asked
pub record Setting : Type 0 where
  pub left : List ℕ
  pub told : Option ℕ
  pub asked : ℕ

-- what it tells of these: the first, if it lies in the years 2000 to 2099
abbrev pub told_of : List ℕ → Option ℕ
told_of [] = None
told_of (minute ∷ later) = if is_in_years minute then Some minute else None
