-- The fields of an opening.
use Rattle.std.specs.Prelude.{◌≡◌, ℕ, List, decimal}
use Rattle.desk_base.specs.Month.{month_text}
use Rattle.desk_base.specs.Minute.{minute_text}
use Rattle.desk_base.specs.Window.{WindowValue, IsWindow}
use Rattle.desk_model.specs.declared.edition.Edition.{Edition}
use Rattle.desk_model.specs.texts.Journal.{opening_line}
use Rattle.desk_model.specs.statements.Opening.{OpeningValue, IsOpening, opening_fields}

-- the fields are this opening's
pub record StatesOpening (fields : List (List ℕ)) (o : OpeningValue) : Type 0 where
  pub valid : IsOpening o
  pub fields_are : fields ≡ opening_fields o

-- two fields spell a window
pub record SpellsWindow (month months : List ℕ) (w : WindowValue) : Type 0 where
  pub valid : IsWindow w
  pub first_is : month ≡ month_text w.first
  pub months_is : months ≡ decimal w.months

-- the first field, the third and the fourth, and the fifth spell an opening in an edition of the rules
pub record SpellsOpening (start month months answer : List ℕ) (edition : Edition) (o : OpeningValue) : Type 0 where
  pub valid : IsOpening o
  pub start_is : start ≡ minute_text o.start
  pub window_is : SpellsWindow month months o.window
  pub answer_is : answer ≡ decimal o.answer
  pub edition_is : edition ≡ o.edition

-- the line is this opening's
pub record IsOpeningLine (line : List ℕ) (o : OpeningValue) : Type 0 where
  pub valid : IsOpening o
  pub line_is : line ≡ opening_line o
