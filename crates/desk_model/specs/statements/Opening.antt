-- How a desk is opened.
use Rattle.std.specs.Prelude.{ℕ, ◌≤◌, List, [], ◌∷◌, codes, decimal}
use Rattle.desk_base.specs.Month.{month_text}
use Rattle.desk_base.specs.Minute.{minute_text}
use Rattle.desk_base.specs.Window.{WindowValue, IsWindow, Holds}
use Rattle.desk_model.specs.declared.edition.Edition.{Edition}
use Rattle.desk_model.specs.declared.edition.Edition.TheVariants as edition

-- the desk's first minute, its window of months, how many minutes a person has to answer an offer, and the edition of the rules
pub record OpeningValue : Type 0 where
  pub start : ℕ
  pub window : WindowValue
  pub answer : ℕ
  pub edition : Edition

-- the first minute lies in the window, and the answer window is 1 to 60 minutes
pub record IsOpening (o : OpeningValue) : Type 0 where
  pub window : IsWindow o.window
  pub start : Holds o.window o.start
  pub some : 1 ≤ o.answer
  pub most : o.answer ≤ 60

abbrev pub opening_of : ℕ → WindowValue → ℕ → Edition → OpeningValue
opening_of start window answer edition = record { start = start; window = window; answer = answer; edition = edition }

-- what names the edition in the opening's record: nothing the first, a sixth field `2` the second
abbrev pub edition_fields : Edition → List (List ℕ)
edition_fields edition.One = []
edition_fields edition.Two = codes "2" ∷ []

-- the fields of the opening's record: `M,open,month,months,answer`, and what names the edition
abbrev pub opening_fields : OpeningValue → List (List ℕ)
opening_fields o = minute_text o.start ∷ codes "open" ∷ month_text o.window.first ∷ decimal o.window.months ∷ decimal o.answer ∷ edition_fields o.edition
