-- The calls of a line, in their order.
use Rattle.std.specs.Prelude.{ℕ, List, [], ◌∷◌}
use Rattle.caller_lines.specs.Given.{Given}

-- one call: the line was asked, and gave this; or a text was put, which it took
pub data LineCall : Type 0 where
  Asked : (gave : Given) → LineCall
  PutText : (text : List ℕ) → LineCall

-- what the line gave, in order
abbrev pub given_in : List LineCall → List Given
given_in [] = []
given_in (Asked gave ∷ calls) = gave ∷ given_in calls
given_in (PutText text ∷ calls) = given_in calls

-- the texts that were put, in order
abbrev pub texts_in : List LineCall → List (List ℕ)
texts_in [] = []
texts_in (Asked gave ∷ calls) = texts_in calls
texts_in (PutText text ∷ calls) = text ∷ texts_in calls

-- the call of a note: it has what the line gave, or else the text that was put
abbrev pub noted : List Given → List (List ℕ) → LineCall
noted (gave ∷ more) texts = Asked gave
noted [] (text ∷ more) = PutText text
noted [] [] = PutText []
