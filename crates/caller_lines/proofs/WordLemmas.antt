-- A field that is compared with a word.
use Rattle.std.proofs.Common.{◌≡◌, ◌∙◌, ℕ, Bool, true, false, not, List, nat_eq, refl, sym}
use Rattle.std.specs.Cmp.Lexicographic.{pointwise}
use Rattle.std.proofs.lemmas.Bool.Decides.{Decides-eqb}
use Rattle.std.proofs.lemmas.Slice.Eq.{slice_eq-Decides}

no_not : (b : Bool) → not b ≡ false → b ≡ true
no_not true not_false = refl
no_not false not_false = sym not_false

-- a text that doesn't compare as unlike a word is the word
pub word-is : (text word spelled : List ℕ) (unlike : Bool) → unlike ≡ not (pointwise nat_eq text word) → unlike ≡ false → word ≡ spelled → text ≡ spelled
word-is text word spelled unlike told like is = (slice_eq-Decides Decides-eqb text word _ refl).0 (no_not _ (sym told ∙ like)) ∙ is
