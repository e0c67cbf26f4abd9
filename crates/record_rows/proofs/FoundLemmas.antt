-- The first mark in a text, as a search for it told.
use Rattle.std.proofs.Common.{◌≡◌, ◌≢◌, ◌∙◌, ℕ, ◌+◌, ◌==◌, Bool, true, false, Option, Some, None, is_some, not, List, [], ◌∷◌, get_or, take, drop, sym, ap, arith}
use Rattle.std.specs.List.{position_or_len, list_all}
use Rattle.std.proofs.lemmas.Bool.{false_from_ne_true, false≢true}
use Rattle.std.proofs.lemmas.Grind.{get_or_default_zero}
use Rattle.std.proofs.lemmas.List.Splits.{slice_split_first, slice_split_none}
use Rattle.std.proofs.lemmas.List.Sums.{position_or_len_is, list_all-from_AllPass}
use Rattle.std.proofs.lemmas.List.Elements.{All-from_get_or}
use Rattle.std.proofs.lemmas.List.Folds.{list_all_at}
use Rattle.std.proofs.lemmas.Bool.Decides.{nat_tests}
use Rattle.memchr.specs.Find.{IsFirstByte, is_byte, is_byte3}
use Rattle.record_rows.specs.Plain.{is_plain_byte}
use Rattle.desk_base.specs.Parts.{parts_by}

-- the bytes before the first mark are the first part
pub parts_by-found : (mark at : ℕ) (bytes : List ℕ) → IsFirstByte (is_byte mark) bytes (Some at)
    → parts_by mark bytes ≡ take at bytes ∷ parts_by mark (drop (at + 1) bytes)
parts_by-found mark at bytes found =
    let here : position_or_len (λ b. b == mark) bytes ≡ at = position_or_len_is (λ b. b == mark) bytes at 0 (omega (arith, found.0.high))
    (λ k before. false_from_ne_true _ (found.0.before k (omega arith) before)) (λ within. found.1) in
    slice_split_first (λ b. b == mark) bytes 0 (omega (arith, here, found.0.high))
    ∙ ap (λ n. take n bytes ∷ parts_by mark (drop (n + 1) bytes)) here

-- where there is no mark, all bytes are
pub parts_by-absent : (mark : ℕ) (bytes : List ℕ) → IsFirstByte (is_byte mark) bytes None → parts_by mark bytes ≡ bytes ∷ []
parts_by-absent mark bytes none =
    slice_split_none (λ b. b == mark) bytes (λ k d within. ap (λ b. b == mark) (get_or_default_zero bytes k d within) ∙ false_from_ne_true _ (none k (omega arith) within))

-- a text in which a search finds no quote and no end of a line has none, and one in which it finds one has
pub all-plain : (bytes : List ℕ) (found : Option ℕ) (absent : Bool) → is_some found ≡ not absent → IsFirstByte (is_byte3 34 10 13) bytes found
    → absent ≡ list_all is_plain_byte bytes
all-plain bytes None false told none = absurd (false≢true told)
all-plain bytes None true told none = sym (list_all-from_AllPass is_plain_byte bytes (All-from_get_or (λ b. is_plain_byte b ≡ true) bytes 0 (λ k within. other (get_or bytes k 0) (none k (omega arith) within))))
  where
    other : (b : ℕ) → is_byte3 34 10 13 b ≢ true → is_plain_byte b ≡ true
    other b apart = grind (arith, nat_tests, apart)
all-plain bytes (Some at) true told found = absurd (false≢true (sym told))
all-plain bytes (Some at) false told found = sym (list_all_at is_plain_byte bytes at 0 found.0.high (mark (get_or bytes at 0) found.1))
  where
    mark : (b : ℕ) → is_byte3 34 10 13 b ≡ true → is_plain_byte b ≡ false
    mark b is = grind (arith, nat_tests, is)
