-- Numbers that words spell.
use Rattle.std.proofs.Common.{◌≡◌, ℕ, ◌<◌, ◌^◌, Bool, true, false, ◌&&◌, nat_eq, nat_lt, None, Some, if◌then◌else◌, List, decimal, refl, sym, arith, rules}
use Rattle.std.specs.Cmp.Lexicographic.{pointwise}
use Rattle.std.specs.Str.{all_ascii_digits}
use Rattle.std.specs.Str.Parse.{digits_value}
use Rattle.std.proofs.lemmas.Bool.Decides.{Decides-eqb, nat_tests}
use Rattle.std.proofs.lemmas.Slice.Eq.{slice_eq-Decides}
use Rattle.std.proofs.lemmas.Fmt.{digits_value-decimal}
use Rattle.std.proofs.lemmas.Str.Parse.{IsNumeralModel, numerals_by_value}
use Rattle.crewdesk_main.specs.Words.{number_in}

numerals : IsNumeralModel (λ ds. all_ascii_digits ds ≡ true) (digits_value 10)
numerals = numerals_by_value _ (search rules)

-- a text that is a number's decimal spells it
pub number_in-decimal : (text : List ℕ) (n : ℕ) → n < 2 ^ 64 → text ≡ decimal n → number_in text ≡ Some n
unfolding number_in
number_in-decimal text n small e =
    let less : nat_lt n (2 ^ 64) ≡ true = grind (arith, nat_tests, small) in
    let same : pointwise nat_eq (decimal n) (decimal n) ≡ true = (slice_eq-Decides Decides-eqb (decimal n) (decimal n) _ refl).1 refl in
    rw (e, digits_value-decimal numerals n small, less, same) refl

-- and one that is no number's spells none
pub number_in-none : (text : List ℕ) → ((n : ℕ) → n < 2 ^ 64 → text ≡ decimal n → ⊥) → number_in text ≡ None
unfolding number_in
number_in-none text none = go (nat_lt (digits_value 10 text) (2 ^ 64)) (pointwise nat_eq (decimal (digits_value 10 text)) text) refl refl
  where
    go : (a b : Bool) → nat_lt (digits_value 10 text) (2 ^ 64) ≡ a → pointwise nat_eq (decimal (digits_value 10 text)) text ≡ b
        → (if a && b then Some (digits_value 10 text) else None) ≡ None
    go true true less same = absurd (none (digits_value 10 text) (grind (arith, nat_tests, less)) (sym ((slice_eq-Decides Decides-eqb (decimal (digits_value 10 text)) text _ refl).0 same)))
    go true false less same = refl
    go false b less same = refl
