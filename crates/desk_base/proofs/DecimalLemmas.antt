-- Texts of digits, and the numbers that they spell.
use Rattle.std.proofs.Common.{◌≡◌, ℕ, zero, suc, ◌+◌, ◌*◌, ◌-◌, ◌<◌, ◌^◌, ◌&&◌, Bool, true, false, List, [], ◌∷◌, ◌++◌, length, get_or, decimal, Result, Ok, Err, Some, IfSome, refl, sym, ap, ◌∙◌, arith, rules}
use Rattle.std.specs.Result.{OkIff, result_ok}
use Rattle.std.specs.Char.{is_ascii_digit}
use Rattle.std.specs.Str.{all_ascii_digits}
use Rattle.std.proofs.lemmas.Str.Parse.{IsNumeralModel, numerals_by_fold}
use Rattle.std.proofs.lemmas.Fmt.{decimal-digits_value, digits_decimal, digits_value-decimal, decimal_nonempty, decimal_digit, first_decimal}
use Rattle.desk_base.specs.Decimal.{IsPlain}

-- the number whose last digits these are
abbrev pub number_on : ℕ → List ℕ → ℕ
number_on n [] = n
number_on n (digit ∷ digits) = number_on (10 * n + (digit - 48)) digits

pub numerals : IsNumeralModel (λ ds. all_ascii_digits ds ≡ true) (number_on 0)
numerals = numerals_by_fold _ (search rules) number_on (search rules)

-- one digit more
pub number_on-more : (n : ℕ) (digits : List ℕ) (digit : ℕ) → number_on n (digits ++ digit ∷ []) ≡ 10 * number_on n digits + (digit - 48)
number_on-more n [] digit = refl
number_on-more n (d ∷ digits) digit = number_on-more (10 * n + (d - 48)) digits digit

both : (a b : Bool) → (a && b) ≡ true → (a ≡ true) × (b ≡ true)
both true b e = (refl, e)
both false b e = absurd (let e = e in cc)

pub all_ascii_digits-more : (digits : List ℕ) (digit : ℕ) → all_ascii_digits digits ≡ true → is_ascii_digit digit ≡ true → all_ascii_digits (digits ++ digit ∷ []) ≡ true
all_ascii_digits-more [] digit all one = rw one refl
all_ascii_digits-more (d ∷ digits) digit all one =
    let parts = both (is_ascii_digit d) (all_ascii_digits digits) all in
    rw (parts.0, all_ascii_digits-more digits digit parts.1 one) refl

pub all_ascii_digits-at : (digits : List ℕ) (i d : ℕ) → all_ascii_digits digits ≡ true → i < length digits → is_ascii_digit (get_or digits i d) ≡ true
all_ascii_digits-at [] i d all within = absurd (omega (arith, within))
all_ascii_digits-at (x ∷ digits) zero d all within = (both (is_ascii_digit x) (all_ascii_digits digits) all).0
all_ascii_digits-at (x ∷ digits) (suc i) d all within = all_ascii_digits-at digits i d (both (is_ascii_digit x) (all_ascii_digits digits) all).1 (omega (arith, within))

-- digits with no leading zero are written for their number
pub is_decimal : (text : List ℕ) → all_ascii_digits text ≡ true → number_on 0 text < 2 ^ 32 → IsPlain text → text ≡ decimal (number_on 0 text)
is_decimal text all small plain = sym (decimal-digits_value numerals text all plain.0 plain.1 (omega (arith, small)))

-- and what is written for a number are digits, of that number
pub decimal_digits : (number : ℕ) → number < 2 ^ 32 → (all_ascii_digits (decimal number) ≡ true) × (number_on 0 (decimal number) ≡ number)
decimal_digits number small = (digits_decimal numerals number (omega (arith, small)), digits_value-decimal numerals number (omega (arith, small)))

-- what is written of a number isn't empty, and has no leading zero
pub is_plain : (number : ℕ) → number < 2 ^ 32 → IsPlain (decimal number)
is_plain number small = (decimal_nonempty number (omega arith), one_zero number small)
  where
    one_zero : (n : ℕ) → n < 2 ^ 32 → get_or (decimal n) 0 0 ≡ 48 → length (decimal n) ≡ 1
    one_zero zero small e = ap length (decimal_digit 0 (omega arith))
    one_zero (suc k) small e = absurd (omega (arith, e, first_decimal (suc k) (omega arith) (omega (arith, small))))

-- what a conversion into 32 bits told of the number of a text's digits
pub converted-some : {E : Type 0} (text : List ℕ) (r : Result ℕ E) (number : ℕ) → OkIff r (number < 2 ^ 32) number → number ≡ number_on 0 text → all_ascii_digits text ≡ true
    → IfSome (result_ok r) (λ n. IsPlain text → text ≡ decimal n)
converted-some text (Err e) number told is all = tt
converted-some text (Ok n) number told is all = λ plain.
    let same : n ≡ number_on 0 text = told.1 ∙ is in
    rw same (is_decimal text all (omega (arith, told.0, is)) plain)

pub converted-only : {E : Type 0} (text : List ℕ) (r : Result ℕ E) (number n : ℕ) → OkIff r (number < 2 ^ 32) number → number ≡ number_on 0 text → n < 2 ^ 32 → text ≡ decimal n
    → result_ok r ≡ Some n
converted-only text (Err e) number n told is small same =
    let n_is : number ≡ n = is ∙ ap (number_on 0) same ∙ (decimal_digits n small).1 in absurd (told (omega (arith, n_is, small)))
converted-only text (Ok m) number n told is small same =
    let n_is : m ≡ n = told.1 ∙ is ∙ ap (number_on 0) same ∙ (decimal_digits n small).1 in rw n_is refl
