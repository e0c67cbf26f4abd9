-- The numbers of a set: their bits, their text, and its parts.
use Rattle.std.proofs.Common.{◌≡◌, ℕ, zero, suc, ◌+◌, ◌-◌, ◌*◌, ◌/◌, ◌%◌, ◌^◌, ◌<◌, ◌≤◌, ◌⊎◌, inl, inr, true, false, cond, ◌==◌, List, [], ◌∷◌, ◌++◌, length, get_or, map, decimal, codes, bit_or, refl, sym, ap, ◌∙◌, arith, append_assoc, append-nil, length-append, add-one, w64, max}
use Rattle.std.specs.Bool.{⊤}
use Rattle.std.specs.Int.{bit_at, trailing_zeros}
use Rattle.std.specs.Int.Bits.{or_shifted_r}
use Rattle.std.specs.List.{All, join_with_byte}
use Rattle.std.proofs.lemmas.List.Splits.{join_with_byte-slice_split, length-slice_split}
use Rattle.std.proofs.Math.Arith.{mod-mul}
use Rattle.std.proofs.Math.Nat.{pow-succ', mod-lt, mod-eq_of_lt, div-div-eq-div-mul, div-eq_of_lt, div-le_self}
use Rattle.std.proofs.lemmas.Nat.{pow-add}
use Rattle.std.proofs.Math.Pow.{pow_pos, pow_mono}
use Rattle.std.proofs.lemmas.Bool.{cases_Bool, cases_lt, eqb-true, eqb-false, eq-eqb, ne_eqb, cond-false}
use Rattle.std.proofs.lemmas.List.Elements.{All-from_get_or}
use Rattle.std.proofs.lemmas.Nat.Bits.{bit_at-lt, bit_at-zero, bit_at-trailing_zeros, bit_at_or, bit_at-pow_same, bit_at-pow_other}
use Rattle.std.proofs.lemmas.Fmt.{decimal_is_IsNumeral, decimal_nonempty}
use Rattle.std.proofs.lemmas.Str.Parse.{digit_at}
use Rattle.desk_base.specs.Parts.{parts_by}
use Rattle.desk_base.proofs.PartsLemmas.{AreUnmarked, parts_by-join}
use Rattle.qualifications.specs.Quals.{has, HasNone, numbers_below, joined, with_number, quals_text}

-- each of the numbers is below this bound
abbrev pub AreBelow : ℕ → List ℕ → Type 0
AreBelow bound [] = ⊤
AreBelow bound (n ∷ ns) = (n < bound) × AreBelow bound ns

AreBelow-push : (bound : ℕ) (ns : List ℕ) (n : ℕ) → AreBelow bound ns → n < bound → AreBelow bound (ns ++ n ∷ [])
AreBelow-push bound [] n below h = (h, tt)
AreBelow-push bound (m ∷ ns) n below h = (below.0, AreBelow-push bound ns n below.1 h)

-- one number more
numbers_below-had : (quals n : ℕ) → has quals n ≡ true → numbers_below quals (suc n) ≡ numbers_below quals n ++ n ∷ []
unfolding numbers_below
numbers_below-had quals n e = rw e refl

numbers_below-lacked : (quals n : ℕ) → has quals n ≡ false → numbers_below quals (suc n) ≡ numbers_below quals n
unfolding numbers_below
numbers_below-lacked quals n e = rw e (append-nil (numbers_below quals n))

-- where there are none between, the numbers are the same
numbers_below-gap : (quals from k : ℕ) → HasNone quals from (from + k) → numbers_below quals (from + k) ≡ numbers_below quals from
numbers_below-gap quals from zero none = let same : from + 0 ≡ from = omega arith in rw same refl
numbers_below-gap quals from (suc k) none =
    let next : from + suc k ≡ suc (from + k) = omega arith in
    rw next (numbers_below-lacked quals (from + k) (none (from + k) (omega arith) (omega arith))) ∙ numbers_below-gap quals from k (λ n low high. none n low (omega arith))

pub numbers_below-none : (quals from to : ℕ) → from ≤ to → HasNone quals from to → numbers_below quals from ≡ numbers_below quals to
numbers_below-none quals from to h none =
    let same : from + (to - from) ≡ to = omega arith in
    sym (rw same at (numbers_below-gap quals from (to - from) (λ n low high. none n low (omega arith))))

-- the bits from this one on
pub bit_at-shifted : (quals from i : ℕ) → bit_at (quals / 2 ^ from) i ≡ bit_at quals (from + i)
bit_at-shifted quals from i =
    ap (λ n. n % 2) (div-div-eq-div-mul quals (2 ^ from) (2 ^ i) ∙ ap (λ p. quals / p) (sym (pow-add 2 from i)))

-- a set of 64 bits has none from 64 on
pub bit_at-high : (quals i : ℕ) → quals < 2 ^ 64 → 64 ≤ i → bit_at quals i ≡ 0
bit_at-high quals i small high =
    ap (λ n. n % 2) (div-eq_of_lt (omega (arith, small, pow_mono high)))

-- so the lowest bit from this one on is that of the lowest number that is not below it
pub lowest_from : (quals from : ℕ) → quals < 2 ^ 64 → ¬ (quals / 2 ^ from ≡ 0)
    → (from + trailing_zeros w64 (quals / 2 ^ from) ≤ 63) × (has quals (from + trailing_zeros w64 (quals / 2 ^ from)) ≡ true)
    × HasNone quals from (from + trailing_zeros w64 (quals / 2 ^ from))
lowest_from quals from small some =
    let left = quals / 2 ^ from in
    let zeros = bit_at-trailing_zeros w64 left (omega (arith, some)) (omega (arith, small, div-le_self quals (2 ^ from))) in
    let bit : bit_at quals (from + trailing_zeros w64 left) ≡ 1 = sym (bit_at-shifted quals from (trailing_zeros w64 left)) ∙ zeros.1 in (
      elim (cases_lt (from + trailing_zeros w64 left) 64) [
        | inl below ↦ omega arith
        | inr above ↦ absurd (omega (arith, bit, bit_at-high quals (from + trailing_zeros w64 left) small above))
      ],
      eq-eqb _ 1 bit,
      λ number low high. ne_eqb _ 1 (λ e.
          let place : from + (number - from) ≡ number = omega arith in
          let zero = rw place at (sym (bit_at-shifted quals from (number - from)) ∙ zeros.2 (number - from) (omega arith)) in
          omega (arith, e, zero)),
    )

pub none_from : (quals from : ℕ) → quals / 2 ^ from ≡ 0 → HasNone quals from 64
none_from quals from none number low high = ne_eqb _ 1 (λ e.
    let place : from + (number - from) ≡ number = omega arith in
    let zero = rw place at (sym (bit_at-shifted quals from (number - from)) ∙ ap (λ n. bit_at n (number - from)) none ∙ bit_at-zero (number - from)) in
    omega (arith, e, zero))

numbers_below-zero : (quals : ℕ) → numbers_below quals 0 ≡ []
unfolding numbers_below
numbers_below-zero quals = refl

pub AreBelow-numbers_below : (quals n : ℕ) → n ≤ 64 → AreBelow 64 (numbers_below quals n)
AreBelow-numbers_below quals zero h = rw (numbers_below-zero quals) tt
AreBelow-numbers_below quals (suc n) h =
    elim (cases_Bool (has quals n)) [
      | inl had ↦ rw (numbers_below-had quals n had) (AreBelow-push 64 (numbers_below quals n) n (AreBelow-numbers_below quals n (omega arith)) (omega arith))
      | inr lacked ↦ rw (numbers_below-lacked quals n lacked) (AreBelow-numbers_below quals n (omega arith))
    ]

-- the bits with those of the numbers set too
abbrev pub bits_with : ℕ → List ℕ → ℕ
bits_with bits [] = bits
bits_with bits (n ∷ ns) = bits_with (bit_or bits (1 * 2 ^ n)) ns

bits_with-push : (bits : ℕ) (ns : List ℕ) (n : ℕ) → bits_with bits (ns ++ n ∷ []) ≡ bit_or (bits_with bits ns) (1 * 2 ^ n)
bits_with-push bits [] n = refl
bits_with-push bits (m ∷ ns) n = bits_with-push (bit_or bits (1 * 2 ^ m)) ns n

-- the low bits of a number
low_bits : (quals n : ℕ) → quals % 2 ^ suc n ≡ bit_at quals n * 2 ^ n + quals % 2 ^ n
low_bits quals n = rw (pow-succ' 2 n) (mod-mul quals (omega arith) (pow_pos n))

-- a set has the bits of its numbers
pub bits_with-numbers_below : (quals n : ℕ) → bits_with 0 (numbers_below quals n) ≡ quals % 2 ^ n
bits_with-numbers_below quals zero = rw (numbers_below-zero quals) (omega arith)
bits_with-numbers_below quals (suc n) =
    elim (cases_Bool (has quals n)) [
      | inl had ↦
          let bit : bit_at quals n ≡ 1 = eqb-true _ _ had in
          let high : bit_or (quals % 2 ^ n) (1 * 2 ^ n) ≡ 1 * 2 ^ n + quals % 2 ^ n = or_shifted_r 1 n (quals % 2 ^ n) (mod-lt quals (pow_pos n)) in
          ap (bits_with 0) (numbers_below-had quals n had) ∙ bits_with-push 0 (numbers_below quals n) n ∙ ap (λ b. bit_or b (1 * 2 ^ n)) (bits_with-numbers_below quals n)
          ∙ high ∙ ap (λ b. b * 2 ^ n + quals % 2 ^ n) (sym bit) ∙ sym (low_bits quals n)
      | inr lacked ↦
          let bit : bit_at quals n ≡ 0 = no_bit (bit_at quals n) (bit_at-lt quals n) (eqb-false _ _ lacked) in
          ap (bits_with 0) (numbers_below-lacked quals n lacked) ∙ bits_with-numbers_below quals n
          ∙ zero_high (quals % 2 ^ n) (2 ^ n) ∙ ap (λ b. b * 2 ^ n + quals % 2 ^ n) (sym bit) ∙ sym (low_bits quals n)
    ]
  where
    no_bit : (b : ℕ) → b < 2 → (b ≡ 1 → ⊥) → b ≡ 0
    no_bit b h ne = omega (arith, ne)

    zero_high : (r c : ℕ) → r ≡ 0 * c + r
    zero_high r c = omega arith

-- ---- the text

joined-some : (n : ℕ) (ns : List ℕ) → n < 64 → 0 < length (joined (n ∷ ns))
joined-some n [] h = decimal_nonempty n (omega arith)
joined-some n (m ∷ ns) h = omega (arith, decimal_nonempty n (omega arith), length-append (decimal n) (43 ∷ joined (m ∷ ns)))

-- one number more behind some
joined-more : (n : ℕ) (ns : List ℕ) (last : ℕ) → joined (n ∷ ns ++ last ∷ []) ≡ (joined (n ∷ ns) ++ 43 ∷ []) ++ decimal last
joined-more n [] last = sym (append_assoc (decimal n) (43 ∷ []) (decimal last))
joined-more n (m ∷ ns) last =
    ap (λ text. decimal n ++ 43 ∷ text) (joined-more m ns last) ∙ simp append_assoc

pub joined-push : (ns : List ℕ) (last : ℕ) → AreBelow 64 ns → joined (ns ++ last ∷ []) ≡ with_number (joined ns) last
joined-push [] last below = refl
joined-push (n ∷ ns) last below =
    joined-more n ns last ∙ ap (λ b. (joined (n ∷ ns) ++ cond b [] (43 ∷ [])) ++ decimal last) (sym (ne_eqb (length (joined (n ∷ ns))) 0 (λ e. omega (arith, joined-some n ns below.0))))

decimal-unmarked : (n : ℕ) → n < 64 → All (λ b. (b == 43) ≡ false) (decimal n)
decimal-unmarked n h = All-from_get_or (λ b. (b == 43) ≡ false) (decimal n) 0 (λ i within.
    let digit = digit_at (decimal n) i (decimal_is_IsNumeral n (omega arith)).0.1 within in
    ne_eqb (get_or (decimal n) i 0) 43 (λ e. omega (arith, digit)))

AreUnmarked-decimals : (ns : List ℕ) → AreBelow 64 ns → AreUnmarked 43 (map decimal ns)
AreUnmarked-decimals [] below = tt
AreUnmarked-decimals (n ∷ ns) below = (decimal-unmarked n below.0, AreUnmarked-decimals ns below.1)

-- the parts of a text of numbers are these numbers
pub parts_by-joined : (n : ℕ) (ns : List ℕ) → AreBelow 64 (n ∷ ns) → parts_by 43 (joined (n ∷ ns)) ≡ map decimal (n ∷ ns)
parts_by-joined n ns below = parts_by-join 43 (decimal n) (map decimal ns) (AreUnmarked-decimals (n ∷ ns) below)

-- ---- the whole text

-- an empty text has no number
numbers-none : (ns : List ℕ) → AreBelow 64 ns → length (joined ns) ≡ 0 → ns ≡ []
numbers-none [] below e = refl
numbers-none (n ∷ ns) below e = absurd (omega (arith, joined-some n ns below.0))

-- what is written where no number was
pub quals_text-none : (quals : ℕ) → length (joined (numbers_below quals 64)) ≡ 0 → quals_text quals ≡ codes "-"
unfolding quals_text
quals_text-none quals e = rw (numbers-none (numbers_below quals 64) (AreBelow-numbers_below quals 64 (omega arith)) e) refl

-- and where some were
pub quals_text-some : (quals : ℕ) → (length (joined (numbers_below quals 64)) ≡ 0 → ⊥) → quals_text quals ≡ joined (numbers_below quals 64)
unfolding quals_text
quals_text-some quals ne = cond-false _ (codes "-") _ (ne_eqb _ 0 (λ e. ne (ap length (ap joined (no_length (numbers_below quals 64) e)))))
  where
    no_length : (ns : List ℕ) → length ns ≡ 0 → ns ≡ []
    no_length [] e = refl
    no_length (n ∷ ns) e = absurd (omega arith)

-- the text with the next number, had or lacked
pub joined-had : (quals n : ℕ) → n < 64 → has quals n ≡ true → with_number (joined (numbers_below quals n)) n ≡ joined (numbers_below quals (n + 1))
joined-had quals n h e =
    sym (joined-push (numbers_below quals n) n (AreBelow-numbers_below quals n (omega arith)))
    ∙ ap joined (sym (numbers_below-had quals n e)) ∙ ap (λ k. joined (numbers_below quals k)) (sym (add-one n))

pub joined-lacked : (quals n : ℕ) → has quals n ≡ false → joined (numbers_below quals n) ≡ joined (numbers_below quals (n + 1))
joined-lacked quals n e =
    ap joined (sym (numbers_below-lacked quals n e)) ∙ ap (λ k. joined (numbers_below quals k)) (sym (add-one n))

pub joined-zero : (quals : ℕ) → joined (numbers_below quals 0) ≡ []
joined-zero quals = ap joined (numbers_below-zero quals)

-- a set of 64 bits is that of its numbers
pub bits_with-all : (quals : ℕ) → quals < 2 ^ 64 → bits_with 0 (numbers_below quals 64) ≡ quals
bits_with-all quals h = bits_with-numbers_below quals 64 ∙ mod-eq_of_lt h

-- ---- the text taken apart

-- the numbers of a set from this one on, so many tried
abbrev pub numbers_from : ℕ → ℕ → ℕ → List ℕ
numbers_from quals from zero = []
numbers_from quals from (suc count) = cond (has quals from) (from ∷ numbers_from quals (from + 1) count) (numbers_from quals (from + 1) count)

-- they are those that are not below
numbers_from-rest : (quals from count : ℕ) → numbers_below quals from ++ numbers_from quals from count ≡ numbers_below quals (from + count)
numbers_from-rest quals from zero = let same : from + 0 ≡ from = omega arith in append-nil (numbers_below quals from) ∙ rw same refl
numbers_from-rest quals from (suc count) =
    let next : from + suc count ≡ from + 1 + count = omega arith in
    let rest = numbers_from-rest quals (from + 1) count in
    elim (cases_Bool (has quals from)) [
      | inl had ↦ rw (had, next) (sym (append_assoc (numbers_below quals from) (from ∷ []) (numbers_from quals (from + 1) count))
          ∙ ap (λ ns. ns ++ numbers_from quals (from + 1) count) (sym (numbers_below-had quals from had) ∙ ap (numbers_below quals) (sym (add-one from))) ∙ rest)
      | inr lacked ↦ rw (lacked, next) (ap (λ ns. ns ++ numbers_from quals (from + 1) count) (sym (numbers_below-lacked quals from lacked) ∙ ap (numbers_below quals) (sym (add-one from))) ∙ rest)
    ]

-- what is read of a set up to a number, and what is left of it
pub record IsLeft (quals bits : ℕ) (parts : List (List ℕ)) : Type 0 where
  pub from : ℕ
  pub count : ℕ
  pub all : from + count ≡ 64
  pub bits_are : bits ≡ quals % 2 ^ from
  pub parts_are : parts ≡ map decimal (numbers_from quals from count)

-- the next number that is left
pub record IsNextOf (quals bits : ℕ) (part : List ℕ) (rest : List (List ℕ)) : Type 0 where
  pub number : ℕ
  pub part_is : part ≡ decimal number
  pub most : number < 64
  pub above : bits / 2 ^ number ≡ 0
  pub left : IsLeft quals (bit_or bits (1 * 2 ^ number)) rest

low_had : (quals n : ℕ) → has quals n ≡ true → bit_or (quals % 2 ^ n) (1 * 2 ^ n) ≡ quals % 2 ^ (n + 1)
low_had quals n had =
    let bit : bit_at quals n ≡ 1 = eqb-true _ _ had in
    or_shifted_r 1 n (quals % 2 ^ n) (mod-lt quals (pow_pos n)) ∙ ap (λ b. b * 2 ^ n + quals % 2 ^ n) (sym bit) ∙ sym (low_bits quals n) ∙ ap (λ k. quals % 2 ^ k) (sym (add-one n))

low_lacked : (quals n : ℕ) → has quals n ≡ false → quals % 2 ^ n ≡ quals % 2 ^ (n + 1)
low_lacked quals n lacked =
    let bit : bit_at quals n ≡ 0 = omega (arith, bit_at-lt quals n, eqb-false _ _ lacked) in
    zero_high (quals % 2 ^ n) (2 ^ n) ∙ ap (λ b. b * 2 ^ n + quals % 2 ^ n) (sym bit) ∙ sym (low_bits quals n) ∙ ap (λ k. quals % 2 ^ k) (sym (add-one n))
  where
    zero_high : (r c : ℕ) → r ≡ 0 * c + r
    zero_high r c = omega arith

next_of : (quals from count : ℕ) (part : List ℕ) (rest : List (List ℕ)) → from + count ≡ 64 → part ∷ rest ≡ map decimal (numbers_from quals from count) → IsNextOf quals (quals % 2 ^ from) part rest
next_of quals from zero part rest all e = absurd (omega (arith, ap length e))
next_of quals from (suc count) part rest all e =
    elim (cases_Bool (has quals from)) [
      | inl had ↦ let here : part ∷ rest ≡ decimal from ∷ map decimal (numbers_from quals (from + 1) count) = rw had at e in
          record {
            number = from;
            part_is = ap (λ ps. first_part ps) here;
            most = omega (arith, all);
            above = div-eq_of_lt (mod-lt quals (pow_pos from));
            left = record { from = from + 1; count = count; all = omega (arith, all); bits_are = low_had quals from had; parts_are = ap other_parts here };
          }
      | inr lacked ↦ let there : part ∷ rest ≡ map decimal (numbers_from quals (from + 1) count) = rw lacked at e in
          rw (low_lacked quals from lacked) (next_of quals (from + 1) count part rest (omega (arith, all)) there)
    ]
  where
    first_part : List (List ℕ) → List ℕ
    first_part [] = []
    first_part (x ∷ xs) = x

    other_parts : List (List ℕ) → List (List ℕ)
    other_parts [] = []
    other_parts (x ∷ xs) = xs

pub IsLeft-next : (quals bits : ℕ) (parts : List (List ℕ)) (part : List ℕ) (rest : List (List ℕ)) → parts ≡ (part ∷ rest) → IsLeft quals bits parts → IsNextOf quals bits part rest
IsLeft-next quals bits parts part rest e left =
    rw left.bits_are (next_of quals left.from left.count part rest left.all (sym e ∙ left.parts_are))

-- where no part is left the bits are the set's
none_left : (quals from count : ℕ) → from + count ≡ 64 → [] ≡ map decimal (numbers_from quals from count) → quals % 2 ^ from ≡ quals % 2 ^ 64
none_left quals from zero all e = let same : from ≡ 64 = omega (arith, all) in rw same refl
none_left quals from (suc count) all e =
    elim (cases_Bool (has quals from)) [
      | inl had ↦ let here : [] ≡ decimal from ∷ map decimal (numbers_from quals (from + 1) count) = rw had at e in absurd (omega (arith, ap length here))
      | inr lacked ↦ let there : [] ≡ map decimal (numbers_from quals (from + 1) count) = rw lacked at e in low_lacked quals from lacked ∙ none_left quals (from + 1) count (omega (arith, all)) there
    ]

pub IsLeft-none : (quals bits : ℕ) → quals < 2 ^ 64 → IsLeft quals bits [] → bits ≡ quals
IsLeft-none quals bits small left =
    left.bits_are ∙ none_left quals left.from left.count left.all left.parts_are ∙ mod-eq_of_lt small

-- the numbers of a set that has none, or of one that has some
text_parts : (text : List ℕ) (ns : List ℕ) → AreBelow 64 ns → text ≡ cond (length ns == 0) (codes "-") (joined ns) → (text ≡ codes "-") × (ns ≡ []) ⊎ (parts_by 43 text ≡ map decimal ns)
text_parts text [] below e = inl (e, refl)
text_parts text (n ∷ ns) below e =
    let some : text ≡ joined (n ∷ ns) = e ∙ cond-false _ (codes "-") _ (ne_eqb (suc (length ns)) 0 (λ e. omega (arith, e))) in
    inr (ap (parts_by 43) some ∙ parts_by-joined n ns below)

-- the parts of a text but `-` are the set's numbers
pub parts-quals_text : (quals : ℕ) (text : List ℕ) → text ≡ quals_text quals → (text ≡ codes "-" → ⊥) → parts_by 43 text ≡ map decimal (numbers_below quals 64)
unfolding quals_text
parts-quals_text quals text e other =
    elim (text_parts text (numbers_below quals 64) (AreBelow-numbers_below quals 64 (omega arith)) e) [
      | inl dash ↦ absurd (other dash.0)
      | inr parts ↦ parts
    ]

-- all of which are left at first
pub IsLeft-all : (quals : ℕ) (text : List ℕ) → text ≡ quals_text quals → (text ≡ codes "-" → ⊥) → IsLeft quals 0 (parts_by 43 text)
IsLeft-all quals text e other = record {
  from = 0;
  count = 64;
  all = refl;
  bits_are = omega arith;
  parts_are = parts-quals_text quals text e other
      ∙ ap (map decimal) (sym (numbers_from-rest quals 0 64) ∙ ap (λ ns. ns ++ numbers_from quals 0 64) (numbers_below-zero quals));
}

-- `-` is the text of no numbers, and of no others
pub quals_text-dash : (quals : ℕ) → quals < 2 ^ 64 → codes "-" ≡ quals_text quals → 0 ≡ quals
unfolding quals_text
quals_text-dash quals small e =
    elim (text_parts (codes "-") (numbers_below quals 64) (AreBelow-numbers_below quals 64 (omega arith)) e) [
      | inl none ↦ sym (sym (bits_with-all quals small) ∙ ap (bits_with 0) none.1)
      | inr parts ↦ absurd (dash_number (numbers_below quals 64) (AreBelow-numbers_below quals 64 (omega arith)) parts)
    ]
  where
    dash_number : (ns : List ℕ) → AreBelow 64 ns → codes "-" ∷ [] ≡ map decimal ns → ⊥
    dash_number [] below e = omega (arith, ap length e)
    dash_number (n ∷ ns) below e =
        let digit = digit_at (decimal n) 0 (decimal_is_IsNumeral n (omega (arith, below.0))).0.1 (decimal_nonempty n (omega (arith, below.0))) in
        omega (arith, digit, ap (λ ps. get_or (get_or ps 0 []) 0 0) e)

pub numbers-zero : numbers_below 0 64 ≡ []
numbers-zero = sym (numbers_below-none 0 0 64 (omega arith) (λ n low high. ap (λ b. b == 1) (bit_at-zero n))) ∙ numbers_below-zero 0

pub quals_text-zero : quals_text 0 ≡ codes "-"
unfolding quals_text
quals_text-zero = rw numbers-zero refl

-- ---- the text put together

same_numbers : (a b n : ℕ) → ((i : ℕ) → i < n → has a i ≡ has b i) → numbers_below a n ≡ numbers_below b n
unfolding numbers_below
same_numbers a b zero same = refl
same_numbers a b (suc n) same = rw (same n (omega arith), same_numbers a b n (λ i h. same i (omega arith))) refl

-- a number above all of the set comes behind them
pub numbers-next : (bits n : ℕ) → n < 64 → bits / 2 ^ n ≡ 0 → numbers_below (bit_or bits (1 * 2 ^ n)) 64 ≡ numbers_below bits 64 ++ n ∷ []
numbers-next bits n small none =
    let more = bit_or bits (1 * 2 ^ n) in
    let unit : 1 * 2 ^ n ≡ 2 ^ n = omega arith in
    let at : (i : ℕ) → bit_at more i ≡ max (bit_at bits i) (bit_at (2 ^ n) i) = λ i. rw unit (bit_at_or bits (2 ^ n) i) in
    let high = none_from bits n none in
    let had : has more n ≡ true = eq-eqb _ 1 (at n ∙ rw (bit_at-pow_same n) (omega (arith, bit_at-lt bits n))) in
    let other : (i : ℕ) → ¬ (i ≡ n) → has more i ≡ has bits i = λ i apart. ap (λ b. b == 1) (at i ∙ rw (bit_at-pow_other n i apart) (omega arith)) in
    let above : HasNone more (n + 1) 64 = λ i low below. other i (λ e. omega (arith, e)) ∙ high i (omega arith) below in
    sym (numbers_below-none more (n + 1) 64 (omega arith) above) ∙ ap (numbers_below more) (add-one n) ∙ numbers_below-had more n had
    ∙ ap (λ ns. ns ++ n ∷ []) (same_numbers more bits n (λ i h. other i (λ e. omega (arith, e))) ∙ numbers_below-none bits n 64 (omega arith) high)

-- parts that are the set's numbers make its text
pub text-of_parts : (text : List ℕ) (bits : ℕ) → parts_by 43 text ≡ map decimal (numbers_below bits 64) → text ≡ quals_text bits
unfolding quals_text
text-of_parts text bits e = made (numbers_below bits 64) e
  where
    made : (ns : List ℕ) → parts_by 43 text ≡ map decimal ns → text ≡ cond (length ns == 0) (codes "-") (joined ns)
    made [] e = absurd (omega (arith, ap length e, length-slice_split (λ b. b == 43) text))
    made (n ∷ ns) e = sym (join_with_byte-slice_split 43 text) ∙ ap (join_with_byte 43) e ∙ sym (cond-false _ (codes "-") _ (ne_eqb (suc (length ns)) 0 (λ e. omega (arith, e))))
