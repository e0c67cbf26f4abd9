use Rattle.std.proofs.Common.{◌≡◌, ◌∙◌, ℕ, ◌+◌, ◌/◌, ◌%◌, ◌≤◌, ◌<◌, inl, inr, List, [], ◌∷◌, ◌++◌, decimal, take, drop, length, get_or, sym, ap, arith}
use Rattle.std.proofs.lemmas.Bool.{cases_lt}
use Rattle.std.proofs.lemmas.Bool.Decides.{nat_tests}
use Rattle.std.proofs.lemmas.Fmt.{decimal_digit, decimal_step}
use Rattle.std.proofs.lemmas.List.{take_rest}
use Rattle.desk_text.proofs.spelled_entry.cut_caller.Goals as goal

-- a line that this text begins, which has one byte or two, and behind it a bar and this
data Begins (line text back : List ℕ) : Type 0 where
  one : get_or line 1 0 ≡ 124 → 1 < length line → take 1 line ≡ text → drop 2 line ≡ back → Begins line text back
  two : get_or line 1 0 < 124 → get_or line 2 0 ≡ 124 → 2 < length line → take 2 line ≡ text → drop 3 line ≡ back → Begins line text back

one_digit : (line text back : List ℕ) (a : ℕ) → text ≡ a ∷ [] → line ≡ text ++ 124 ∷ back → Begins line text back
one_digit line text back a digits is =
    let e : line ≡ a ∷ 124 ∷ back = is ∙ ap (λ t. t ++ 124 ∷ back) digits in
    one (ap (λ l. get_or l 1 0) e) (omega (arith, ap length e)) (ap (take 1) e ∙ sym digits) (ap (drop 2) e)

two_digits : (line text back : List ℕ) (a b : ℕ) → b < 124 → text ≡ a ∷ b ∷ [] → line ≡ text ++ 124 ∷ back → Begins line text back
two_digits line text back a b low digits is =
    let e : line ≡ a ∷ b ∷ 124 ∷ back = is ∙ ap (λ t. t ++ 124 ∷ back) digits in
    two (omega (arith, low, ap (λ l. get_or l 1 0) e)) (ap (λ l. get_or l 2 0) e) (omega (arith, ap length e)) (ap (take 2) e ∙ sym digits) (ap (drop 3) e)

begins : (line : List ℕ) (caller : ℕ) (back : List ℕ) → caller ≤ 63 → line ≡ decimal caller ++ 124 ∷ back → Begins line (decimal caller) back
begins line caller back few is = elim (cases_lt caller 10) [
  | inl low ↦ one_digit line (decimal caller) back (48 + caller) (decimal_digit caller low) is
  | inr high ↦ two_digits line (decimal caller) back (48 + caller / 10) (48 + caller % 10) (omega arith)
      (decimal_step caller high (omega arith) ∙ ap (λ t. t ++ (48 + caller % 10) ∷ []) (decimal_digit (caller / 10) (omega arith))) is
]

pub returns-in-124-clause-only : goal.returns-in-124-clause-only
returns-in-124-clause-only c = λ caller back few is. elim (begins _ caller back few is) [
  | one at some front rest ↦ (front, take_rest c.args.line.now 2 ∙ rest)
  | two at more some front rest ↦ absurd (grind (arith, nat_tests))
]

pub returns-in-124-2-clause-only : goal.returns-in-124-2-clause-only
returns-in-124-2-clause-only c = λ caller back few is. elim (begins _ caller back few is) [
  | one at some front rest ↦ absurd (omega arith)
  | two at more some front rest ↦ (front, take_rest c.args.line.now 3 ∙ rest)
]

pub returns-in_default-clause-only : goal.returns-in_default-clause-only
returns-in_default-clause-only c = λ caller back few is. elim (begins _ caller back few is) [
  | one at some front rest ↦ grind (arith, nat_tests)
  | two at more some front rest ↦ grind (arith, nat_tests)
]
