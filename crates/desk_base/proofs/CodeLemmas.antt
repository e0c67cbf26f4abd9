-- A code's number is its own.
use Rattle.std.proofs.Common.{◌≡◌, ℕ, zero, suc, ◌-◌, ◌<◌, true, List, [], ◌∷◌, ◌++◌, length, take, replicate, get_or, refl, sym, ap, ◌∙◌, arith, length-append}
use Rattle.std.specs.Int.{w64, to_le_bytes}
use Rattle.std.specs.List.{list_all}
use Rattle.std.proofs.Math.Seq.{take-append_seam}
use Rattle.std.proofs.lemmas.Bool.{and_parts}
use Rattle.std.proofs.lemmas.Bool.Decides.{nat_tests}
use Rattle.std.proofs.lemmas.List.{append_assoc, length-replicate}
use Rattle.std.proofs.lemmas.Nat.{le_bytes_8}
use Rattle.desk_base.specs.Code.{IsCode, is_code_byte, padded_code, code_word}

abbrev pub is_byte : List ℕ → Type 0
is_byte xs = (i : ℕ) → get_or xs i 0 < 256

code_byte-small : (b : ℕ) → is_code_byte b ≡ true → b < 256
code_byte-small b is = grind (arith, nat_tests, is)

text-small : (xs ys : List ℕ) → list_all is_code_byte xs ≡ true → is_byte ys → is_byte (xs ++ ys)
text-small [] ys all rest i = rest i
text-small (x ∷ xs) ys all rest zero = code_byte-small x (and_parts (is_code_byte x) (list_all is_code_byte xs) all).0
text-small (x ∷ xs) ys all rest (suc i) = text-small xs ys (and_parts (is_code_byte x) (list_all is_code_byte xs) all).1 rest i

zeros-small : (n : ℕ) (ys : List ℕ) → is_byte ys → is_byte (replicate n 0 ++ ys)
zeros-small zero ys rest i = rest i
zeros-small (suc n) ys rest zero = omega arith
zeros-small (suc n) ys rest (suc i) = zeros-small n ys rest i

last-small : (n : ℕ) → n < 256 → is_byte (n ∷ [])
last-small n low zero = low
last-small n low (suc i) = omega arith

word-bytes : (text : List ℕ) → IsCode text → is_byte (padded_code text ++ length text ∷ [])
word-bytes text code i =
    ap_lt (append_assoc text (replicate (7 - length text) 0) (length text ∷ []))
    (text-small text (replicate (7 - length text) 0 ++ length text ∷ []) code.bytes (zeros-small (7 - length text) (length text ∷ []) (last-small (length text) (omega (arith, code.most)))) i)
  where
    ap_lt : {xs ys : List ℕ} → xs ≡ ys → get_or ys i 0 < 256 → get_or xs i 0 < 256
    ap_lt same low = rw same low

padded-length : (text : List ℕ) → IsCode text → length (padded_code text) ≡ 7
padded-length text code = omega (arith, length-append text (replicate (7 - length text) 0), length-replicate {A = ℕ} (7 - length text) 0, code.most)

-- its bytes come back
word-back : (text : List ℕ) → IsCode text → to_le_bytes w64 (code_word text) ≡ padded_code text ++ length text ∷ []
word-back text code = le_bytes_8 (padded_code text ++ length text ∷ []) (code_word text) (omega (arith, length-append (padded_code text) (length text ∷ []), padded-length text code)) (word-bytes text code) refl

pub code_word-injective : (a b : List ℕ) → IsCode a → IsCode b → code_word a ≡ code_word b → a ≡ b
code_word-injective a b of_a of_b same =
    let bytes : padded_code a ++ length a ∷ [] ≡ padded_code b ++ length b ∷ [] = sym (word-back a of_a) ∙ ap (to_le_bytes w64) same ∙ word-back b of_b in
    let len : length a ≡ length b = at-seven a of_a ∙ ap (λ xs. get_or xs 7 0) bytes ∙ sym (at-seven b of_b) in
    sym (front a) ∙ ap (take (length a)) bytes ∙ ap (λ n. take n (padded_code b ++ length b ∷ [])) len ∙ front b
  where
    front : (text : List ℕ) → take (length text) (padded_code text ++ length text ∷ []) ≡ text
    front text = ap (take (length text)) (append_assoc text (replicate (7 - length text) 0) (length text ∷ [])) ∙ take-append_seam text _

    at-end : (xs : List ℕ) (n y : ℕ) → length xs ≡ n → y ≡ get_or (xs ++ y ∷ []) n 0
    at-end [] n y is = rw (sym is) refl
    at-end (x ∷ xs) zero y is = absurd (omega (arith, is))
    at-end (x ∷ xs) (suc n) y is = at-end xs n y (omega (arith, is))

    at-seven : (text : List ℕ) → IsCode text → length text ≡ get_or (padded_code text ++ length text ∷ []) 7 0
    at-seven text code = at-end (padded_code text) 7 (length text) (padded-length text code)
