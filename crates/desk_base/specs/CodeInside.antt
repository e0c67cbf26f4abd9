-- How a code is kept: seven bytes, of which the first are its text and the others are zero.
use Rattle.std.specs.Prelude.{◌≡◌, ℕ, ◌-◌, ◌≤◌, List, ◌++◌, length, take, drop, replicate}
use Rattle.std.proofs.Common.{sym, ap, ◌∙◌, arith, length-take, take-append-drop}
use Rattle.desk_base.specs.Code.{IsCode, padded_code}
use Rattle.desk_base.specs.declared.code.Code.TheInside.{Inside}

abbrev pub code_text : Inside → List ℕ
code_text a = take a.len a.bytes

pub record KeepsCode (a : Inside) : Type 0 where
  pub bytes : length a.bytes ≡ 7
  pub len : a.len ≤ 6
  pub zeros : drop a.len a.bytes ≡ replicate (7 - a.len) 0
  pub code : IsCode (take a.len a.bytes)

abbrev pub inside_of : List ℕ → ℕ → Inside
inside_of bytes len = record { bytes = bytes; len = len }

abbrev pub code_inside : List ℕ → Inside
code_inside text = inside_of (padded_code text) (length text)

-- the text gives back what is kept
pub code_inside-code_text : (a : Inside) → KeepsCode a → code_inside (code_text a) ≡ a
code_inside-code_text a k =
    let len : length (take a.len a.bytes) ≡ a.len = length-take a.len a.bytes ∙ omega (arith, k.len, k.bytes) in
    let bytes : padded_code (take a.len a.bytes) ≡ a.bytes =
    ap (λ n. take a.len a.bytes ++ replicate (7 - n) 0) len ∙ ap (λ zs. take a.len a.bytes ++ zs) (sym k.zeros) ∙ take-append-drop a.len a.bytes in
    ap (λ b. inside_of b (length (take a.len a.bytes))) bytes ∙ ap (inside_of a.bytes) len
