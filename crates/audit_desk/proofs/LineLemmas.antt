-- The first line of a text.
use Rattle.std.proofs.Common.{◌≡◌, ◌≢◌, ◌∙◌, ℕ, suc, ◌+◌, Some, List, [], ◌∷◌, ◌++◌, get_or, take, drop, sym, ap, arith, append_assoc}
use Rattle.std.proofs.Math.Seq.{take-suc}
use Rattle.std.proofs.lemmas.Bool.{eqb-true}
use Rattle.memchr.specs.Find.{IsFirstByte, is_byte}
use Rattle.desk_base.specs.Parts.{parts_by}
use Rattle.line_writer.specs.Line.{IsLine}
use Rattle.desk_text.proofs.CutLemmas.{parts-one, text-parts, some-parts}
use Rattle.desk_text.proofs.BeginningLemmas.{unfed}

-- the bytes up to a line feed, with it
pub take-feed : (at : ℕ) (text : List ℕ) → IsFirstByte (is_byte 10) text (Some at) → take (at + 1) text ≡ take at text ++ 10 ∷ []
take-feed at text found =
    let next : at + 1 ≡ suc at = omega arith in
    ap (λ n. take n text) next ∙ take-suc text at 0 found.0.high ∙ ap (λ b. take at text ++ b ∷ []) (eqb-true _ _ found.1)

-- a line that a text begins with is its first
pub first-is : (text front back line rest : List ℕ) → parts_by 10 text ≡ front ∷ parts_by 10 back → IsLine line → text ≡ line ++ rest
    → (front ++ 10 ∷ [] ≡ line) × (back ≡ rest)
first-is text front back line rest parts is e =
    let free = unfed is.text is.plain in
    let same : text ≡ is.text ++ 10 ∷ rest = e ∙ ap (λ t. t ++ rest) is.is ∙ append_assoc is.text (10 ∷ []) rest in
    let both = sym parts ∙ text-parts 10 text is.text rest free same in
    (ap (λ t. t ++ 10 ∷ []) (ap (λ ps. get_or ps 0 []) both) ∙ sym is.is, parts-one 10 back rest (ap (λ ps. drop 1 ps) both))

-- a text without one begins with no line
pub no-feed : (text front line rest : List ℕ) → parts_by 10 text ≡ front ∷ [] → IsLine line → text ≢ line ++ rest
no-feed text front line rest parts is e =
    let free = unfed is.text is.plain in
    let same : text ≡ is.text ++ 10 ∷ rest = e ∙ ap (λ t. t ++ rest) is.is ∙ append_assoc is.text (10 ∷ []) rest in
    let both = sym parts ∙ text-parts 10 text is.text rest free same in
    some-parts 10 rest (ap (λ ps. drop 1 ps) both)
