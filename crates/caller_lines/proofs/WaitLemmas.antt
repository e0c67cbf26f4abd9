-- Texts that wait to be written.
use Rattle.std.proofs.Common.{◌≡◌, ◌≢◌, ℕ, Bool, true, false, List, [], ◌∷◌, ◌++◌, length, Option, None, Some, refl, sym, ap, ◌∙◌, append-nil, append_assoc, length-append, arith}
use Rattle.std.specs.Bool.{OnTrue}
use Rattle.http_server.proofs.KnownLemmas.{Appends-then}
use Rattle.caller_lines.specs.FileLine.{Wrote, GaveOn}

module _ {W : Type 0} (contents : W → Option (List ℕ)) where
  Wrote-then : (a b c : Option W) (one other : List ℕ) → Wrote contents a b one → Wrote contents b c other → Wrote contents a c (one ++ other)
  Wrote-then None b c one other x y = absurd x
  Wrote-then (Some a) None c one other x y = absurd x
  Wrote-then (Some a) (Some b) None one other x y = absurd y
  Wrote-then (Some a) (Some b) (Some c) one other x y = Appends-then (contents a) (contents b) (contents c) one other x y

  -- one text is put behind another
  pub GaveOn-then : (a b c : Option W) (waited mids waits one other : List ℕ) → GaveOn contents a b waited mids one → GaveOn contents b c mids waits other
      → GaveOn contents a c waited waits (one ++ other)
  GaveOn-then a b c waited mids waits one other x y = record {
    written = x.written ++ y.written;
    wrote = Wrote-then a b c x.written y.written x.wrote y.wrote;
    parts = sym (append_assoc waited one other) ∙ ap (λ xs. xs ++ other) x.parts ∙ append_assoc x.written mids other
        ∙ ap (λ xs. x.written ++ xs) y.parts ∙ sym (append_assoc x.written y.written waits);
  }

  -- all that waits is written with a text behind it
  pub GaveOn-all : (a b c : Option W) (waited mids text : List ℕ) → GaveOn contents a b waited mids [] → Wrote contents b c (mids ++ text) → GaveOn contents a c waited [] text
  GaveOn-all a b c waited mids text x wrote =
      GaveOn-then a b c waited mids [] [] text x record { written = mids ++ text; wrote = wrote; parts = sym (append-nil (mids ++ text)) }

  -- nothing is put
  pub GaveOn-more : (a b c : Option W) (waited mids waits : List ℕ) → GaveOn contents a b waited mids [] → GaveOn contents b c mids waits [] → GaveOn contents a c waited waits []
  GaveOn-more a b c waited mids waits x y = GaveOn-then a b c waited mids waits [] [] x y

  some-waits : (a b : Option W) (waited waits : List ℕ) → GaveOn contents a b waited waits [] → waits ≢ [] → waited ≢ []
  some-waits a b waited waits x some none =
      empty waits (omega (arith, ap length x.parts, ap length none, length-append waited [], length-append x.written waits)) some
    where
      empty : (xs : List ℕ) → length xs ≡ 0 → xs ≢ [] → ⊥
      empty [] len some = some refl
      empty (y ∷ ys) len some = omega (arith, len)

  -- the reader that wasn't asked stays
  pub unasked-more : {R : Type 0} (q r s : R) (a b : Option W) (mids waits : List ℕ) → GaveOn contents a b mids waits [] → (mids ≢ [] → r ≡ q) → (waits ≢ [] → s ≡ r)
      → waits ≢ [] → s ≡ q
  unasked-more q r s a b mids waits gave first then some = then some ∙ first (some-waits a b mids waits gave some)

-- ---- where it is so

pub on-true : (b : Bool) {P Q : Type 0} → (P → Q) → OnTrue b P → OnTrue b Q
on-true true f p = f p
on-true false f p = tt

pub on-both : (b : Bool) {P Q R : Type 0} → (P → Q → R) → OnTrue b P → OnTrue b Q → OnTrue b R
on-both true f p q = f p q
on-both false f p q = tt
