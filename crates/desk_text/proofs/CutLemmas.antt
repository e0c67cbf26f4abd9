-- Texts cut at a mark, and behind a head.
use Rattle.std.proofs.Common.{◌≡◌, ◌≢◌, ◌∙◌, ℕ, ◌+◌, ◌-◌, ◌<◌, ◌==◌, true, false, Option, None, Some, IfSome, IfNone, Bor, nat_eq, List, [], ◌∷◌, ◌++◌, length, get_or, take, drop, refl, sym, ap, arith, length-append}
use Rattle.std.specs.List.{All, join_with_byte}
use Rattle.std.specs.Cmp.Lexicographic.{pointwise}
use Rattle.std.proofs.lemmas.Bool.{eq-eqb, false≢true}
use Rattle.std.proofs.lemmas.Bool.Decides.{Decides-eqb}
use Rattle.std.proofs.Math.Seq.{take-append_seam}
use Rattle.std.specs.Option.{MatchOption}
use Rattle.std.proofs.lemmas.List.{take-append-drop, drop_at}
use Rattle.std.proofs.lemmas.List.Splits.{slice_split_at, length-slice_split, join_with_byte-slice_split}
use Rattle.std.proofs.lemmas.Slice.Eq.{slice_eq-Decides}
use Rattle.desk_base.specs.Parts.{parts_by}

-- a part and others, with the mark between them
joined : (mark : ℕ) (front : List ℕ) (parts : List (List ℕ)) → 0 < length parts
    → join_with_byte mark (front ∷ parts) ≡ front ++ mark ∷ join_with_byte mark parts
joined mark front [] some = absurd (omega arith)
joined mark front (part ∷ parts) some = refl

-- texts of the same parts are one
pub parts-one : (mark : ℕ) (a b : List ℕ) → parts_by mark a ≡ parts_by mark b → a ≡ b
parts-one mark a b e = sym (join_with_byte-slice_split mark a) ∙ ap (join_with_byte mark) e ∙ join_with_byte-slice_split mark b

-- a text of a first part and of those of another text
pub parts-text : (mark : ℕ) (text front back : List ℕ) → parts_by mark text ≡ front ∷ parts_by mark back → text ≡ front ++ mark ∷ back
parts-text mark text front back e =
    sym (join_with_byte-slice_split mark text) ∙ ap (join_with_byte mark) e
    ∙ joined mark front (parts_by mark back) (omega (arith, length-slice_split (λ b. b == mark) back))
    ∙ ap (λ t. front ++ mark ∷ t) (join_with_byte-slice_split mark back)

-- its parts, where the mark is not in what stands before it
pub text-parts : (mark : ℕ) (text front back : List ℕ) → All (λ b. (b == mark) ≡ false) front → text ≡ front ++ mark ∷ back
    → parts_by mark text ≡ front ∷ parts_by mark back
text-parts mark text front back free e = ap (parts_by mark) e ∙ slice_split_at (λ b. b == mark) front mark back free (eq-eqb mark mark refl)

-- where two texts are one, so is what stands before the first mark, and what stands behind it
pub cut-one : (mark : ℕ) (a b x y : List ℕ) → All (λ c. (c == mark) ≡ false) a → All (λ c. (c == mark) ≡ false) b
    → a ++ mark ∷ x ≡ b ++ mark ∷ y → (a ≡ b) × (x ≡ y)
cut-one mark a b x y ha hb e =
    let parts = sym (text-parts mark _ a x ha refl) ∙ text-parts mark _ b y hb e in
    (ap (λ ps. get_or ps 0 []) parts, parts-one mark x y (ap (λ ps. drop 1 ps) parts))

-- there are parts behind a mark
pub some-parts : (mark : ℕ) (back : List ℕ) → [] ≡ parts_by mark back → ⊥
some-parts mark back none = omega (arith, length-slice_split (λ b. b == mark) back, ap length none)

-- ---- heads

-- what a search for a head told of a text
abbrev pub HeadFound : List ℕ → List ℕ → Option (Bor (List ℕ)) → Type 0
HeadFound text head found = MatchOption found (pointwise nat_eq (take (length head) text) head ≡ false)
    (λ x. (pointwise nat_eq (take (length head) text) head ≡ true) × (x.now ≡ drop (length head) text) × (length x.now + length head ≡ length text))

pub behind-some : (text head : List ℕ) (found : Option (Bor (List ℕ))) → HeadFound text head found → IfSome found (λ rest. text ≡ head ++ rest.now)
behind-some text head None h = tt
behind-some text head (Some rest) (same, is, len) =
    sym (take-append-drop (length head) text) ∙ ap (λ t. t ++ drop (length head) text) ((slice_eq-Decides Decides-eqb _ _ _ refl).0 same) ∙ ap (λ t. head ++ t) (sym is)

pub behind-none : (text head : List ℕ) (found : Option (Bor (List ℕ))) → HeadFound text head found → IfNone found ((rest : List ℕ) → text ≢ head ++ rest)
behind-none text head None h = λ rest e.
    let front : take (length head) text ≡ head = ap (take (length head)) e ∙ take-append_seam head rest in
    false≢true (sym h ∙ (slice_eq-Decides Decides-eqb (take (length head) text) head _ refl).1 front)
behind-none text head (Some x) h = tt

-- ---- ends

-- what a search for an end told of a text
abbrev pub EndFound : List ℕ → List ℕ → Option (Bor (List ℕ)) → Type 0
EndFound text end found = MatchOption found (pointwise nat_eq (drop (length text - length end) text) end ≡ false)
    (λ x. (pointwise nat_eq (drop (length text - length end) text) end ≡ true) × (x.now ≡ take (length text - length end) text) × (length x.now + length end ≡ length text))

pub before-some : (text end : List ℕ) (found : Option (Bor (List ℕ))) → EndFound text end found → IfSome found (λ front. text ≡ front.now ++ end)
before-some text end None h = tt
before-some text end (Some front) (same, is, len) =
    let n = length text - length end in
    sym (take-append-drop n text) ∙ ap (λ t. t ++ drop n text) (sym is) ∙ ap (λ t. front.now ++ t) ((slice_eq-Decides Decides-eqb _ _ _ refl).0 same)

pub before-none : (text end : List ℕ) (found : Option (Bor (List ℕ))) → EndFound text end found → IfNone found ((front : List ℕ) → text ≢ front ++ end)
before-none text end None h = λ front e.
    let n = length text - length end in
    let at : length front ≡ n = omega (arith, ap length e, length-append front end) in
    let back : drop n text ≡ end = ap (drop n) e ∙ drop_at front end n at in
    false≢true (sym h ∙ (slice_eq-Decides Decides-eqb (drop n text) end _ refl).1 back)
before-none text end (Some x) h = tt
