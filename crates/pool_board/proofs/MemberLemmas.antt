-- Lists of persons, and of members with their ready minutes.
use Rattle.std.proofs.Common.{◌≡◌, ◌≢◌, ℕ, Bool, true, false, not, ◌||◌, cond, nat_eq, inl, inr, Some, List, [], ◌∷◌, ◌++◌, refl, sym, ap, ◌∙◌}
use Rattle.std.specs.List.{list_any}
use Rattle.std.proofs.lemmas.Bool.{cases_eq, false≢true, eq-eqb, ne_eqb, or_parts, or_from, and_parts, and_from, not-true, not_from_false}
use Rattle.slot_tree.specs.declared.slot.Slot.{Slot}
use Rattle.pool_board.specs.Members.{persons, is_listed, ready_of, without, are_distinct}

-- who stands in a list is another than who doesn't
pub others_differ : (p q : ℕ) (ps : List ℕ) → list_any (nat_eq q) ps ≡ false → list_any (nat_eq p) ps ≡ true → nat_eq p q ≡ false
others_differ p q ps out within = elim (cases_eq p q) [
  | inl same ↦ absurd (false≢true (sym out ∙ ap (λ r. list_any (nat_eq r) ps) (sym same) ∙ within))
  | inr other ↦ ne_eqb p q other
]

pub without-absent : (p : ℕ) (ps : List ℕ) → list_any (nat_eq p) ps ≡ false → without p ps ≡ ps
without-absent p [] out = refl
without-absent p (q ∷ ps) out =
    let parts = or_parts (nat_eq p q) (list_any (nat_eq p) ps) out in
    rw parts.0 (ap (λ qs. q ∷ qs) (without-absent p ps parts.1))

pub without-out : (p : ℕ) (ps : List ℕ) → list_any (nat_eq p) (without p ps) ≡ false
without-out p [] = refl
without-out p (q ∷ ps) = go (nat_eq p q) refl (without-out p ps)
  where
    go : (same : Bool) → nat_eq p q ≡ same → list_any (nat_eq p) (without p ps) ≡ false → list_any (nat_eq p) (cond (not same) (q ∷ without p ps) (without p ps)) ≡ false
    go true is rest = rest
    go false is rest = or_from (nat_eq p q) (list_any (nat_eq p) (without p ps)) is rest

without-fewer : (q p : ℕ) (ps : List ℕ) → list_any (nat_eq q) ps ≡ false → list_any (nat_eq q) (without p ps) ≡ false
without-fewer q p [] out = refl
without-fewer q p (r ∷ ps) out =
    let parts = or_parts (nat_eq q r) (list_any (nat_eq q) ps) out in
    go (nat_eq p r) parts.0 (without-fewer q p ps parts.1)
  where
    go : (same : Bool) → nat_eq q r ≡ false → list_any (nat_eq q) (without p ps) ≡ false → list_any (nat_eq q) (cond (not same) (r ∷ without p ps) (without p ps)) ≡ false
    go true other rest = rest
    go false other rest = or_from (nat_eq q r) (list_any (nat_eq q) (without p ps)) other rest

pub distinct-without : (p : ℕ) (ps : List ℕ) → are_distinct ps ≡ true → are_distinct (without p ps) ≡ true
distinct-without p [] all = refl
distinct-without p (q ∷ ps) all =
    let parts = and_parts (not (list_any (nat_eq q) ps)) (are_distinct ps) all in
    go (nat_eq p q) parts.0 (distinct-without p ps parts.1)
  where
    go : (same : Bool) → not (list_any (nat_eq q) ps) ≡ true → are_distinct (without p ps) ≡ true → are_distinct (cond (not same) (q ∷ without p ps) (without p ps)) ≡ true
    go true out rest = rest
    go false out rest =
        and_from (not (list_any (nat_eq q) (without p ps))) (are_distinct (without p ps)) (not_from_false _ (without-fewer q p ps (not-true _ out))) rest

any-append : (q p : ℕ) (ps : List ℕ) → list_any (nat_eq q) (ps ++ p ∷ []) ≡ (list_any (nat_eq q) ps || nat_eq q p)
any-append q p [] = go (nat_eq q p)
  where
    go : (b : Bool) → (b || false) ≡ b
    go true = refl
    go false = refl
any-append q p (r ∷ ps) = go (nat_eq q r) (any-append q p ps)
  where
    go : (b : Bool) → list_any (nat_eq q) (ps ++ p ∷ []) ≡ (list_any (nat_eq q) ps || nat_eq q p)
        → (b || list_any (nat_eq q) (ps ++ p ∷ [])) ≡ ((b || list_any (nat_eq q) ps) || nat_eq q p)
    go true is = refl
    go false is = is

pub distinct-append : (p : ℕ) (ps : List ℕ) → list_any (nat_eq p) ps ≡ false → are_distinct ps ≡ true → are_distinct (ps ++ p ∷ []) ≡ true
distinct-append p [] out all = refl
distinct-append p (q ∷ ps) out all =
    let parts = or_parts (nat_eq p q) (list_any (nat_eq p) ps) out in
    let each = and_parts (not (list_any (nat_eq q) ps)) (are_distinct ps) all in
    let apart : nat_eq q p ≡ false = ne_eqb q p (λ same. false≢true (sym parts.0 ∙ eq-eqb p q (sym same))) in
    and_from (not (list_any (nat_eq q) (ps ++ p ∷ []))) (are_distinct (ps ++ p ∷ []))
    (not_from_false _ (any-append q p ps ∙ or_from _ _ (not-true _ each.0) apart)) (distinct-append p ps parts.1 each.1)

pub persons-append : (members : List Slot) (x : Slot) → persons (members ++ x ∷ []) ≡ persons members ++ x.person ∷ []
persons-append [] x = refl
persons-append (y ∷ members) x = ap (λ ps. y.person ∷ ps) (persons-append members x)

pub ready_of-append : (q : ℕ) (members : List Slot) (x : Slot) → q ≢ x.person → ready_of q (members ++ x ∷ []) ≡ ready_of q members
ready_of-append q [] x other = rw (ne_eqb q x.person other) refl
ready_of-append q (y ∷ members) x other = ap (λ o. cond (nat_eq q y.person) (Some y.ready) o) (ready_of-append q members x other)

pub ready_of-last : (members : List Slot) (x : Slot) → is_listed x.person members ≡ false → ready_of x.person (members ++ x ∷ []) ≡ Some x.ready
ready_of-last [] x out = rw (eq-eqb x.person x.person refl) refl
ready_of-last (y ∷ members) x out =
    let parts = or_parts (nat_eq x.person y.person) (is_listed x.person members) out in
    rw parts.0 (ready_of-last members x parts.1)
