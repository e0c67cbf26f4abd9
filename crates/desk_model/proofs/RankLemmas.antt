-- The order of a board has just those who are on it, by rising rank.
use Rattle.std.proofs.Common.{◌≡◌, ℕ, ◌+◌, length, length-append, ◌≤◌, inl, inr, Bool, true, false, cond, ◌&&◌, ◌||◌, nat_eq, Option, None, Some, List, [], ◌∷◌, filter, refl, sym, ap, subst, ◌∙◌, arith}
use Rattle.std.specs.Option.{option_or}
use Rattle.std.specs.List.{list_any, cons_option}
use Rattle.std.proofs.lemmas.Bool.{cases_Bool, false≢true}
use Rattle.desk_model.specs.statements.Entry.{EntryValue}
use Rattle.desk_model.specs.histories.History.{History, opened, with_entry, steps_from, steps, said, last_of}
use Rattle.desk_model.specs.boards.Boards.{is_on, sends, sent_to, keep_last, order}
use Rattle.desk_model.proofs.OrderLemmas.{same_number, nat_eq-same}
use Rattle.desk_model.specs.boards.Rank.{is_number, sends_at, rank, IsBefore, Rises, IsOnce, IsByRank}
use Rattle.desk_model.proofs.OnBoardLemmas.{any-filter, any-keep_last, any-order, sent_from}

or_none : (o : Option ℕ) → option_or o None ≡ o
or_none None = refl
or_none (Some n) = refl

or_first : (p n : ℕ) (o other : Option ℕ) → o ≡ Some n → option_or o other ≡ Some n
or_first p n o other is = ap (λ first. option_or first other) is

-- the last place at which entries that come after a history sent a person
abbrev last_place : List ℕ → ℕ → History → List EntryValue → Option ℕ
last_place b p h es = last_of (sends_at b p) (steps_from h es)

-- who was not sent has no rank
no_place : (b : List ℕ) (p : ℕ) (h : History) (es : List EntryValue) → list_any (nat_eq p) (sent_from b h es) ≡ false → last_place b p h es ≡ None
no_place b p h [] any = refl
no_place b p h (e ∷ later) any =
    go (said (sends b h) e) (sent_from b (with_entry h e) later) (last_place b p (with_entry h e) later) any (no_place b p (with_entry h e) later)
  where
    go : (who : Option ℕ) (rest : List ℕ) (last : Option ℕ) → list_any (nat_eq p) (cons_option who rest) ≡ false
        → (list_any (nat_eq p) rest ≡ false → last ≡ None) → option_or last (cond (is_number p who) (Some (length h.entries)) None) ≡ None
    go None rest last any known = ap (λ o. option_or o None) (known any)
    go (Some q) rest last any known = elim (cases_Bool (nat_eq p q)) [
      | inl same ↦ absurd (false≢true (sym any ∙ rw same refl))
      | inr other ↦ rw (other, known (rw other at any)) refl
    ]

-- who was sent has one, no less than the first place
record HasPlace (first : ℕ) (rank : Option ℕ) : Type 0 where
  at : ℕ
  is : rank ≡ Some at
  least : first ≤ at

one_more : (h : History) (e : EntryValue) → length (with_entry h e).entries ≡ length h.entries + 1
one_more h e = length-append h.entries (e ∷ [])

has_place : (b : List ℕ) (p : ℕ) (h : History) (es : List EntryValue) → list_any (nat_eq p) (sent_from b h es) ≡ true
    → HasPlace (length h.entries) (last_place b p h es)
has_place b p h [] any = absurd (false≢true any)
has_place b p h (e ∷ later) any =
    go (said (sends b h) e) (sent_from b (with_entry h e) later) (last_place b p (with_entry h e) later) any
    (has_place b p (with_entry h e) later) (no_place b p (with_entry h e) later)
  where
    again : (last other : Option ℕ) → HasPlace (length (with_entry h e).entries) last → HasPlace (length h.entries) (option_or last other)
    again last other known = record { at = known.at; is = or_first p known.at last other known.is; least = omega (arith, known.least, one_more h e) }

    go : (who : Option ℕ) (rest : List ℕ) (last : Option ℕ) → list_any (nat_eq p) (cons_option who rest) ≡ true
        → (list_any (nat_eq p) rest ≡ true → HasPlace (length (with_entry h e).entries) last) → (list_any (nat_eq p) rest ≡ false → last ≡ None)
        → HasPlace (length h.entries) (option_or last (cond (is_number p who) (Some (length h.entries)) None))
    go None rest last any known unknown = again last None (known any)
    go (Some q) rest last any known unknown = elim (cases_Bool (list_any (nat_eq p) rest)) [
      | inl more ↦ again last (cond (nat_eq p q) (Some (length h.entries)) None) (known more)
      | inr none ↦ elim (cases_Bool (nat_eq p q)) [
        | inl same ↦ record { at = length h.entries; is = rw (unknown none, same) refl; least = omega arith }
        | inr other ↦ absurd (false≢true (rw (other, none) at any))
      ]
    ]

rises-same : (r s : ℕ → Option ℕ) (ps : List ℕ) → ((q : ℕ) → list_any (nat_eq q) ps ≡ true → r q ≡ s q) → Rises r ps → Rises s ps
rises-same r s [] same rises = tt
rises-same r s (p ∷ ps) same rises = (
  λ q any. subst (λ one. IsBefore one (s q)) (same p (rw (nat_eq-same p) refl)) (subst (λ other. IsBefore (r p) other) (same q (behind q any)) (rises.0 q any)),
  rises-same r s ps (λ q any. same q (behind q any)) rises.1,
)
  where
    behind : (q : ℕ) → list_any (nat_eq q) ps ≡ true → (nat_eq q p || list_any (nat_eq q) ps) ≡ true
    behind q any = rw any (go (nat_eq q p))
      where
        go : (b : Bool) → (b || true) ≡ true
        go true = refl
        go false = refl

rises-filter : (f : ℕ → Bool) (r : ℕ → Option ℕ) (ps : List ℕ) → Rises r ps → Rises r (filter f ps)
rises-filter f r [] rises = tt
rises-filter f r (p ∷ ps) rises = go (f p) (rises-filter f r ps rises.1)
  where
    stays : (q : ℕ) (kept any : Bool) → (kept && any) ≡ true → any ≡ true
    stays q true any both = both
    stays q false any both = absurd (false≢true both)

    go : (kept : Bool) → Rises r (filter f ps) → Rises r (cond kept (p ∷ filter f ps) (filter f ps))
    go true rest = (λ q any. rises.0 q (stays q (f q) (list_any (nat_eq q) ps) (sym (any-filter f q ps) ∙ any)), rest)
    go false rest = rest

-- those who are kept rise
rises-kept : (b : List ℕ) (h : History) (es : List EntryValue) → Rises (λ p. last_place b p h es) (keep_last (sent_from b h es))
rises-kept b h [] = tt
rises-kept b h (e ∷ later) =
    go (said (sends b h) e) (sent_from b (with_entry h e) later) (λ p. last_place b p (with_entry h e) later)
    (rises-kept b (with_entry h e) later) (λ p. has_place b p (with_entry h e) later) (λ p. no_place b p (with_entry h e) later)
  where
    here : ℕ
    here = length h.entries

    go : (who : Option ℕ) (rest : List ℕ) (last : ℕ → Option ℕ) → Rises last (keep_last rest)
        → ((p : ℕ) → list_any (nat_eq p) rest ≡ true → HasPlace (length (with_entry h e).entries) (last p)) → ((p : ℕ) → list_any (nat_eq p) rest ≡ false → last p ≡ None)
        → Rises (λ p. option_or (last p) (cond (is_number p who) (Some here) None)) (keep_last (cons_option who rest))
    go None rest last rises known unknown = rises-same last _ (keep_last rest) (λ q any. sym (or_none (last q))) rises
    go (Some q) rest last rises known unknown = elim (cases_Bool (list_any (nat_eq q) rest)) [
      | inl again ↦ rw again tail
      | inr once ↦ rw once (first once, tail)
    ]
      where
        stands : (p : ℕ) → list_any (nat_eq p) (keep_last rest) ≡ true → HasPlace (length (with_entry h e).entries) (last p)
        stands p any = known p (sym (any-keep_last p rest) ∙ any)

        tail : Rises (λ p. option_or (last p) (cond (nat_eq p q) (Some here) None)) (keep_last rest)
        tail = rises-same last _ (keep_last rest) (λ p any. let at = stands p any in at.is ∙ sym (or_first p at.at (last p) _ at.is)) rises

        first : list_any (nat_eq q) rest ≡ false → (p : ℕ) → list_any (nat_eq p) (keep_last rest) ≡ true
            → IsBefore (option_or (last q) (cond (nat_eq q q) (Some here) None)) (option_or (last p) (cond (nat_eq p q) (Some here) None))
        first once p any = let at = stands p any in rw (unknown q once, nat_eq-same q, at.is) (omega (arith, at.least, one_more h e))

pub order-by_rank : (h : History) (b : List ℕ) → IsByRank h b (order h b)
unfolding steps
order-by_rank h b = record {
  those = any-order h b;
  rising = rises-filter (λ p. is_on h p b) (rank h b) (keep_last (sent_to h b)) (rises-kept b (opened h.opening) h.entries);
}

-- ---- there is one list by rising rank

before-not_after : (one other : Option ℕ) → IsBefore one other → IsBefore other one → ⊥
before-not_after None other before after = before
before-not_after (Some n) None before after = before
before-not_after (Some n) (Some m) before after = omega (arith, before, after)

-- nobody stands twice
rises-once : (r : ℕ → Option ℕ) (p : ℕ) (ps : List ℕ) → Rises r (p ∷ ps) → list_any (nat_eq p) ps ≡ false
rises-once r p ps rises = elim (cases_Bool (list_any (nat_eq p) ps)) [
  | inl twice ↦ absurd (before-not_after (r p) (r p) (rises.0 p twice) (rises.0 p twice))
  | inr once ↦ once
]

rises-head : (r : ℕ → Option ℕ) (p q : ℕ) (ps qs : List ℕ) → Rises r (p ∷ ps) → Rises r (q ∷ qs)
    → (nat_eq p q || list_any (nat_eq p) qs) ≡ true → (nat_eq q p || list_any (nat_eq q) ps) ≡ true → p ≡ q
rises-head r p q ps qs one other among too = elim (cases_Bool (nat_eq p q)) [
  | inl same ↦ same_number p q same
  | inr apart ↦ elim (cases_Bool (nat_eq q p)) [
    | inl same ↦ sym (same_number q p same)
    | inr away ↦ absurd (before-not_after (r p) (r q) (one.0 q (rw away at too)) (other.0 p (rw apart at among)))
  ]
]

pub IsOnce-rises : (r : ℕ → Option ℕ) (ps : List ℕ) → Rises r ps → IsOnce ps
IsOnce-rises r [] rises = tt
IsOnce-rises r (p ∷ ps) rises = (rises-once r p ps rises, IsOnce-rises r ps rises.1)

pub rises-only : (r : ℕ → Option ℕ) (ps qs : List ℕ) → Rises r ps → Rises r qs → ((p : ℕ) → list_any (nat_eq p) ps ≡ list_any (nat_eq p) qs) → ps ≡ qs
rises-only r [] [] one other same = refl
rises-only r [] (q ∷ qs) one other same = absurd (false≢true (same q ∙ rw (nat_eq-same q) refl))
rises-only r (p ∷ ps) [] one other same = absurd (false≢true (sym (same p) ∙ rw (nat_eq-same p) refl))
rises-only r (p ∷ ps) (q ∷ qs) one other same =
    let head : p ≡ q = rises-head r p q ps qs one other (sym (same p) ∙ rw (nat_eq-same p) refl) (same q ∙ rw (nat_eq-same q) refl) in
    ap (λ x. x ∷ ps) head ∙ ap (λ rest. q ∷ rest) (rises-only r ps qs one.1 other.1 (rest head))
  where
    rest : p ≡ q → (x : ℕ) → list_any (nat_eq x) ps ≡ list_any (nat_eq x) qs
    rest head x = elim (cases_Bool (nat_eq x p)) [
      | inl is ↦
          ap (λ y. list_any (nat_eq y) ps) (same_number x p is) ∙ rises-once r p ps one
          ∙ sym (ap (λ y. list_any (nat_eq y) qs) (same_number x p is ∙ head) ∙ rises-once r q qs other)
      | inr apart ↦ rw (apart, subst (λ y. nat_eq x y ≡ false) head apart) at (same x)
    ]

pub order-only : (h : History) (b : List ℕ) (ps : List ℕ) → IsByRank h b ps → ps ≡ order h b
order-only h b ps by_rank =
    rises-only (rank h b) ps (order h b) by_rank.rising (order-by_rank h b).rising (λ p. by_rank.those p ∙ sym (any-order h b p))

pub order-once : (h : History) (b : List ℕ) → IsOnce (order h b)
order-once h b = IsOnce-rises (rank h b) (order h b) (order-by_rank h b).rising
