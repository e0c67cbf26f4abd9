-- The vacancy that is on offer to a person: the last that was offered to them, while that offer is open; and what an entry makes of it.
use Rattle.std.proofs.Common.{◌≡◌, ℕ, inl, inr, Bool, true, false, cond, nat_eq, Option, None, Some, unwrap_or, refl, sym, ap, subst, ◌∙◌}
use Rattle.std.proofs.lemmas.Bool.{cases_Bool, false≢true}
use Rattle.desk_model.specs.statements.Entry.{EntryValue}
use Rattle.desk_model.specs.histories.History.{History, with_entry, said, last_of}
use Rattle.desk_model.specs.histories.Register.{vacancies}
use Rattle.desk_model.specs.offers.Offers.{is_of, offer_in, settles, open_offer, is_to, offered_to, on_offer}
use Rattle.desk_model.specs.laws.Comes.{left_open, on_offer_after}
use Rattle.desk_model.specs.histories.Legal.{IsNext, IsLegal}
use Rattle.desk_model.proofs.SaidLemmas.{last_of-silent, last_of-tells}
use Rattle.desk_model.proofs.OrderLemmas.{same_number, nat_eq-same}
use Rattle.desk_model.proofs.LegalLemmas.{legal-with, legal-induction}
use Rattle.desk_model.proofs.OfferedLemmas.{find-passes}
use Rattle.desk_model.proofs.OpensLemmas.{Opens, next-says, none-offered, said-ends, offer-comes, still-open, stays, opens-this}
use Rattle.desk_model.proofs.OneOfferLemmas.{find-fails, one-offer}

-- an open offer to a person is the last that was made to them
abbrev LastIsOpen : History → Type 0
LastIsOpen h = (p v : ℕ) → is_to p (open_offer h v) ≡ true → last_of (offered_to p) h.entries ≡ Some v

grown : (h : History) (e : EntryValue) → IsLegal h → IsNext h e → LastIsOpen h → LastIsOpen (with_entry h e)
grown h e legal is was p v to = elim (next-says h e is) [
  | inl none ↦ last_of-silent (offered_to p) h.entries e (none-offered e none p) ∙ was p v (still-open h e v p none to)
  | inr new ↦ elim (cases_Bool (nat_eq new.vac v)) [
    | inl this ↦
        let mine : new.offer.person ≡ p = same_number new.offer.person p (sym (ap (is_to p) (opens-this h e new v this)) ∙ to) in
        last_of-tells (offered_to p) h.entries e v (new.to p (rw mine (nat_eq-same p)) ∙ ap Some (same_number new.vac v this))
    | inr other ↦
        let old : is_to p (open_offer h v) ≡ true = sym (ap (is_to p) (stays h e v (new.no_other v other))) ∙ to in
        elim (cases_Bool (nat_eq new.offer.person p)) [
          | inl mine ↦ absurd (false≢true (sym (find-fails (λ x. is_to p (open_offer h x)) (vacancies h) v (subst (λ q. on_offer h q ≡ None) (same_number new.offer.person p mine) new.free) ((one-offer h legal).among v p old)) ∙ old))
          | inr theirs ↦ last_of-silent (offered_to p) h.entries e (new.to_other p theirs) ∙ was p v old
        ]
  ]
]

-- the vacancy, where its open offer is to the person
abbrev pub while_open : History → ℕ → Option ℕ → Option ℕ
while_open h p None = None
while_open h p (Some v) = cond (is_to p (open_offer h v)) (Some v) None

pub on_offer-last : (h : History) (p : ℕ) → IsLegal h → on_offer h p ≡ while_open h p (last_of (offered_to p) h.entries)
on_offer-last h p legal = go (on_offer h p) refl
  where
    last_is_open : LastIsOpen h
    last_is_open = legal-induction LastIsOpen (λ o valid q v to. absurd (false≢true to)) grown h legal

    none_open : (last : Option ℕ) → on_offer h p ≡ None → None ≡ while_open h p last
    none_open None none = refl
    none_open (Some v) none = elim (cases_Bool (is_to p (open_offer h v))) [
      | inl to ↦ absurd (false≢true (sym (find-fails (λ x. is_to p (open_offer h x)) (vacancies h) v none ((one-offer h legal).among v p to)) ∙ to))
      | inr away ↦ rw away refl
    ]

    go : (found : Option ℕ) → on_offer h p ≡ found → found ≡ while_open h p (last_of (offered_to p) h.entries)
    go (Some v) is =
        let to = find-passes (λ x. is_to p (open_offer h x)) (vacancies h) v is in
        rw (last_is_open p v to, to) refl
    go None is = none_open (last_of (offered_to p) h.entries) is

-- ---- with one entry more

-- an open offer to a person is theirs
on_offer-some : (h : History) (p v : ℕ) → IsLegal h → is_to p (open_offer h v) ≡ true → on_offer h p ≡ Some v
on_offer-some h p v legal to = go (on_offer h p) refl
  where
    go : (found : Option ℕ) → on_offer h p ≡ found → found ≡ Some v
    go None is = absurd (false≢true (sym (find-fails (λ x. is_to p (open_offer h x)) (vacancies h) v is ((one-offer h legal).among v p to)) ∙ to))
    go (Some w) is = ap Some ((one-offer h legal).one w v p (find-passes (λ x. is_to p (open_offer h x)) (vacancies h) w is) to)

on_offer-none : (h : History) (p : ℕ) → ((v : ℕ) → is_to p (open_offer h v) ≡ true → ⊥) → on_offer h p ≡ None
on_offer-none h p apart = go (on_offer h p) refl
  where
    go : (found : Option ℕ) → on_offer h p ≡ found → found ≡ None
    go None is = refl
    go (Some w) is = absurd (apart w (find-passes (λ x. is_to p (open_offer h x)) (vacancies h) w is))

none-open : (h : History) (p v : ℕ) → IsLegal h → on_offer h p ≡ None → is_to p (open_offer h v) ≡ true → ⊥
none-open h p v legal none to = let found = on_offer-some h p v legal to in none≢some v (sym none ∙ found)
  where
    none≢some : (w : ℕ) → None ≡ Some w → ⊥
    none≢some w is = cc

silent-comes : (h : History) (e : EntryValue) (p : ℕ) → IsLegal h → IsLegal (with_entry h e) → offer_in e.moment e.reply ≡ None
    → on_offer (with_entry h e) p ≡ left_open (said settles e) (on_offer h p)
silent-comes h e p legal later none = go (on_offer h p) refl
  where
    by_end : (w : ℕ) → on_offer h p ≡ Some w → (over : Bool) → is_of w (said settles e) ≡ over → on_offer (with_entry h e) p ≡ cond over None (Some w)
    by_end w is true over = on_offer-none (with_entry h e) p (λ v to.
        let same : v ≡ w = (one-offer h legal).one v w p (still-open h e v p none to) (find-passes (λ x. is_to p (open_offer h x)) (vacancies h) w is) in
        let closed : open_offer (with_entry h e) w ≡ None = offer-comes h e w ∙ ap (λ o. unwrap_or o (open_offer h w)) (said-ends w e none ∙ ap (λ b. cond b (Some None) None) over) in
        false≢true (sym (ap (is_to p) (ap (open_offer (with_entry h e)) same ∙ closed)) ∙ to))
    by_end w is false over = on_offer-some (with_entry h e) p w later
        (ap (is_to p) (stays h e w (said-ends w e none ∙ ap (λ b. cond b (Some None) None) over)) ∙ find-passes (λ x. is_to p (open_offer h x)) (vacancies h) w is)

    go : (was : Option ℕ) → on_offer h p ≡ was → on_offer (with_entry h e) p ≡ left_open (said settles e) was
    go None is = on_offer-none (with_entry h e) p (λ v to. none-open h p v legal is (still-open h e v p none to))
    go (Some w) is = by_end w is (is_of w (said settles e)) refl

opened-comes : (h : History) (e : EntryValue) (p : ℕ) (new : Opens h e) → IsLegal h → IsLegal (with_entry h e) → nat_eq new.offer.person p ≡ false
    → on_offer (with_entry h e) p ≡ on_offer h p
opened-comes h e p new legal later theirs = go (on_offer h p) refl
  where
    old : (v : ℕ) → is_to p (open_offer (with_entry h e) v) ≡ true → is_to p (open_offer h v) ≡ true
    old v to = elim (cases_Bool (nat_eq new.vac v)) [
      | inl this ↦ absurd (false≢true (sym theirs ∙ sym (ap (is_to p) (opens-this h e new v this)) ∙ to))
      | inr other ↦ sym (ap (is_to p) (stays h e v (new.no_other v other))) ∙ to
    ]

    go : (was : Option ℕ) → on_offer h p ≡ was → on_offer (with_entry h e) p ≡ was
    go None is = on_offer-none (with_entry h e) p (λ v to. none-open h p v legal is (old v to))
    go (Some w) is =
        let open_w = find-passes (λ x. is_to p (open_offer h x)) (vacancies h) w is in
        on_offer-some (with_entry h e) p w later (elim (cases_Bool (nat_eq new.vac w)) [
          | inl this ↦ absurd (false≢true (sym (ap (is_to p) (ap (open_offer h) (sym (same_number new.vac w this)) ∙ new.closed)) ∙ open_w))
          | inr other ↦ ap (is_to p) (stays h e w (new.no_other w other)) ∙ open_w
        ])

pub on_offer-comes : (h : History) (e : EntryValue) (p : ℕ) → IsLegal h → IsNext h e → on_offer (with_entry h e) p ≡ on_offer_after p e (on_offer h p)
on_offer-comes h e p legal is = elim (next-says h e is) [
  | inl none ↦ rw (none-offered e none p) (silent-comes h e p legal (legal-with h e legal is) none)
  | inr new ↦ elim (cases_Bool (nat_eq new.offer.person p)) [
    | inl mine ↦
        rw (new.to p mine)
        (on_offer-some (with_entry h e) p new.vac (legal-with h e legal is) (ap (is_to p) (opens-this h e new new.vac (nat_eq-same new.vac)) ∙ mine))
    | inr theirs ↦
        rw (new.to_other p theirs, new.undone) (opened-comes h e p new legal (legal-with h e legal is) theirs ∙ as_was (on_offer h p))
  ]
]
  where
    as_was : (was : Option ℕ) → was ≡ left_open None was
    as_was None = refl
    as_was (Some v) = refl
