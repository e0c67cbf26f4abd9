-- In a legal history at most one vacancy is on offer to a person, and none is assigned to them then.
use Rattle.std.proofs.Common.{◌≡◌, ℕ, inl, inr, Bool, true, false, cond, ◌||◌, ◌&&◌, nat_eq, Option, None, Some, unwrap_or, List, [], ◌∷◌, refl, sym, ap, subst, ◌∙◌}
use Rattle.std.specs.List.{list_any, find}
use Rattle.std.proofs.lemmas.Bool.{cases_Bool, false≢true}
use Rattle.desk_model.specs.declared.command.Cmd.{Cmd}
use Rattle.desk_model.specs.declared.command.Cmd.TheVariants as cmd
use Rattle.desk_model.specs.statements.Entry.{EntryValue}
use Rattle.desk_model.specs.histories.History.{History, with_entry, is_done, said}
use Rattle.desk_model.specs.histories.Register.{vacancies}
use Rattle.desk_model.specs.offers.Offers.{offer_in, is_of, ends, open_offer, is_to}
use Rattle.desk_model.specs.offers.Assigned.{reports, assigns, is_assigned, assigned}
use Rattle.desk_model.specs.histories.Legal.{answer_to, IsNext, IsLegal}
use Rattle.desk_model.proofs.SaidLemmas.{said-some}
use Rattle.desk_model.proofs.AssignedLemmas.{has-comes, assigned-has}
use Rattle.desk_model.proofs.OrderLemmas.{same_number, nat_eq-same}
use Rattle.desk_model.proofs.LegalLemmas.{legal-induction, said-next}
use Rattle.desk_model.proofs.MadeLemmas.{still-among}
use Rattle.desk_model.proofs.OpensLemmas.{Opens, next-says, said-ends, offer-comes, still-open, stays, opens-this, settle-open}

pub find-fails : (test : ℕ → Bool) (xs : List ℕ) (x : ℕ) → find test xs ≡ None → list_any (nat_eq x) xs ≡ true → test x ≡ false
find-fails test [] x none any = absurd (false≢true any)
find-fails test (y ∷ ys) x none any = go (test y) (nat_eq x y) refl refl (find-fails test ys x) none any
  where
    go : (passes same : Bool) → test y ≡ passes → nat_eq x y ≡ same → (find test ys ≡ None → list_any (nat_eq x) ys ≡ true → test x ≡ false)
        → cond passes (Some y) (find test ys) ≡ None → (same || list_any (nat_eq x) ys) ≡ true → test x ≡ false
    go true same is eq rest none any = cc
    go false true is eq rest none any = ap test (same_number x y eq) ∙ is
    go false false is eq rest none any = rest none any

-- ---- a legal history

pub record OneOffer (h : History) : Type 0 where
  pub among : (v p : ℕ) → is_to p (open_offer h v) ≡ true → list_any (nat_eq v) (vacancies h) ≡ true
  pub one : (v w p : ℕ) → is_to p (open_offer h v) ≡ true → is_to p (open_offer h w) ≡ true → v ≡ w
  pub idle : (v w p : ℕ) → is_to p (open_offer h v) ≡ true → is_assigned h p w ≡ false

-- who accepts a vacancy
accepts-it : (p v : ℕ) (c : Cmd) → assigns p v c ≡ Some true → c ≡ cmd.Accept v p
accepts-it p v (cmd.Accept vac person) told = go (nat_eq person p) refl told
  where
    go : (mine : Bool) → nat_eq person p ≡ mine → cond mine (Some (nat_eq vac v)) None ≡ Some true → cmd.Accept vac person ≡ cmd.Accept v p
    go true is told = let same : nat_eq vac v ≡ true = cc in rw (same_number vac v same, same_number person p is) refl
    go false is told = cc
accepts-it p v (cmd.Drop person) told = go (nat_eq person p) told
  where
    go : (mine : Bool) → cond mine (Some false) None ≡ Some true → cmd.Drop person ≡ cmd.Accept v p
    go true told = cc
    go false told = cc
accepts-it p v (cmd.Happened person event) told = go (nat_eq person p && reports event) told
  where
    go : (mine : Bool) → cond mine (Some false) None ≡ Some true → cmd.Happened person event ≡ cmd.Accept v p
    go true told = cc
    go false told = cc
accepts-it p v (cmd.Annul vac) told = go (nat_eq vac v) told
  where
    go : (mine : Bool) → cond mine (Some false) None ≡ Some true → cmd.Annul vac ≡ cmd.Accept v p
    go true told = cc
    go false told = cc
accepts-it p v other told = cc

grown-silent : (h : History) (e : EntryValue) → IsNext h e → offer_in e.moment e.reply ≡ None → OneOffer h → OneOffer (with_entry h e)
grown-silent h e is none was = record {
  among = λ v p to. still-among h e v (was.among v p (still-open h e v p none to));
  one = λ v w p to too. was.one v w p (still-open h e v p none to) (still-open h e w p none too);
  idle = λ v w p to. has-comes h e p w ∙ go v w p to (said (assigns p w) e) refl;
}
  where
    go : (v w p : ℕ) → is_to p (open_offer (with_entry h e) v) ≡ true → (told : Option Bool) → said (assigns p w) e ≡ told → unwrap_or told (is_assigned h p w) ≡ false
    go v w p to None told = was.idle v w p (still-open h e v p none to)
    go v w p to (Some false) told = refl
    go v w p to (Some true) told =
        let next = said-next (assigns p w) h e true is told in
        let parts = said-some (assigns p w) e true told in
        let command = accepts-it p w e.stated.cmd next.0 in
        let was_open = settle-open h w p _ (subst (λ c. is_done (answer_to h e.moment c) ≡ true) command next.1) in
        let same : v ≡ w = was.one v w p (still-open h e v p none to) was_open in
        let ends_it : ends v e ≡ Some None = rw (parts.0, command, same, nat_eq-same w) refl in
        absurd (false≢true (sym (ap (is_to p) (offer-comes h e v ∙ ap (λ o. unwrap_or o (open_offer h v)) (said-ends v e none ∙ ends_it))) ∙ to))

grown-opens : (h : History) (e : EntryValue) → Opens h e → OneOffer h → OneOffer (with_entry h e)
grown-opens h e new was = record {
  among = λ v p to. elim (cases_Bool (nat_eq new.vac v)) [
    | inl this ↦ still-among h e v (subst (λ w. list_any (nat_eq w) (vacancies h) ≡ true) (same_number new.vac v this) new.made)
    | inr other ↦ still-among h e v (was.among v p (old v p other to))
  ];
  one = λ v w p to too. elim (cases_Bool (nat_eq new.vac v)) [
    | inl this ↦ elim (cases_Bool (nat_eq new.vac w)) [
      | inl that ↦ sym (same_number new.vac v this) ∙ same_number new.vac w that
      | inr other ↦ absurd (apart v w p this other to too)
    ]
    | inr other ↦ elim (cases_Bool (nat_eq new.vac w)) [
      | inl that ↦ absurd (apart w v p that other too to)
      | inr neither ↦ was.one v w p (old v p other to) (old w p neither too)
    ]
  ];
  idle = λ v w p to. has-comes h e p w ∙ ap (λ o. unwrap_or o (is_assigned h p w)) (ap (λ d. cond d (assigns p w e.stated.cmd) None) new.undone) ∙ elim (cases_Bool (nat_eq new.vac v)) [
    | inl this ↦ sym (assigned-has h p w) ∙ ap (is_of w) (subst (λ q. assigned h q ≡ None) (mine v p this to) new.idle)
    | inr other ↦ was.idle v w p (old v p other to)
  ];
}
  where
    old : (v p : ℕ) → nat_eq new.vac v ≡ false → is_to p (open_offer (with_entry h e) v) ≡ true → is_to p (open_offer h v) ≡ true
    old v p other to = sym (ap (is_to p) (stays h e v (new.no_other v other))) ∙ to

    mine : (v p : ℕ) → nat_eq new.vac v ≡ true → is_to p (open_offer (with_entry h e) v) ≡ true → new.offer.person ≡ p
    mine v p this to = same_number new.offer.person p (sym (ap (is_to p) (opens-this h e new v this)) ∙ to)

    apart : (v w p : ℕ) → nat_eq new.vac v ≡ true → nat_eq new.vac w ≡ false → is_to p (open_offer (with_entry h e) v) ≡ true → is_to p (open_offer (with_entry h e) w) ≡ true → ⊥
    apart v w p this other to too =
        let was_open : is_to p (open_offer h w) ≡ true = old w p other too in
        let fails : is_to new.offer.person (open_offer h w) ≡ false = find-fails (λ x. is_to new.offer.person (open_offer h x)) (vacancies h) w new.free (was.among w p was_open) in
        false≢true (sym fails ∙ ap (λ q. is_to q (open_offer h w)) (mine v p this to) ∙ was_open)

grown : (h : History) (e : EntryValue) → IsLegal h → IsNext h e → OneOffer h → OneOffer (with_entry h e)
grown h e legal is was = elim (next-says h e is) [ inl none ↦ grown-silent h e is none was | inr new ↦ grown-opens h e new was ]

pub one-offer : (h : History) → IsLegal h → OneOffer h
one-offer h legal =
    legal-induction OneOffer
    (λ o valid. record { among = λ x q at. absurd (false≢true at); one = λ x y q at too. absurd (false≢true at); idle = λ x y q at. absurd (false≢true at) }) grown h legal
