-- What is kept of all persons, where one of them did something more.
use Rattle.std.proofs.Common.{◌≡◌, ℕ, Bool, true, false, cond, nat_eq, Option, None, Some, Result, Ok, Err, List, [], refl, sym, ap, ◌∙◌, subst, arith}
use Rattle.std.specs.Prelude.{is_ok, IsSome}
use Rattle.indexmap.specs.IndexMap.{get}
use Rattle.std.specs.Result.{MatchResult}
use Rattle.std.proofs.lemmas.Bool.{false≢true}
use Rattle.std.proofs.lemmas.Bool.Decides.{nat_tests}
use Rattle.desk_base.specs.Number.{IsNumber}
use Rattle.duty_record.specs.declared.person_tours.PersonTours.{PersonTours}
use Rattle.duty_record.specs.declared.tour_book.TourBook.{TourBook}
use Rattle.duty_record.specs.Deeds.{Deed, keep}
use Rattle.duty_record.specs.Kept.{IsOf, Takes, TakesBy, TakesAt, IsUnder, AreTours}

pub tours-same : (book : TourBook) (one other : ℕ → List Deed) → ((p : ℕ) → one p ≡ other p) → AreTours book one → AreTours book other
tours-same book one other is are = record {
  each = λ p. subst (IsUnder (get nat_eq book.people p)) (is p) (are.each p);
  numbered = are.numbered;
}

-- nothing else is kept under any number
pub tours-kept_under : (book later : TourBook) (did : ℕ → List Deed) → ((p : ℕ) → get nat_eq later.people p ≡ get nat_eq book.people p) → AreTours book did → AreTours later did
tours-kept_under book later did same are = record {
  each = λ p. subst (λ o. IsUnder o (did p)) (sym (same p)) (are.each p);
  numbered = λ p k found. are.numbered p k (sym (same p) ∙ found);
}

pub at-same : (a b : ℕ) → nat_eq a b ≡ true → a ≡ b
at-same a b at = grind (arith, nat_tests, at)

-- ---- something is kept of one person more

pub tours-added : (book later : TourBook) (person : ℕ) (k : PersonTours) (did : ℕ → List Deed) → IsNumber person → IsOf k [] → get nat_eq book.people person ≡ None
    → ((p : ℕ) → get nat_eq later.people p ≡ cond (nat_eq person p) (Some k) (get nat_eq book.people p))
    → AreTours book did → AreTours later did
tours-added book later person k did number none absent adds are = record {
  each = λ p. subst (λ o. IsUnder o (did p)) (sym (adds p)) (each p (nat_eq person p) refl);
  numbered = λ p x found. numbered p x (nat_eq person p) refl (sym (adds p) ∙ found);
}
  where
    each : (p : ℕ) (here : Bool) → nat_eq person p ≡ here → IsUnder (cond here (Some k) (get nat_eq book.people p)) (did p)
    each p true here =
        let empty : did p ≡ [] = subst (λ o. IsUnder o (did p)) (ap (get nat_eq book.people) (sym (at-same person p here)) ∙ absent) (are.each p) in
        subst (IsOf k) (sym empty) none
    each p false here = are.each p

    numbered : (p : ℕ) (x : PersonTours) (here : Bool) → nat_eq person p ≡ here → cond here (Some k) (get nat_eq book.people p) ≡ Some x → IsNumber p
    numbered p x true here found = subst IsNumber (at-same person p here) number
    numbered p x false here found = are.numbered p x found

-- ---- and one did something more

pub takes-at : (here done : Bool) (d : Deed) (k later : Option PersonTours) (kept x : PersonTours) → (here ≡ true → k ≡ Some kept) → later ≡ cond here (Some x) k → Takes done d kept x
    → TakesAt here done d k later
takes-at false done d k later kept x has is takes = is
takes-at true done d k later kept x has is takes = subst (λ o. TakesBy done d o later) (sym (has refl)) (x, (is, takes))

pub tours-taken : (book later : TourBook) (person : ℕ) (done : Bool) (d : Deed) (did : ℕ → List Deed) → IsSome (get nat_eq book.people person)
    → ((p : ℕ) → TakesAt (nat_eq person p) done d (get nat_eq book.people p) (get nat_eq later.people p))
    → AreTours book did → AreTours later (λ p. cond (nat_eq person p) (cond done (keep (did p) d) (did p)) (did p))
tours-taken book later person done d did some takes are = record {
  each = λ p. each p (nat_eq person p) refl (takes p);
  numbered = λ p x found. numbered p x found (nat_eq person p) refl (takes p);
}
  where
    taken : (p : ℕ) (o later : Option PersonTours) → IsSome o → TakesBy done d o later → IsUnder o (did p) → IsUnder later (cond done (keep (did p) d) (did p))
    taken p None later some takes is = absurd (false≢true some)
    taken p (Some k) later some takes is = subst (λ o. IsUnder o (cond done (keep (did p) d) (did p))) (sym takes.1.0) (takes.1.1 (did p) is)

    each : (p : ℕ) (here : Bool) → nat_eq person p ≡ here → TakesAt here done d (get nat_eq book.people p) (get nat_eq later.people p)
        → IsUnder (get nat_eq later.people p) (cond here (cond done (keep (did p) d) (did p)) (did p))
    each p true here takes = taken p (get nat_eq book.people p) (get nat_eq later.people p) (subst (λ q. IsSome (get nat_eq book.people q)) (at-same person p here) some) takes (are.each p)
    each p false here takes = subst (λ o. IsUnder o (did p)) (sym takes) (are.each p)

    known : (p : ℕ) (o : Option PersonTours) → get nat_eq book.people p ≡ o → IsSome o → IsNumber p
    known p None at some = absurd (false≢true some)
    known p (Some k) at some = are.numbered p k at

    numbered : (p : ℕ) (x : PersonTours) → get nat_eq later.people p ≡ Some x → (here : Bool) → nat_eq person p ≡ here
        → TakesAt here done d (get nat_eq book.people p) (get nat_eq later.people p) → IsNumber p
    numbered p x found true here takes = known p (get nat_eq book.people p) refl (subst (λ q. IsSome (get nat_eq book.people q)) (at-same person p here) some)
    numbered p x found false here takes = are.numbered p x (sym takes ∙ found)

pub by_result : {X E : Type 0} (r : Result X E) (P Q : Type 0) → (is_ok r ≡ true → P) → (is_ok r ≡ false → Q) → MatchResult r (λ x. P) (λ e. Q)
by_result (Ok x) P Q fine bad = fine refl
by_result (Err e) P Q fine bad = bad refl

-- whether it was taken in or not
pub tours-kept : (book : TourBook) (person : ℕ) (d : Deed) (did : ℕ → List Deed) (done : Bool) → done ≡ true
    → AreTours book (λ p. cond (nat_eq person p) (cond done (keep (did p) d) (did p)) (did p)) → AreTours book (λ p. cond (nat_eq person p) (keep (did p) d) (did p))
tours-kept book person d did done fine are = tours-same book _ _ (λ p. ap (λ b. cond (nat_eq person p) (cond b (keep (did p) d) (did p)) (did p)) fine) are

pub tours-stay : (book : TourBook) (person : ℕ) (d : Deed) (did : ℕ → List Deed) (done : Bool) → done ≡ false
    → AreTours book (λ p. cond (nat_eq person p) (cond done (keep (did p) d) (did p)) (did p)) → AreTours book did
tours-stay book person d did done bad are =
    tours-same book _ did (λ p. ap (λ b. cond (nat_eq person p) (cond b (keep (did p) d) (did p)) (did p)) bad ∙ either (nat_eq person p) (did p)) are
  where
    either : (here : Bool) (ds : List Deed) → cond here ds ds ≡ ds
    either true ds = refl
    either false ds = refl
