-- What is kept of open offers goes on as the history does.
use Rattle.std.proofs.Common.{◌≡◌, ◌≤◌, ◌<◌, ℕ, Bool, true, false, ◌||◌, cond, ◌==◌, nat_eq, List, [], ◌∷◌, ◌++◌, length, Option, None, Some, is_some, refl, sym, ap, ◌∙◌, subst, arith}
use Rattle.std.specs.Prelude.{if◌then◌else◌}
use Rattle.std.specs.Option.{option_map, option_or}
use Rattle.std.specs.Set.{is_member}
use Rattle.std.specs.List.{Contains, cons_option, AllByRecursion, IsDistinct}
use Rattle.std.proofs.lemmas.Bool.{false≢true}
use Rattle.std.proofs.lemmas.Bool.Decides.{nat_tests}
use Rattle.std.proofs.lemmas.Cmp.{nat_eq_equiv}
use Rattle.std.proofs.lemmas.List.{length-map}
use Rattle.std.proofs.lemmas.List.Elements.{Contains-get_or}
use Rattle.std.proofs.lemmas.Map.Made.{length-le_from_is_member, is_member-Decides}
use Rattle.offer_flight.specs.declared.in_flight.InFlight.{InFlight}
use Rattle.offer_flight.specs.Flight.{of_vacancy, of_person, persons_of, IsOneMap}
use Rattle.desk_model.specs.declared.person.Person.{Person}
use Rattle.desk_model.specs.declared.offer.Offer.{Offer}
use Rattle.desk_model.specs.statements.Entry.{EntryValue}
use Rattle.desk_model.specs.histories.History.{History, with_entry, said}
use Rattle.desk_model.specs.histories.Register.{enrols, sets_up_any, person_of, persons, boards}
use Rattle.desk_model.specs.offers.Offers.{asks_for, offer_in, settles, open_offer, on_offer}
use Rattle.desk_model.specs.laws.Comes.{Comes, left_open, on_offer_after}
use Rattle.desk_register.specs.Among.{index_among}
use Rattle.desk_register.proofs.PersonLemmas.{same, same_number}
use Rattle.desk_register.proofs.IndexAmongLemmas.{index-lt, index-is, number-decides}
use Rattle.desk_state.specs.OpenOffers.{IsSame, IsOffer, AreOffers}
use Rattle.desk_state.proofs.HoldIndexLemmas.{position-stays}
use Rattle.desk_state.proofs.HearLemmas.{OffersNothing, settled-offer, settled-to, made-offer, made-to, silent-offer, silent-to}

-- ---- what is kept, among persons and boards of which there may be one more

offer-stays : (codes : List (List ℕ)) (more : Option (List ℕ)) (minutes : ℕ) (kept : Option InFlight) (offer : Option Offer) → IsOffer codes minutes kept offer
    → IsOffer (codes ++ cons_option more []) minutes kept offer
offer-stays codes more minutes None None is = is
offer-stays codes more minutes (Some kept) (Some offer) is = record {
  person = is.person;
  board = position-stays _ codes more kept.board is.board;
  deadline = is.deadline;
}
offer-stays codes more minutes None (Some offer) is = absurd is
offer-stays codes more minutes (Some kept) None is = absurd is

known-stays : (was more : Option Person) → is_some was ≡ true → is_some (option_or was more) ≡ true
known-stays None more known = absurd (false≢true known)
known-stays (Some person) more known = refl

offers-go_on : (h : History) (e : EntryValue) (flight : List InFlight) (minutes : ℕ) → Comes h e → ((v : ℕ) → IsOffer (boards h) minutes (of_vacancy flight v) (open_offer (with_entry h e) v))
    → ((p : ℕ) → option_map (λ (f : InFlight). f.vac) (of_person flight p) ≡ on_offer (with_entry h e) p)
    → ((p : ℕ) → is_some (of_person flight p) ≡ true → is_some (person_of h p) ≡ true) → AreOffers flight minutes (with_entry h e)
offers-go_on h e flight minutes comes each to enrolled = record {
  each = λ v. subst (λ codes. IsOffer codes minutes (of_vacancy flight v) (open_offer (with_entry h e) v)) (sym comes.boards)
      (offer-stays (boards h) (said sets_up_any e) minutes (of_vacancy flight v) (open_offer (with_entry h e) v) (each v));
  to = to;
  enrolled = λ p has. ap is_some (comes.person p) ∙ known-stays (person_of h p) (said (enrols p) e) (enrolled p has);
}

-- ---- an entry that offers nothing and settles nothing

pub offers-stay : (h : History) (e : EntryValue) (flight : List InFlight) (minutes : ℕ) → Comes h e → ((p : ℕ) → on_offer (with_entry h e) p ≡ on_offer_after p e (on_offer h p))
    → said settles e ≡ None → OffersNothing e → AreOffers flight minutes h → AreOffers flight minutes (with_entry h e)
offers-stay h e flight minutes comes to none silent are = offers-go_on h e flight minutes comes
    (λ v. subst (IsOffer (boards h) minutes (of_vacancy flight v)) (sym (silent-offer h e v comes none silent)) (are.each v))
    (λ p. are.to p ∙ sym (to p ∙ silent-to e p (on_offer h p) none silent)) are.enrolled

-- ---- one that settles

offer-ended : (codes : List (List ℕ)) (minutes : ℕ) (here : Bool) (kept : Option InFlight) (offer : Option Offer) → IsOffer codes minutes kept offer
    → IsOffer codes minutes (cond here None kept) (cond here None offer)
offer-ended codes minutes true kept offer is = tt
offer-ended codes minutes false kept offer is = is

kept-ended : (here : Bool) (kept : Option InFlight) → is_some (cond here None kept) ≡ true → is_some kept ≡ true
kept-ended true kept has = absurd (false≢true has)
kept-ended false kept has = has

-- a person's offer is of the vacancy just where they are the person of the vacancy's
module _ (flight : List InFlight) (one : IsOneMap flight) (vac : ℕ) where
  whose : (done f : InFlight) (p : ℕ) → of_vacancy flight vac ≡ Some done → of_person flight p ≡ Some f → nat_eq done.person p ≡ nat_eq vac f.vac
  whose done f p found theirs = go (nat_eq done.person p) (nat_eq vac f.vac) refl refl
    where
      own : of_vacancy flight done.vac ≡ Some done
      own = ap (of_vacancy flight) (one.vacancy vac done found) ∙ found

      same_offer : (a b : InFlight) → Some a ≡ Some b → a ≡ b
      same_offer a b is = cc

      go : (a b : Bool) → nat_eq done.person p ≡ a → nat_eq vac f.vac ≡ b → a ≡ b
      go true true x y = refl
      go false false x y = refl
      go true false x y =
          let is : done ≡ f = same_offer done f (sym ((one.both done).0 own) ∙ ap (of_person flight) (same_number done.person p x) ∙ theirs) in
          sym (subst (λ o. nat_eq vac o.vac ≡ true) is (subst (λ v. nat_eq vac v ≡ true) (sym (one.vacancy vac done found)) (same vac))) ∙ y
      go false true x y =
          let is : done ≡ f = same_offer done f (sym found ∙ ap (of_vacancy flight) (same_number vac f.vac y)
          ∙ (one.both f).1 (ap (of_person flight) (one.person p f theirs) ∙ theirs)) in
          sym x ∙ subst (λ o. nat_eq o.person p ≡ true) (sym is) (subst (λ q. nat_eq q p ≡ true) (sym (one.person p f theirs)) (same p))

  to-ended : (done : InFlight) (p : ℕ) (theirs : Option InFlight) → of_vacancy flight vac ≡ Some done → of_person flight p ≡ theirs
      → option_map (λ (f : InFlight). f.vac) (cond (nat_eq done.person p) None theirs) ≡ left_open (Some vac) (option_map (λ (f : InFlight). f.vac) theirs)
  to-ended done p None found is = go (nat_eq done.person p)
    where
      go : (mine : Bool) → option_map (λ (f : InFlight). f.vac) (cond mine None None) ≡ None
      go true = refl
      go false = refl
  to-ended done p (Some f) found is = rw (whose done f p found is) (go (nat_eq vac f.vac))
    where
      go : (here : Bool) → option_map (λ (f : InFlight). f.vac) (cond here None (Some f)) ≡ cond here None (Some f.vac)
      go true = refl
      go false = refl

  to-idle : (p : ℕ) (theirs : Option InFlight) → of_vacancy flight vac ≡ None → of_person flight p ≡ theirs
      → option_map (λ (f : InFlight). f.vac) theirs ≡ left_open (Some vac) (option_map (λ (f : InFlight). f.vac) theirs)
  to-idle p None found is = refl
  to-idle p (Some f) found is = go (nat_eq vac f.vac) refl
    where
      go : (here : Bool) → nat_eq vac f.vac ≡ here → Some f.vac ≡ cond here None (Some f.vac)
      go true x = absurd (false≢true (ap is_some (sym found ∙ ap (of_vacancy flight) (same_number vac f.vac x) ∙ (one.both f).1 (ap (of_person flight) (one.person p f is) ∙ is))))
      go false x = refl

-- one whose vacancy had an open offer
pub offers-ended : (h : History) (e : EntryValue) (flight later : List InFlight) (minutes vac : ℕ) (done : InFlight) → Comes h e
    → ((p : ℕ) → on_offer (with_entry h e) p ≡ on_offer_after p e (on_offer h p)) → said settles e ≡ Some vac → IsOneMap flight → Some done ≡ of_vacancy flight vac
    → ((v : ℕ) → of_vacancy later v ≡ (if nat_eq vac v then None else of_vacancy flight v))
    → ((p : ℕ) → of_person later p ≡ (if nat_eq done.person p then None else of_person flight p)) → AreOffers flight minutes h → AreOffers later minutes (with_entry h e)
offers-ended h e flight later minutes vac done comes to settled one found vacancies_are persons_are are = offers-go_on h e later minutes comes
    (λ v. subst (λ o. IsOffer (boards h) minutes o (open_offer (with_entry h e) v)) (sym (vacancies_are v))
    (subst (IsOffer (boards h) minutes (cond (nat_eq vac v) None (of_vacancy flight v))) (sym (settled-offer h e vac v comes settled))
    (offer-ended (boards h) minutes (nat_eq vac v) (of_vacancy flight v) (open_offer h v) (are.each v))))
    (λ p. ap (option_map (λ (f : InFlight). f.vac)) (persons_are p) ∙ to-ended flight one vac done p (of_person flight p) (sym found) refl
    ∙ ap (left_open (Some vac)) (are.to p) ∙ sym (to p ∙ settled-to e vac p (on_offer h p) settled))
    (λ p has. are.enrolled p (kept-ended (nat_eq done.person p) (of_person flight p) (sym (ap is_some (persons_are p)) ∙ has)))

-- one whose vacancy had none: none of it is kept
idle-offer : (codes : List (List ℕ)) (minutes : ℕ) (offer : Option Offer) → IsOffer codes minutes None offer → offer ≡ None
idle-offer codes minutes None is = refl
idle-offer codes minutes (Some offer) is = absurd is

pub closed-vacancy : (h : History) (flight : List InFlight) (minutes vac : ℕ) → AreOffers flight minutes h → of_vacancy flight vac ≡ None → open_offer h vac ≡ None
closed-vacancy h flight minutes vac are none = idle-offer (boards h) minutes (open_offer h vac) (subst (λ o. IsOffer (boards h) minutes o (open_offer h vac)) none (are.each vac))

pub offers-idle : (h : History) (e : EntryValue) (flight : List InFlight) (minutes vac : ℕ) → Comes h e
    → ((p : ℕ) → on_offer (with_entry h e) p ≡ on_offer_after p e (on_offer h p)) → said settles e ≡ Some vac → IsOneMap flight → of_vacancy flight vac ≡ None
    → AreOffers flight minutes h → AreOffers flight minutes (with_entry h e)
offers-idle h e flight minutes vac comes to settled one found are = offers-go_on h e flight minutes comes
    (λ v. subst (IsOffer (boards h) minutes (of_vacancy flight v)) (sym (settled-offer h e vac v comes settled ∙ same_offer v (nat_eq vac v) refl)) (are.each v))
    (λ p. are.to p ∙ sym (to p ∙ settled-to e vac p (on_offer h p) settled ∙ ap (left_open (Some vac)) (sym (are.to p)) ∙ sym (to-idle flight one vac p (of_person flight p) found refl) ∙ are.to p))
    are.enrolled
  where
    same_offer : (v : ℕ) (here : Bool) → nat_eq vac v ≡ here → cond here None (open_offer h v) ≡ open_offer h v
    same_offer v true x = sym (ap (open_offer h) (sym (same_number vac v x)) ∙ closed-vacancy h flight minutes vac are found)
    same_offer v false x = refl

-- ---- one that offers

-- to whom nothing is on offer has none of the open offers
not-among : (flight : List InFlight) (p : ℕ) → of_person flight p ≡ None → AllByRecursion (λ q. nat_eq p q ≡ false) (persons_of flight)
not-among [] p none = tt
not-among (x ∷ flight) p none = go (x.person == p) refl none (not-among flight p)
  where
    go : (mine : Bool) → (x.person == p) ≡ mine → cond mine (Some x) (of_person flight p) ≡ None
        → (of_person flight p ≡ None → AllByRecursion (λ q. nat_eq p q ≡ false) (persons_of flight)) → AllByRecursion (λ q. nat_eq p q ≡ false) (persons_of (x ∷ flight))
    go true is none rest = absurd (false≢true (sym (ap is_some none)))
    go false is none rest = (grind (arith, nat_tests, is), rest none)

among : (flight : List InFlight) (q : ℕ) → is_member nat_eq (persons_of flight) q ≡ true → is_some (of_person flight q) ≡ true
among [] q is = absurd (false≢true is)
among (x ∷ flight) q is = go (nat_eq q x.person) refl is (among flight q)
  where
    go : (mine : Bool) → nat_eq q x.person ≡ mine → (mine || is_member nat_eq (persons_of flight) q) ≡ true → (is_member nat_eq (persons_of flight) q ≡ true → is_some (of_person flight q) ≡ true)
        → is_some (cond (x.person == q) (Some x) (of_person flight q)) ≡ true
    go true here is rest = let mine : (x.person == q) ≡ true = grind (arith, nat_tests, here) in rw mine refl
    go false here is rest = let other : (x.person == q) ≡ false = grind (arith, nat_tests, here) in rw other (rest is)

-- who has an index is among them
enrolled-among : (numbers : List ℕ) (q : ℕ) → is_some (index_among numbers q) ≡ true → is_member nat_eq numbers q ≡ true
enrolled-among numbers q indexed = go (index_among numbers q) refl indexed
  where
    go : (index : Option ℕ) → index_among numbers q ≡ index → is_some index ≡ true → is_member nat_eq numbers q ≡ true
    go None is indexed = absurd (false≢true indexed)
    go (Some i) is indexed = (is_member-Decides number-decides numbers q).1
        (subst (Contains numbers) (sym (index-is numbers q i is)) (Contains-get_or numbers i 0 (index-lt numbers q i is)))

differ : (flight : List InFlight) (p : ℕ) → IsDistinct nat_eq (persons_of flight) → of_person flight p ≡ None → IsDistinct nat_eq (p ∷ persons_of flight)
unfolding IsDistinct
differ flight p apart none = (not-among flight p none, apart)

-- there are fewer open offers than persons, where one of these has none
pub offers-few : (h : History) (flight : List InFlight) (minutes p : ℕ) → ((q : ℕ) → is_some (index_among (persons h) q) ≡ is_some (person_of h q))
    → IsDistinct nat_eq (persons_of flight) → AreOffers flight minutes h → of_person flight p ≡ None → is_some (person_of h p) ≡ true → length flight < length (persons h)
offers-few h flight minutes p indexes apart are none known =
    let most : length (p ∷ persons_of flight) ≤ length (persons h) = length-le_from_is_member nat_eq_equiv (p ∷ persons_of flight) (persons h) (differ flight p apart none) (λ q is. members q (nat_eq q p) refl is) in
    omega (arith, most, length-map flight (λ (offer : InFlight). offer.person))
  where
    members : (q : ℕ) (mine : Bool) → nat_eq q p ≡ mine → (mine || is_member nat_eq (persons_of flight) q) ≡ true → is_member nat_eq (persons h) q ≡ true
    members q true here is = enrolled-among (persons h) q (indexes q ∙ subst (λ x. is_some (person_of h x) ≡ true) (sym (same_number q p here)) known)
    members q false here is = enrolled-among (persons h) q (indexes q ∙ are.enrolled q (among flight q is))

offer-made : (codes : List (List ℕ)) (minutes : ℕ) (here : Bool) (made : InFlight) (offer : Offer) (kept : Option InFlight) (was : Option Offer) → IsSame codes minutes made offer
    → IsOffer codes minutes kept was → IsOffer codes minutes (cond here (Some made) kept) (cond here (Some offer) was)
offer-made codes minutes true made offer kept was same is = same
offer-made codes minutes false made offer kept was same is = is

pub offers-made : (h : History) (e : EntryValue) (flight later : List InFlight) (minutes vac : ℕ) (made : InFlight) (offer : Offer) → Comes h e
    → ((p : ℕ) → on_offer (with_entry h e) p ≡ on_offer_after p e (on_offer h p)) → said settles e ≡ None → asks_for e.stated.cmd ≡ Some vac → offer_in e.moment e.reply ≡ Some offer
    → made.vac ≡ vac → IsSame (boards h) minutes made offer → is_some (person_of h offer.person) ≡ true
    → ((v : ℕ) → of_vacancy later v ≡ (if nat_eq made.vac v then Some made else of_vacancy flight v))
    → ((p : ℕ) → of_person later p ≡ (if nat_eq made.person p then Some made else of_person flight p)) → AreOffers flight minutes h → AreOffers later minutes (with_entry h e)
offers-made h e flight later minutes vac made offer comes to none asked is vac_is same known vacancies_are persons_are are = offers-go_on h e later minutes comes
    (λ v. subst (λ o. IsOffer (boards h) minutes o (open_offer (with_entry h e) v)) (sym (vacancies_are v ∙ ap (λ x. cond (nat_eq x v) (Some made) (of_vacancy flight v)) vac_is))
    (subst (IsOffer (boards h) minutes (cond (nat_eq vac v) (Some made) (of_vacancy flight v))) (sym (made-offer e vac offer none asked is h v comes))
    (offer-made (boards h) minutes (nat_eq vac v) made offer (of_vacancy flight v) (open_offer h v) same (are.each v))))
    (λ p. ap (option_map (λ (f : InFlight). f.vac)) (persons_are p ∙ ap (λ x. cond (nat_eq x p) (Some made) (of_person flight p)) same.person) ∙ to_made p (nat_eq offer.person p)
    ∙ sym (to p ∙ made-to e vac offer none asked is p (on_offer h p)))
    (λ p has. enrolled p (nat_eq offer.person p) refl (sym (ap is_some (persons_are p ∙ ap (λ x. cond (nat_eq x p) (Some made) (of_person flight p)) same.person)) ∙ has))
  where
    to_made : (p : ℕ) (mine : Bool) → option_map (λ (f : InFlight). f.vac) (cond mine (Some made) (of_person flight p)) ≡ option_or (cond mine (Some vac) None) (on_offer h p)
    to_made p true = ap Some vac_is
    to_made p false = are.to p

    enrolled : (p : ℕ) (mine : Bool) → nat_eq offer.person p ≡ mine → is_some (cond mine (Some made) (of_person flight p)) ≡ true → is_some (person_of h p) ≡ true
    enrolled p true x has = subst (λ q. is_some (person_of h q) ≡ true) (same_number offer.person p x) known
    enrolled p false x has = are.enrolled p has
