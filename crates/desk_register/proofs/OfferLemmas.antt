-- What is kept as on offer to persons goes on as what is on offer to them does.
use Rattle.std.proofs.Common.{◌≡◌, ◌↔◌, ℕ, Bool, true, false, cond, nat_eq, List, [], ◌∷◌, Option, None, Some, is_some, is_none, refl, sym, ap, ◌∙◌, subst}
use Rattle.std.proofs.lemmas.Bool.{false≢true}
use Rattle.std.specs.Option.{option_map, option_map_or, option_or, option_and_then}
use Rattle.std.specs.List.{find}
use Rattle.desk_model.specs.declared.command.Cmd.{Cmd}
use Rattle.desk_model.specs.declared.command.Cmd.TheVariants as cmd
use Rattle.desk_model.specs.declared.reply.Reply.{Reply}
use Rattle.desk_model.specs.declared.reply.Reply.TheVariants as reply
use Rattle.desk_model.specs.declared.offer.Offer.{Offer}
use Rattle.desk_model.specs.declared.vac_state.VacState.{VacState}
use Rattle.desk_model.specs.declared.vac_state.VacState.TheVariants as state
use Rattle.desk_model.specs.statements.Entry.{EntryValue}
use Rattle.desk_model.specs.histories.History.{History, is_done}
use Rattle.desk_model.specs.histories.Register.{enrols_any, vacancies}
use Rattle.desk_model.specs.offers.Offers.{is_of, asks_for, offer_in, settles, open_offer, is_to, offered_to, on_offer}
use Rattle.desk_model.specs.offers.States.{state_of}
use Rattle.desk_model.specs.laws.Comes.{left_open, on_offer_after}
use Rattle.desk_model.specs.laws.RestsOn.{RestsOn}
use Rattle.desk_register.specs.Changes.{subject, changed, freed, with_offer, put_under, put_enrolled, enrolled, CanEnrol, asked, offeree}
use Rattle.desk_register.specs.Done.{IsDone}
use Rattle.desk_register.specs.Persons.{assigned_in, offered_in}
use Rattle.desk_register.specs.Vacancies.{offered_vac, offered_person}
use Rattle.desk_register.specs.declared.kept_person.KeptPerson.{KeptPerson}
use Rattle.desk_register.proofs.PersonLemmas.{same, same_number}

-- ---- what is kept

-- all else that is kept of a person is the same
pub record IsSameElse (k later : Option KeptPerson) : Type 0 where
  pub person : option_map (λ x. x.person) later ≡ option_map (λ x. x.person) k
  pub quals : option_map_or (λ x. x.quals) later 0 ≡ option_map_or (λ x. x.quals) k 0
  pub marked_off : option_map_or (λ x. x.marked_off) later false ≡ option_map_or (λ x. x.marked_off) k false
  pub closed : option_map_or (λ x. x.closed) later false ≡ option_map_or (λ x. x.closed) k false
  pub assigned : assigned_in later ≡ assigned_in k

pub same-else : (k : Option KeptPerson) → IsSameElse k k
same-else k = record { person = refl; quals = refl; marked_off = refl; closed = refl; assigned = refl }

pub put-else : (who vac : Option ℕ) (under : ℕ → Option KeptPerson) (q : ℕ) → IsSameElse (under q) (put_under who (with_offer vac) under q)
put-else None vac under q = same-else (under q)
put-else (Some p) vac under q = go (nat_eq p q) (under q)
  where
    go : (here : Bool) (k : Option KeptPerson) → IsSameElse k (cond here (option_map (with_offer vac) k) k)
    go true None = same-else None
    go true (Some k) = record { person = refl; quals = refl; marked_off = refl; closed = refl; assigned = refl }
    go false k = same-else k

-- where nothing is on offer to them any more
put-none : (who : Option ℕ) (under : ℕ → Option KeptPerson) (q : ℕ) → offered_in (put_under who (with_offer None) under q) ≡ cond (is_of q who) None (offered_in (under q))
put-none None under q = refl
put-none (Some p) under q = go (nat_eq p q) (under q)
  where
    go : (here : Bool) (k : Option KeptPerson) → offered_in (cond here (option_map (with_offer None) k) k) ≡ cond here None (offered_in k)
    go true None = refl
    go true (Some k) = refl
    go false k = refl

-- where a vacancy is, and they are kept
put-some : (p vac : ℕ) (under : ℕ → Option KeptPerson) (q : ℕ) → is_none (under p) ≡ false
    → offered_in (put_under (Some p) (with_offer (Some vac)) under q) ≡ cond (nat_eq p q) (Some vac) (offered_in (under q))
put-some p vac under q known = go (nat_eq p q) refl
  where
    some : (k : Option KeptPerson) → is_none k ≡ false → offered_in (option_map (with_offer (Some vac)) k) ≡ Some vac
    some None known = absurd (false≢true (sym known))
    some (Some k) known = refl

    go : (here : Bool) → nat_eq p q ≡ here → offered_in (cond here (option_map (with_offer (Some vac)) (under q)) (under q)) ≡ cond here (Some vac) (offered_in (under q))
    go true here = some (under q) (subst (λ x. is_none (under x) ≡ false) (same_number p q here) known)
    go false here = refl

-- no other change is of that
put-other : (who : Option ℕ) (change : KeptPerson → KeptPerson) (under : ℕ → Option KeptPerson) (q : ℕ) → ((k : KeptPerson) → (change k).on_offer ≡ k.on_offer)
    → offered_in (put_under who change under q) ≡ offered_in (under q)
put-other None change under q leaves = refl
put-other (Some p) change under q leaves = go (nat_eq p q) (under q)
  where
    go : (here : Bool) (k : Option KeptPerson) → offered_in (cond here (option_map change k) k) ≡ offered_in k
    go true None = refl
    go true (Some k) = leaves k
    go false k = refl

changed-other : (c : Cmd) (k : KeptPerson) → (changed c k).on_offer ≡ k.on_offer
changed-other (cmd.List p a) k = refl
changed-other (cmd.MarkOff p) k = refl
changed-other (cmd.MarkOn p) k = refl
changed-other (cmd.Qualify p a) k = refl
changed-other (cmd.Happened p a) k = refl
changed-other (cmd.Accept a p) k = refl
changed-other (cmd.NoAnswer a p) k = refl
changed-other (cmd.Drop p) k = refl
changed-other other k = refl

enrolled-other : (c : Cmd) (under : ℕ → Option KeptPerson) (numbers : List ℕ) (q : ℕ) → CanEnrol (enrols_any c) under numbers → offered_in (put_enrolled c under q) ≡ offered_in (under q)
enrolled-other (cmd.Enrol p craft home able) under numbers q can = go (nat_eq p q) refl
  where
    go : (here : Bool) → nat_eq p q ≡ here → offered_in (cond here (Some (enrolled craft home able)) (under q)) ≡ offered_in (under q)
    go true here = sym (ap offered_in (subst (λ x. under x ≡ None) (same_number p q here) can.0))
    go false here = refl
enrolled-other other under numbers q can = refl

-- ---- what a command settles that is done

-- a vacancy's open offer is to a person just where it stands so; and of one vacancy at most
abbrev pub IsOpenAsStands : History → Type 0
IsOpenAsStands h = (v p : ℕ) → (is_to p (open_offer h v) ≡ true) ↔ (state_of h v ≡ state.OnOffer p)

abbrev pub HasOneOffer : History → Type 0
HasOneOffer h = (v w p : ℕ) → is_to p (open_offer h v) ≡ true → is_to p (open_offer h w) ≡ true → v ≡ w

found-passes : {X : Type 0} (test : X → Bool) (xs : List X) (x : X) → find test xs ≡ Some x → test x ≡ true
found-passes test [] x is = absurd (false≢true (ap is_some is))
found-passes test (y ∷ xs) x is = go (test y) refl (found-passes test xs x) is
  where
    same_one : Some y ≡ Some x → y ≡ x
    same_one is = cc

    go : (passes : Bool) → test y ≡ passes → (find test xs ≡ Some x → test x ≡ true) → cond passes (Some y) (find test xs) ≡ Some x → test x ≡ true
    go true here later is = ap test (sym (same_one is)) ∙ here
    go false here later is = later is

is-open : (h : History) (q w : ℕ) → on_offer h q ≡ Some w → is_to q (open_offer h w) ≡ true
is-open h q w is = found-passes (λ v. is_to q (open_offer h v)) (vacancies h) w is

one-person : (offer : Option Offer) (p q : ℕ) → is_to p offer ≡ true → is_to q offer ≡ true → p ≡ q
one-person None p q to also = absurd (false≢true to)
one-person (Some offer) p q to also = sym (same_number offer.person p to) ∙ same_number offer.person q also

-- of a vacancy that is on offer to one person, that is on offer to another just where they are that person
whose : (h : History) (v p q w : ℕ) → HasOneOffer h → is_to p (open_offer h v) ≡ true → on_offer h q ≡ Some w → nat_eq v w ≡ nat_eq p q
whose h v p q w one to is = go (nat_eq v w) (nat_eq p q) refl refl
  where
    theirs : is_to q (open_offer h w) ≡ true
    theirs = is-open h q w is

    go : (a b : Bool) → nat_eq v w ≡ a → nat_eq p q ≡ b → a ≡ b
    go true true x y = refl
    go false false x y = refl
    go true false x y =
        let this : p ≡ q = one-person (open_offer h v) p q to (ap (λ n. is_to q (open_offer h n)) (same_number v w x) ∙ theirs) in
        sym (ap (nat_eq p) (sym this) ∙ same p) ∙ y
    go false true x y =
        let this : v ≡ w = one v w q (ap (λ n. is_to n (open_offer h v)) (sym (same_number p q y)) ∙ to) theirs in
        sym x ∙ ap (nat_eq v) (sym this) ∙ same v

either : (b : Bool) (o : Option ℕ) → o ≡ cond b o o
either true o = refl
either false o = refl

settled-one : (h : History) (v : ℕ) (who : Option ℕ) (q : ℕ) → ((w : ℕ) → on_offer h q ≡ Some w → nat_eq v w ≡ is_of q who)
    → left_open (Some v) (on_offer h q) ≡ cond (is_of q who) None (on_offer h q)
settled-one h v who q whose_is = go (on_offer h q) refl
  where
    go : (was : Option ℕ) → on_offer h q ≡ was → left_open (Some v) was ≡ cond (is_of q who) None was
    go None is = either (is_of q who) None
    go (Some w) is = rw (whose_is w is) refl

-- whom a vacancy stands on offer to that is annulled
annulled : (h : History) (v q w : ℕ) → IsOpenAsStands h → HasOneOffer h → on_offer h q ≡ Some w → nat_eq v w ≡ is_of q (asked (state_of h v))
annulled h v q w stands one is = go (asked (state_of h v)) refl
  where
    by_state : (how : VacState) (p : ℕ) → asked how ≡ Some p → how ≡ state.OnOffer p
    by_state (state.OnOffer x) p is = cc
    by_state (state.Taken x) p is = absurd (false≢true (ap is_some is))
    by_state (state.Begun x) p is = absurd (false≢true (ap is_some is))
    by_state state.Vacant p is = absurd (false≢true (ap is_some is))
    by_state state.Annulled p is = absurd (false≢true (ap is_some is))

    none : asked (state_of h v) ≡ None → (here : Bool) → nat_eq v w ≡ here → here ≡ false
    none idle true here = absurd (false≢true (ap is_some (sym idle ∙ ap asked ((stands v q).0 (ap (λ n. is_to q (open_offer h n)) (same_number v w here) ∙ is-open h q w is)))))
    none idle false here = refl

    go : (who : Option ℕ) → asked (state_of h v) ≡ who → nat_eq v w ≡ is_of q who
    go None idle = none idle (nat_eq v w) refl
    go (Some p) to = whose h v p q w one ((stands v p).1 (by_state (state_of h v) p to)) is

left-open : (was : Option ℕ) → left_open None was ≡ was
left-open None = refl
left-open (Some v) = refl

-- what a command that is done settles is what is on offer to the offeree
settled-is : (h : History) (c : Cmd) (q : ℕ) → IsOpenAsStands h → HasOneOffer h → RestsOn h c → left_open (settles c) (on_offer h q) ≡ cond (is_of q (offeree h c)) None (on_offer h q)
settled-is h (cmd.Accept v p) q stands one rests = settled-one h v (Some p) q (λ w is. whose h v p q w one rests.to is)
settled-is h (cmd.Decline v p) q stands one rests = settled-one h v (Some p) q (λ w is. whose h v p q w one rests.to is)
settled-is h (cmd.NoAnswer v p) q stands one rests = settled-one h v (Some p) q (λ w is. whose h v p q w one rests.to is)
settled-is h (cmd.Withdraw v p) q stands one rests = settled-one h v (Some p) q (λ w is. whose h v p q w one rests.to is)
settled-is h (cmd.Annul v) q stands one rests = settled-one h v (asked (state_of h v)) q (λ w is. annulled h v q w stands one is)
settled-is h other q stands one rests = left-open (on_offer h q)

done-offers : (m : ℕ) (r : Reply) → is_done r ≡ true → offer_in m r ≡ None
done-offers m (reply.Offered p b k) done = absurd (false≢true done)
done-offers m other done = refl

after-done : (e : EntryValue) (c : Cmd) (q : ℕ) (was : Option ℕ) → IsDone e c → on_offer_after q e was ≡ left_open (settles c) was
after-done e c q was is = rw (done-offers e.moment e.reply is.done, is.done, is.of) refl

-- what is kept as on offer, after a command that was done
pub offers-keep : (h : History) (e : EntryValue) (c : Cmd) (lost who : Option ℕ) (under : ℕ → Option KeptPerson) (numbers : List ℕ) (q : ℕ)
    → IsOpenAsStands h → HasOneOffer h → RestsOn h e.stated.cmd → IsDone e c → CanEnrol (enrols_any c) under numbers → who ≡ offeree h c → offered_in (under q) ≡ on_offer h q
    → offered_in (put_under who (with_offer None) (put_under (subject c) (changed c) (put_under lost freed (put_enrolled c under))) q) ≡ on_offer_after q e (on_offer h q)
offers-keep h e c lost who under numbers q stands one rests is can who_is agrees =
    put-none who (put_under (subject c) (changed c) (put_under lost freed (put_enrolled c under))) q
    ∙ ap (λ x. cond (is_of q who) None x) (put-other (subject c) (changed c) (put_under lost freed (put_enrolled c under)) q (changed-other c)
    ∙ put-other lost freed (put_enrolled c under) q (λ k. refl) ∙ enrolled-other c under numbers q can ∙ agrees)
    ∙ ap (λ x. cond (is_of q x) None (on_offer h q)) who_is
    ∙ sym (settled-is h c q stands one (subst (RestsOn h) is.of rests))
    ∙ sym (after-done e c q (on_offer h q) is)

-- ---- what is on offer after an entry that was not done

after-refused : (e : EntryValue) (q : ℕ) (was : Option ℕ) → is_done e.reply ≡ false → offered_to q e ≡ None → on_offer_after q e was ≡ was
after-refused e q was refused none = rw (none, refused) (left-open was)

-- one that offers nothing
pub stays-on_offer : (e : EntryValue) (q : ℕ) (was : Option ℕ) → is_done e.reply ≡ false → offered_vac e ≡ None → on_offer_after q e was ≡ was
stays-on_offer e q was refused none = after-refused e q was refused (go (offer_in e.moment e.reply) none)
  where
    go : (offer : Option Offer) → option_and_then (λ x. asks_for e.stated.cmd) offer ≡ None → cond (is_to q offer) (asks_for e.stated.cmd) None ≡ None
    go None none = refl
    go (Some offer) none = rw none (sym (either (nat_eq offer.person q) None))

-- one that offers a vacancy
pub offers-made : (e : EntryValue) (vac p : ℕ) (under : ℕ → Option KeptPerson) (q : ℕ) (was : Option ℕ) → is_done e.reply ≡ false → offered_vac e ≡ Some vac → offered_person e ≡ Some p
    → is_none (under p) ≡ false → offered_in (under q) ≡ was → offered_in (put_under (Some p) (with_offer (Some vac)) under q) ≡ on_offer_after q e was
offers-made e vac p under q was refused of to known agrees = put-some p vac under q known ∙ ap (λ x. cond (nat_eq p q) (Some vac) x) agrees ∙ go (offer_in e.moment e.reply) refl of to
  where
    same_one : (a b : ℕ) → Some a ≡ Some b → a ≡ b
    same_one a b is = cc

    made : (b : Bool) → cond b (Some vac) was ≡ option_or (cond b (Some vac) None) (left_open None was)
    made true = refl
    made false = sym (left-open was)

    go : (offer : Option Offer) → offer_in e.moment e.reply ≡ offer → option_and_then (λ x. asks_for e.stated.cmd) offer ≡ Some vac → option_map (λ x. x.person) offer ≡ Some p
        → cond (nat_eq p q) (Some vac) was ≡ on_offer_after q e was
    go None is of to = absurd (false≢true (ap is_some to))
    go (Some offer) is of to = rw (is, of, refused, same_one offer.person p to) (made (nat_eq p q))

-- the reply that offers to this person
pub offered-reply : (m p : ℕ) (r : Reply) → option_map (λ (x : Offer). x.person) (offer_in m r) ≡ Some p → (b : List ℕ) × ((k : ℕ) × (r ≡ reply.Offered p b k))
offered-reply m p (reply.Offered x b k) is = (b, (k, cc))
offered-reply m p other is = absurd (false≢true (ap is_some is))

-- and the vacancy that was asked for
pub asked-vacancy : (e : EntryValue) (vac : ℕ) → offered_vac e ≡ Some vac → asks_for e.stated.cmd ≡ Some vac
asked-vacancy e vac of = go (offer_in e.moment e.reply) of
  where
    go : (offer : Option Offer) → option_and_then (λ x. asks_for e.stated.cmd) offer ≡ Some vac → asks_for e.stated.cmd ≡ Some vac
    go None of = absurd (false≢true (ap is_some of))
    go (Some offer) of = of
