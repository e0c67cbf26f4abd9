-- The roster keeps on what a history says.
use Rattle.std.proofs.Common.{◌≡◌, ◌<◌, ◌↔◌, ℕ, Bool, true, false, not, nat_le, List, [], ◌++◌, length, Option, None, Some, is_some, is_none, refl, sym, ap, ◌∙◌, arith}
use Rattle.std.proofs.lemmas.Bool.{false≢true}
use Rattle.std.proofs.lemmas.Bool.Decides.{nat_tests}
use Rattle.std.specs.Prelude.{if◌then◌else◌}
use Rattle.std.specs.Option.{option_map}
use Rattle.std.specs.List.{cons_option}
use Rattle.desk_model.specs.declared.limits.TheConstants.{PERSON_LIMIT}
use Rattle.desk_model.specs.declared.command.Cmd.{Cmd}
use Rattle.desk_model.specs.declared.command.Cmd.TheVariants as cmd
use Rattle.desk_model.specs.declared.reply.Reply.TheVariants as reply
use Rattle.desk_model.specs.declared.vac_state.VacState.{VacState}
use Rattle.desk_model.specs.declared.vac_state.VacState.TheVariants as state
use Rattle.desk_model.specs.statements.Entry.{EntryValue}
use Rattle.desk_model.specs.histories.History.{History, with_entry, is_done}
use Rattle.desk_model.specs.histories.Register.{enrols_any, person_of, persons}
use Rattle.desk_model.specs.offers.Offers.{is_of, on_offer}
use Rattle.desk_model.specs.offers.Assigned.{assigned}
use Rattle.desk_model.specs.offers.States.{state_of}
use Rattle.desk_model.specs.laws.Comes.{Comes, on_offer_after}
use Rattle.desk_model.specs.laws.RestsOn.{RestsOn}
use Rattle.desk_model.specs.histories.Legal.{answer_to, IsNext}
use Rattle.desk_register.specs.Changes.{subject, changed, freed, with_offer, put_under, put_enrolled, CanEnrol, taker, loser, offeree}
use Rattle.desk_register.specs.Done.{IsDone}
use Rattle.desk_register.specs.Persons.{assigned_in, offered_in, IsPerson, ArePersons}
use Rattle.desk_register.specs.declared.kept_person.KeptPerson.{KeptPerson}
use Rattle.desk_register.proofs.PersonLemmas.{same, same_number, Follows}
use Rattle.desk_register.proofs.AgreeLemmas.{said-done, person-follows}
use Rattle.desk_register.proofs.AnswerLemmas.{subject-known, done-answer}
use Rattle.desk_register.proofs.ChangeLemmas.{OfNumber, IsLost, changes-follow}
use Rattle.desk_register.proofs.OfferLemmas.{IsSameElse, put-else, IsOpenAsStands, HasOneOffer, offers-keep}

-- a vacancy is assigned to a person exactly where it is taken by them
abbrev pub TakenIsAssigned : History → Type 0
TakenIsAssigned h = (v p : ℕ) → (assigned h p ≡ Some v) ↔ (state_of h v ≡ state.Taken p)

pub is-some : (o : Option ℕ) (v : ℕ) → is_of v o ≡ true → o ≡ Some v
is-some None v is = absurd (false≢true is)
is-some (Some w) v is = ap Some (same_number w v is)

-- whom a state names as its taker is whom the vacancy is assigned to
taker-assigned : (h : History) (v p : ℕ) → TakenIsAssigned h → is_of p (taker (state_of h v)) ≡ is_of v (assigned h p)
taker-assigned h v p law = both (is_of p (taker (state_of h v))) (is_of v (assigned h p)) refl refl
  where
    taken : (how : VacState) → is_of p (taker how) ≡ true → how ≡ state.Taken p
    taken (state.Taken x) is = ap state.Taken (same_number x p is)
    taken (state.OnOffer x) is = absurd (false≢true is)
    taken (state.Begun x) is = absurd (false≢true is)
    taken state.Vacant is = absurd (false≢true is)
    taken state.Annulled is = absurd (false≢true is)

    both : (a b : Bool) → is_of p (taker (state_of h v)) ≡ a → is_of v (assigned h p) ≡ b → a ≡ b
    both true true x y = refl
    both false false x y = refl
    both true false x y = absurd (false≢true (sym y ∙ ap (is_of v) ((law v p).1 (taken (state_of h v) x)) ∙ same v))
    both false true x y = absurd (false≢true (sym x ∙ ap (λ s. is_of p (taker s)) ((law v p).0 (is-some _ v y)) ∙ same p))

lost-is : (h : History) (c : Cmd) (lost : Option ℕ) (under : ℕ → Option KeptPerson) → TakenIsAssigned h → lost ≡ loser h c
    → ((p : ℕ) → assigned_in (under p) ≡ assigned h p) → IsLost c lost under
lost-is h (cmd.Annul v) lost under law is agrees = λ p. ap (is_of p) is ∙ taker-assigned h v p law ∙ ap (is_of v) (sym (agrees p))
lost-is h other lost under law is agrees = is

pub unknown-is : (k : Option KeptPerson) (h : History) (p : ℕ) → IsPerson k h p → is_none k ≡ is_none (person_of h p)
unknown-is k h p agrees = go k ∙ ap is_none agrees.person
  where
    go : (k : Option KeptPerson) → is_none k ≡ is_none (option_map (λ x. x.person) k)
    go None = refl
    go (Some k) = refl

pub none-is : {X : Type 0} (o : Option X) → is_none o ≡ true → o ≡ None
none-is None is = refl
none-is (Some x) is = absurd (false≢true is)

-- who is enrolled by a command that is done is new, and there is room
can-enrol : (h : History) (m : ℕ) (c : Cmd) (under : ℕ → Option KeptPerson) (numbers : List ℕ) → ArePersons under numbers h
    → is_done (answer_to h m c) ≡ true → CanEnrol (enrols_any c) under numbers
can-enrol h m (cmd.Enrol p a b d) under numbers are done = go (is_some (person_of h p)) (nat_le PERSON_LIMIT (length (persons h))) refl refl done
  where
    go : (used full : Bool) → is_some (person_of h p) ≡ used → nat_le PERSON_LIMIT (length (persons h)) ≡ full
        → is_done (if used then reply.Used else if full then reply.PersonsFull else reply.Done) ≡ true → (under p ≡ None) × (length numbers < PERSON_LIMIT)
    go true full x y done = absurd (false≢true done)
    go false true x y done = absurd (false≢true done)
    go false false x y done = (none-is (under p) (unknown-is (under p) h p (are.each p) ∙ ap not x), rw are.order grind (arith, nat_tests, y))
can-enrol h m other under numbers are done = tt

known-under : (h : History) (under : ℕ → Option KeptPerson) (who : Option ℕ) → ((p : ℕ) → IsPerson (under p) h p)
    → OfNumber (λ p. is_none (person_of h p) ≡ false) who → OfNumber (λ p. is_none (under p) ≡ false) who
known-under h under None each known = tt
known-under h under (Some p) each known = unknown-is (under p) h p (each p) ∙ known

-- what is kept goes on as what is said does, whatever is on offer
same-follows : (q : ℕ) (c : Cmd) (k mid later : Option KeptPerson) → Follows q c k mid → IsSameElse mid later → Follows q c k later
same-follows q c k mid later follows rest = record {
  person = rest.person ∙ follows.person;
  quals = rest.quals ∙ follows.quals;
  marked_off = rest.marked_off ∙ follows.marked_off;
  closed = rest.closed ∙ follows.closed;
  assigned = rest.assigned ∙ follows.assigned;
}

-- after a command that was done the roster keeps what the longer history says
pub persons-keep : (h : History) (e : EntryValue) (c : Cmd) (lost who : Option ℕ) (under later : ℕ → Option KeptPerson) (numbers after : List ℕ)
    → Comes h e → ((q : ℕ) → on_offer (with_entry h e) q ≡ on_offer_after q e (on_offer h q)) → TakenIsAssigned h → IsOpenAsStands h → HasOneOffer h
    → RestsOn h e.stated.cmd → IsNext h e → IsDone e c → lost ≡ loser h c → who ≡ offeree h c → ArePersons under numbers h
    → (CanEnrol (enrols_any c) under numbers
    → (q : ℕ) → later q ≡ put_under who (with_offer None) (put_under (subject c) (changed c) (put_under lost freed (put_enrolled c under))) q)
    → (CanEnrol (enrols_any c) under numbers → after ≡ numbers ++ cons_option (enrols_any c) [])
    → ArePersons later after (with_entry h e)
persons-keep h e c lost who under later numbers after comes offers law stands one rests next is lost_is who_is are later_is after_is =
    let done = done-answer h e c next is in
    let can = can-enrol h e.moment c under numbers are done in
    let known = known-under h under (subject c) are.each (subject-known h e.moment c done) in
    let mid : ℕ → Option KeptPerson = put_under (subject c) (changed c) (put_under lost freed (put_enrolled c under)) in
    record {
      each = λ q. person-follows h e c q (under q) (later q) comes is (are.each q)
          (rw (later_is can q) (same-follows q c (under q) (mid q) (put_under who (with_offer None) mid q)
          (changes-follow c lost under numbers q can known (lost-is h c lost under law lost_is (λ p. (are.each p).assigned))) (put-else who None mid q)))
          (ap offered_in (later_is can q) ∙ offers-keep h e c lost who under numbers q stands one rests is can who_is (are.each q).on_offer ∙ sym (offers q));
      order = after_is can ∙ ap (λ ps. ps ++ cons_option (enrols_any c) []) are.order
          ∙ ap (λ o. persons h ++ cons_option o []) (sym (said-done enrols_any e c is)) ∙ sym comes.persons;
    }

pub put_under-agree : (who : Option ℕ) (change : KeptPerson → KeptPerson) (u v : ℕ → Option KeptPerson) → ((q : ℕ) → u q ≡ v q) → (q : ℕ) → put_under who change u q ≡ put_under who change v q
put_under-agree None change u v agree q = agree q
put_under-agree (Some p) change u v agree q = rw (agree q) refl
