-- What an entry leaves that was not done, and what its offer makes of a vacancy.
use Rattle.std.proofs.Common.{◌≡◌, ◌≤◌, length, ℕ, Bool, true, false, not, cond, nat_eq, List, [], ◌++◌, append-nil, Option, None, Some, is_some, is_none, refl, sym, ap, ◌∙◌, subst}
use Rattle.std.proofs.lemmas.Bool.{false≢true}
use Rattle.std.specs.Prelude.{if◌then◌else◌, unwrap_or}
use Rattle.std.specs.Option.{option_map, option_map_or, option_or, option_and_then}
use Rattle.std.specs.List.{cons_option}
use Rattle.desk_model.specs.declared.command.Cmd.{Cmd}
use Rattle.desk_model.specs.declared.command.Cmd.TheVariants as cmd
use Rattle.desk_model.specs.declared.reply.Reply.TheVariants as reply
use Rattle.desk_model.specs.declared.offer.Offer.{Offer}
use Rattle.desk_model.specs.declared.board_setup.BoardSetup.{BoardSetup}
use Rattle.desk_model.specs.declared.vac_state.VacState.TheVariants as state
use Rattle.desk_model.specs.statements.Job.{JobValue}
use Rattle.desk_model.specs.statements.Entry.{EntryValue}
use Rattle.desk_model.specs.histories.History.{History, with_entry, is_done, said}
use Rattle.desk_model.specs.histories.Register.{enrols, enrols_any, gives, makes, makes_any, sets_up, sets_up_any, person_of, persons, vacancy_of, vacancies, boards}
use Rattle.desk_model.specs.histories.Duty.{closes}
use Rattle.desk_model.specs.boards.Marks.{marks}
use Rattle.desk_model.specs.offers.Offers.{is_of, asks_for, offer_in, on_offer}
use Rattle.desk_model.specs.offers.States.{state_of}
use Rattle.desk_model.specs.offers.TurnedDown.{turns_down, has_turned_down}
use Rattle.desk_model.specs.answers.NextAnswer.{known_answer}
use Rattle.desk_model.specs.answers.OfferAnswer.{offer_made_answer}
use Rattle.desk_model.specs.laws.Comes.{Comes, state_after, on_offer_after}
use Rattle.desk_model.specs.laws.RestsOn.{MayOffer}
use Rattle.desk_model.specs.histories.Legal.{answer_to, is_within, moment, IsNext}
use Rattle.desk_register.specs.Changes.{with_offer, put_under}
use Rattle.desk_register.specs.Persons.{offered_in, IsPerson, ArePersons}
use Rattle.desk_register.specs.Boards.{AreBoards}
use Rattle.desk_register.specs.Among.{index_among}
use Rattle.desk_register.specs.TurnedDown.{turned_for, AreTurned}
use Rattle.desk_register.specs.Vacancies.{IsVacancy, AreVacancies, offered_vac, offered_person, on_offer_to}
use Rattle.desk_register.specs.declared.kept_person.KeptPerson.{KeptPerson}
use Rattle.desk_register.specs.declared.kept_vacancy.KeptVacancy.{KeptVacancy}
use Rattle.desk_register.proofs.PersonLemmas.{same, same_number, or_false, option_or-none}
use Rattle.desk_register.proofs.RosterLemmas.{unknown-is}
use Rattle.desk_register.proofs.OfferLemmas.{IsSameElse, same-else, put-else, stays-on_offer, offers-made, asked-vacancy, offered-reply}
use Rattle.desk_register.proofs.KeepLemmas.{unmade-is, state-stays, state-offered}

said-refused : {X : Type 0} (f : Cmd → Option X) (e : EntryValue) → is_done e.reply ≡ false → said f e ≡ None
said-refused f e refused = rw refused refl

none-more : {X : Type 0} (f : Cmd → Option X) (e : EntryValue) (xs : List X) → is_done e.reply ≡ false → xs ++ cons_option (said f e) [] ≡ xs
none-more f e xs refused = rw (said-refused f e refused) (append-nil xs)

person-stays : (h : History) (e : EntryValue) (p : ℕ) (k later : Option KeptPerson) → Comes h e → is_done e.reply ≡ false
    → IsSameElse k later → offered_in later ≡ on_offer (with_entry h e) p → IsPerson k h p → IsPerson later (with_entry h e) p
person-stays h e p k later comes refused rest offers is = record {
  person = rest.person ∙ is.person ∙ option_or-none (person_of h p) ∙ ap (option_or (person_of h p)) (sym (said-refused (enrols p) e refused)) ∙ sym (comes.person p);
  quals = rest.quals ∙ is.quals ∙ sym (comes.quals p ∙ rw (said-refused (gives p) e refused) refl);
  marked_off = rest.marked_off ∙ is.marked_off ∙ sym (comes.marked p ∙ rw (said-refused (marks p) e refused) refl);
  closed = rest.closed ∙ is.closed ∙ or_false _ ∙ sym (comes.closed p ∙ rw (said-refused (closes p) e refused) refl);
  assigned = rest.assigned ∙ is.assigned ∙ sym (comes.assigned p ∙ rw refused refl);
  on_offer = offers;
}

pub persons-stay : (h : History) (e : EntryValue) (under : ℕ → Option KeptPerson) (numbers : List ℕ) → Comes h e
    → ((q : ℕ) → on_offer (with_entry h e) q ≡ on_offer_after q e (on_offer h q)) → is_done e.reply ≡ false → offered_vac e ≡ None
    → ArePersons under numbers h → ArePersons under numbers (with_entry h e)
persons-stay h e under numbers comes offers refused none are = record {
  each = λ p. person-stays h e p (under p) (under p) comes refused (same-else (under p))
      ((are.each p).on_offer ∙ sym (offers p ∙ stays-on_offer e p (on_offer h p) refused none)) (are.each p);
  order = are.order ∙ sym (comes.persons ∙ none-more enrols_any e (persons h) refused);
}

-- one that offers a vacancy: to whom it does is enrolled
pub persons-offered : (h : History) (e : EntryValue) (vac p : ℕ) (under later : ℕ → Option KeptPerson) (numbers : List ℕ) → Comes h e
    → ((q : ℕ) → on_offer (with_entry h e) q ≡ on_offer_after q e (on_offer h q))
    → ((b : List ℕ) (k : ℕ) → asks_for e.stated.cmd ≡ Some vac → e.reply ≡ reply.Offered p b k → MayOffer h vac p b)
    → is_done e.reply ≡ false → offered_vac e ≡ Some vac → offered_person e ≡ Some p
    → ((q : ℕ) → later q ≡ put_under (Some p) (with_offer (Some vac)) under q)
    → ArePersons under numbers h → ArePersons later numbers (with_entry h e)
persons-offered h e vac p under later numbers comes offers rests refused of to later_is are = record {
  each = λ q. person-stays h e q (under q) (later q) comes refused (rw (later_is q) (put-else (Some p) (Some vac) under q))
      (ap offered_in (later_is q) ∙ offers-made e vac p under q (on_offer h q) refused of to known (are.each q).on_offer ∙ sym (offers q)) (are.each q);
  order = are.order ∙ sym (comes.persons ∙ none-more enrols_any e (persons h) refused);
}
  where
    enrolled : (b : List ℕ) (k : ℕ) → e.reply ≡ reply.Offered p b k → is_none (person_of h p) ≡ false
    enrolled b k is = ap not (rests b k (asked-vacancy e vac of) is).listed.enrolled

    known : is_none (under p) ≡ false
    known = let reply_is = offered-reply e.moment p e.reply to in unknown-is (under p) h p (are.each p) ∙ enrolled reply_is.0 reply_is.1.0 reply_is.1.1

pub boards-stay : (h : History) (e : EntryValue) (under : List ℕ → Option BoardSetup) (codes : List (List ℕ)) → Comes h e → is_done e.reply ≡ false
    → AreBoards under codes h → AreBoards under codes (with_entry h e)
boards-stay h e under codes comes refused are = record {
  each = λ b. are.each b ∙ option_or-none _ ∙ sym (comes.board b ∙ rw (said-refused (sets_up b) e refused) refl);
  order = are.order ∙ sym (comes.boards ∙ none-more sets_up_any e (boards h) refused);
}

-- a vacancy whose state is kept anew, after an entry that was not done
vacancy-stays : (h : History) (e : EntryValue) (v : ℕ) (k later : Option KeptVacancy) → Comes h e → is_done e.reply ≡ false
    → option_map (λ x. x.job) later ≡ option_map (λ x. x.job) k
    → option_map_or (λ x. x.state) later state.Vacant ≡ state_of (with_entry h e) v → IsVacancy k h v → IsVacancy later (with_entry h e) v
vacancy-stays h e v k later comes refused same_job stands is = record {
  job = same_job ∙ is.job ∙ option_or-none (vacancy_of h v) ∙ sym (comes.vacancy v ∙ rw (said-refused (makes v) e refused) refl);
  state = stands;
}

-- who has turned which vacancy down
pub turned-stays : (h : History) (e : EntryValue) (at : ℕ → ℕ → Bool) → Comes h e → is_done e.reply ≡ false → AreTurned at h → AreTurned at (with_entry h e)
turned-stays h e at comes refused are =
    let same_persons : persons (with_entry h e) ≡ persons h = comes.persons ∙ none-more enrols_any e (persons h) refused in
    let same_vacancies : vacancies (with_entry h e) ≡ vacancies h = comes.vacancies ∙ none-more makes_any e (vacancies h) refused in
    record {
      each = λ p v.
          ap (λ ns. turned_for at (index_among ns p) (index_among (vacancies (with_entry h e)) v)) same_persons
          ∙ ap (λ vs. turned_for at (index_among (persons h) p) (index_among vs v)) same_vacancies ∙ are.each p v ∙ or_false (has_turned_down h v p)
          ∙ sym (comes.turned_down v p ∙ rw (said-refused (turns_down v p h) e refused) refl);
      behind = λ i j above. are.behind i j (subst (λ ns. length ns ≤ i) same_persons above);
      beyond = λ i j above. are.beyond i j (subst (λ vs. length vs ≤ j) same_vacancies above);
    }

-- ---- offers

some-is : (x v : ℕ) (offer : Option Offer) → option_and_then (λ o. Some x) offer ≡ Some v → x ≡ v
some-is x v None is = absurd (false≢true (ap is_some is))
some-is x v (Some offer) is = ap (λ o. unwrap_or o 0) is

not-asked : (v : ℕ) (c : Cmd) (offer : Option Offer) → option_and_then (λ o. asks_for c) offer ≡ Some v → asks_for c ≡ None → ⊥
not-asked v c None is none = false≢true (ap is_some is)
not-asked v c (Some offer) is none = false≢true (ap is_some (sym none ∙ is))

next-made : (h : History) (m at vac v : ℕ) (made : Option JobValue) → option_and_then (λ o. Some vac) (offer_in at (known_answer h m vac made)) ≡ Some v → is_none made ≡ false
next-made h m at vac v None is = absurd (false≢true (ap is_some is))
next-made h m at vac v (Some job) is = refl

offer-made : (h : History) (m at vac v p : ℕ) (made : Option JobValue) → option_and_then (λ o. Some vac) (offer_in at (offer_made_answer h m vac p made)) ≡ Some v → is_none made ≡ false
offer-made h m at vac v p None is = absurd (false≢true (ap is_some is))
offer-made h m at vac v p (Some job) is = refl

asked-made : (h : History) (m at v : ℕ) (c : Cmd) → option_and_then (λ o. asks_for c) (offer_in at (answer_to h m c)) ≡ Some v → is_none (vacancy_of h v) ≡ false
asked-made h m at v (cmd.Next vac) is = subst (λ x. is_none (vacancy_of h x) ≡ false) (some-is vac v _ is) (next-made h m at vac v (vacancy_of h vac) is)
asked-made h m at v (cmd.Offer vac p) is = subst (λ x. is_none (vacancy_of h x) ≡ false) (some-is vac v _ is) (offer-made h m at vac v p (vacancy_of h vac) is)
asked-made h m at v other is = absurd (not-asked v other (offer_in at (answer_to h m other)) is refl)

-- a vacancy that is offered was made
offered-made : (h : History) (e : EntryValue) (v : ℕ) → IsNext h e → offered_vac e ≡ Some v → is_none (vacancy_of h v) ≡ false
offered-made h e v next is = go (is_within h.opening.window e.stated.minute) (subst (λ r. option_and_then (λ o. asks_for e.stated.cmd) (offer_in e.moment r) ≡ Some v) next.reply is)
  where
    go : (within : Bool) → option_and_then (λ o. asks_for e.stated.cmd) (offer_in e.moment (if within then answer_to h (moment h e.stated.minute) e.stated.cmd else reply.OutsideWindow)) ≡ Some v
        → is_none (vacancy_of h v) ≡ false
    go true is = asked-made h (moment h e.stated.minute) e.moment v e.stated.cmd is
    go false is = absurd (false≢true (ap is_some is))

pub vacancies-stay : (h : History) (e : EntryValue) (under : ℕ → Option KeptVacancy) (numbers : List ℕ) → Comes h e
    → ((v : ℕ) → state_of (with_entry h e) v ≡ state_after v e (state_of h v)) → is_done e.reply ≡ false → offered_vac e ≡ None
    → AreVacancies under numbers h → AreVacancies under numbers (with_entry h e)
vacancies-stay h e under numbers comes states refused none are = record {
  each = λ v. vacancy-stays h e v (under v) (under v) comes refused refl
      ((are.each v).state ∙ sym (states v ∙ state-stays e v (state_of h v) refused (ap (is_of v) none))) (are.each v);
  order = are.order ∙ sym (comes.vacancies ∙ none-more makes_any e (vacancies h) refused);
}

pub vacancies-offered : (h : History) (e : EntryValue) (vac p : ℕ) (under later : ℕ → Option KeptVacancy) (numbers : List ℕ) → Comes h e
    → ((v : ℕ) → state_of (with_entry h e) v ≡ state_after v e (state_of h v)) → IsNext h e → is_done e.reply ≡ false
    → offered_vac e ≡ Some vac → offered_person e ≡ Some p
    → ((v : ℕ) → later v ≡ (if nat_eq vac v then option_map (on_offer_to p) (under v) else under v))
    → AreVacancies under numbers h → AreVacancies later numbers (with_entry h e)
vacancies-offered h e vac p under later numbers comes states next refused of to later_is are = record {
  each = λ v. each v (nat_eq vac v) refl (later_is v);
  order = are.order ∙ sym (comes.vacancies ∙ none-more makes_any e (vacancies h) refused);
}
  where
    job-stays : (k : Option KeptVacancy) → option_map (λ x. x.job) (option_map (on_offer_to p) k) ≡ option_map (λ x. x.job) k
    job-stays None = refl
    job-stays (Some k) = refl

    stands : (k : Option KeptVacancy) → is_none k ≡ false → option_map_or (λ x. x.state) (option_map (on_offer_to p) k) state.Vacant ≡ state.OnOffer p
    stands None known = absurd (false≢true (sym known))
    stands (Some k) known = refl

    each : (v : ℕ) (here : Bool) → nat_eq vac v ≡ here → later v ≡ cond here (option_map (on_offer_to p) (under v)) (under v) → IsVacancy (later v) (with_entry h e) v
    each v true here is = vacancy-stays h e v (under v) (later v) comes refused (ap (option_map (λ x. x.job)) is ∙ job-stays (under v))
        (ap (λ k. option_map_or (λ x. x.state) k state.Vacant) is
        ∙ stands (under v) (unmade-is (under v) h v (are.each v) ∙ offered-made h e v next (of ∙ ap Some (same_number vac v here)))
        ∙ sym (states v ∙ state-offered e v p (state_of h v) refused (ap (is_of v) of ∙ here) (ap (is_of p) to ∙ same p)))
        (are.each v)
    each v false here is = vacancy-stays h e v (under v) (later v) comes refused (ap (option_map (λ x. x.job)) is)
        (ap (λ k. option_map_or (λ x. x.state) k state.Vacant) is ∙ (are.each v).state
        ∙ sym (states v ∙ state-stays e v (state_of h v) refused (ap (is_of v) of ∙ here)))
        (are.each v)
