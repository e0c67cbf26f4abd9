-- The register of vacancies keeps on what a history says.
use Rattle.std.proofs.Common.{◌&&◌, ◌≡◌, ◌<◌, ℕ, Bool, true, false, not, cond, nat_eq, nat_le, List, [], ◌++◌, length, Option, None, Some, is_some, is_none, refl, sym, ap, ◌∙◌, subst, arith}
use Rattle.std.proofs.lemmas.Bool.{false≢true}
use Rattle.std.proofs.lemmas.Bool.Decides.{nat_tests}
use Rattle.std.specs.Prelude.{if◌then◌else◌}
use Rattle.std.specs.Option.{option_map, option_and_then}
use Rattle.std.specs.List.{cons_option}
use Rattle.desk_model.specs.declared.limits.TheConstants.{VACANCY_LIMIT}
use Rattle.desk_model.specs.declared.command.Cmd.{Cmd}
use Rattle.desk_model.specs.declared.command.Cmd.TheVariants as cmd
use Rattle.desk_model.specs.declared.reply.Reply.{Reply}
use Rattle.desk_model.specs.declared.reply.Reply.TheVariants as reply
use Rattle.desk_model.specs.declared.offer.Offer.{Offer}
use Rattle.desk_model.specs.declared.vac_state.VacState.{VacState}
use Rattle.desk_model.specs.declared.vac_state.VacState.TheVariants as state
use Rattle.desk_model.specs.statements.Job.{JobValue}
use Rattle.desk_model.specs.statements.Entry.{EntryValue}
use Rattle.desk_model.specs.histories.History.{History, with_entry, is_done}
use Rattle.desk_model.specs.histories.Register.{makes, makes_any, vacancy_of, vacancies}
use Rattle.desk_model.specs.answers.VacancyAnswer.{is_edition_one, unknown_in, bad_in, chain_answer}
use Rattle.desk_model.specs.answers.SettleAnswer.{made_answer}
use Rattle.desk_model.specs.offers.Offers.{is_of, asks_for, offer_in}
use Rattle.desk_model.specs.offers.Assigned.{reports, assigned}
use Rattle.desk_model.specs.offers.States.{state_of}
use Rattle.desk_model.specs.laws.Comes.{Comes, state_after, offered_by}
use Rattle.desk_model.specs.histories.Legal.{answer_to, IsNext}
use Rattle.desk_register.specs.Done.{IsDone}
use Rattle.desk_register.specs.Vacancies.{IsVacancy, AreVacancies, target, had_by, IsMade, CanMake, Makes, ChangesAt, Changes, offered_vac, offered_person}
use Rattle.desk_register.specs.declared.kept_vacancy.KeptVacancy.{KeptVacancy}
use Rattle.desk_register.proofs.PersonLemmas.{same, same_number}
use Rattle.desk_register.proofs.AgreeLemmas.{said-done}
use Rattle.desk_register.proofs.AnswerLemmas.{done-answer}
use Rattle.desk_register.proofs.RosterLemmas.{TakenIsAssigned, is-some, none-is}
use Rattle.desk_register.proofs.SaidLemmas.{vacancy-said}
use Rattle.desk_register.proofs.VacancyLemmas.{VacancyFollows, vacancy-follows, changed-follows, other-follows}

pub unmade-is : (k : Option KeptVacancy) (h : History) (v : ℕ) → IsVacancy k h v → is_none k ≡ is_none (vacancy_of h v)
unmade-is k h v agrees = go k ∙ ap is_none agrees.job
  where
    go : (k : Option KeptVacancy) → is_none k ≡ is_none (option_map (λ x. x.job) k)
    go None = refl
    go (Some k) = refl

-- ---- what is so where a command is done

made-settled : (h : History) (v p : ℕ) (rest : JobValue → Offer → Reply) (made : Option JobValue) → is_done (made_answer h v p rest made) ≡ true → is_none made ≡ false
made-settled h v p rest None done = absurd (false≢true done)
made-settled h v p rest (Some job) done = refl

made-annulled : (unmade : Bool) (other : Reply) → is_done (if unmade then reply.UnknownVacancy else other) ≡ true → unmade ≡ false
made-annulled true other done = absurd (false≢true done)
made-annulled false other done = refl

-- who has a vacancy has one that was made
had-made : (k : Option KeptVacancy) (h : History) (v p : ℕ) → TakenIsAssigned h → IsVacancy k h v → is_of v (assigned h p) ≡ true → is_none k ≡ false
had-made None h v p law agrees mine = absurd (vacant (agrees.state ∙ (law v p).0 (is-some (assigned h p) v mine)))
  where
    is_vacant : VacState → Bool
    is_vacant state.Vacant = true
    is_vacant other = false

    vacant : state.Vacant ≡ state.Taken p → ⊥
    vacant is = false≢true (sym (ap is_vacant is))
had-made (Some k) h v p law agrees mine = refl

-- the vacancy whose state a command changes that is done was made
pub target-made : (h : History) (m : ℕ) (c : Cmd) (v : ℕ) (k : Option KeptVacancy) → TakenIsAssigned h → IsVacancy k h v
    → is_done (answer_to h m c) ≡ true → is_of v (target c (had_by h c)) ≡ true → is_none k ≡ false
target-made h m (cmd.Accept vac p) v k law agrees done here = unmade-is k h v agrees ∙ ap (λ x. is_none (vacancy_of h x)) (sym (same_number vac v here)) ∙ made-settled h vac p _ (vacancy_of h vac) done
target-made h m (cmd.Decline vac p) v k law agrees done here = unmade-is k h v agrees ∙ ap (λ x. is_none (vacancy_of h x)) (sym (same_number vac v here)) ∙ made-settled h vac p _ (vacancy_of h vac) done
target-made h m (cmd.NoAnswer vac p) v k law agrees done here = unmade-is k h v agrees ∙ ap (λ x. is_none (vacancy_of h x)) (sym (same_number vac v here)) ∙ made-settled h vac p _ (vacancy_of h vac) done
target-made h m (cmd.Withdraw vac p) v k law agrees done here = unmade-is k h v agrees ∙ ap (λ x. is_none (vacancy_of h x)) (sym (same_number vac v here)) ∙ made-settled h vac p _ (vacancy_of h vac) done
target-made h m (cmd.Annul vac) v k law agrees done here = unmade-is k h v agrees ∙ ap (λ x. is_none (vacancy_of h x)) (sym (same_number vac v here)) ∙ made-annulled (is_none (vacancy_of h vac)) _ done
target-made h m (cmd.Drop p) v k law agrees done here = had-made k h v p law agrees here
target-made h m (cmd.Happened p e) v k law agrees done here = go (reports e) here
  where
    go : (report : Bool) → is_of v (cond report (assigned h p) None) ≡ true → is_none k ≡ false
    go true here = had-made k h v p law agrees here
    go false here = absurd (false≢true here)
target-made h m other v k law agrees done here = absurd (false≢true here)

-- a vacancy that is made by a command that is done is new, and there is room
can-make : (h : History) (m : ℕ) (c : Cmd) (under : ℕ → Option KeptVacancy) (numbers : List ℕ) → AreVacancies under numbers h
    → is_done (answer_to h m c) ≡ true → CanMake (makes_any c) under numbers
can-make h m (cmd.Vacancy job) under numbers are done =
    go (job.relief && is_edition_one h.opening.edition) (is_some (vacancy_of h job.vac)) (nat_le VACANCY_LIMIT (length (vacancies h))) refl refl done
  where
    go : (other used full : Bool) → is_some (vacancy_of h job.vac) ≡ used → nat_le VACANCY_LIMIT (length (vacancies h)) ≡ full
        → is_done (if other then reply.OtherEdition else if used then reply.Used else if full then reply.VacanciesFull
        else chain_answer h.opening m job (unknown_in h job.chain) (bad_in h job.chain)) ≡ true
        → (under job.vac ≡ None) × (length numbers < VACANCY_LIMIT)
    go true used full x y done = absurd (false≢true done)
    go false true full x y done = absurd (false≢true done)
    go false false true x y done = absurd (false≢true done)
    go false false false x y done = (none-is (under job.vac) (unmade-is (under job.vac) h job.vac (are.each job.vac) ∙ ap not x), rw are.order grind (arith, nat_tests, y))
can-make h m other under numbers are done = tt

-- ---- what is kept goes on as what is said does

made-follows : (h : History) (job : JobValue) (k : KeptVacancy) → IsMade job k → VacancyFollows h job.vac (cmd.Vacancy job) None (Some k)
made-follows h job k made = record {
  job = ap Some made.job ∙ rw (same job.vac) refl;
  state = made.state;
}

-- where the command makes a vacancy
make-follows : (h : History) (job : JobValue) (under later : ℕ → Option KeptVacancy) (v : ℕ) → TakenIsAssigned h → under job.vac ≡ None
    → IsVacancy (under v) h v → Makes (cmd.Vacancy job) under later → VacancyFollows h v (cmd.Vacancy job) (under v) (later v)
make-follows h job under later v law new agrees made = go (nat_eq job.vac v) refl (made.1.1 v)
  where
    go : (here : Bool) → nat_eq job.vac v ≡ here → later v ≡ cond here (Some made.0) (under v) → VacancyFollows h v (cmd.Vacancy job) (under v) (later v)
    go true here is = rw is (subst (λ x. VacancyFollows h x (cmd.Vacancy job) (under x) (Some made.0)) (same_number job.vac v here)
        (rw new (made-follows h job made.0 made.1.0)))
    go false here is = rw is (other-follows h v (cmd.Vacancy job) (under v) (vacancy-said h (cmd.Vacancy job) v law (rw here refl)) agrees)

-- where it makes none
change-follows : (h : History) (m : ℕ) (c : Cmd) (under mid later : ℕ → Option KeptVacancy) (v : ℕ) → TakenIsAssigned h
    → is_done (answer_to h m c) ≡ true → IsVacancy (under v) h v → makes v c ≡ None → mid v ≡ under v
    → ChangesAt (is_of v (target c (had_by h c))) c (mid v) (later v) → VacancyFollows h v c (under v) (later v)
change-follows h m c under mid later v law done agrees unmade made changes =
    changed-follows h v c (is_of v (target c (had_by h c))) (under v) (later v) (vacancy-said h c v law unmade)
    (target-made h m c v (under v) law agrees done) agrees
    (subst (λ k. ChangesAt (is_of v (target c (had_by h c))) c k (later v)) made changes)

keeps-follow : (h : History) (m : ℕ) (c : Cmd) (under mid later : ℕ → Option KeptVacancy) (numbers : List ℕ) (v : ℕ) → TakenIsAssigned h
    → is_done (answer_to h m c) ≡ true → IsVacancy (under v) h v → CanMake (makes_any c) under numbers → Makes c under mid
    → ChangesAt (is_of v (target c (had_by h c))) c (mid v) (later v) → VacancyFollows h v c (under v) (later v)
keeps-follow h m (cmd.Vacancy job) under mid later numbers v law done agrees can made changes =
    rw changes (make-follows h job under mid v law can.0 agrees made)
keeps-follow h m other under mid later numbers v law done agrees can made changes = change-follows h m other under mid later v law done agrees refl (made v) changes

-- after a command that was done the register keeps what the longer history says
pub vacancies-keep : (h : History) (e : EntryValue) (c : Cmd) (had : Option ℕ) (under mid later : ℕ → Option KeptVacancy) (numbers after : List ℕ)
    → Comes h e → ((v : ℕ) → state_of (with_entry h e) v ≡ state_after v e (state_of h v)) → TakenIsAssigned h → IsNext h e → IsDone e c
    → had ≡ had_by h c → AreVacancies under numbers h
    → (CanMake (makes_any c) under numbers → Makes c under mid) → Changes c had mid later
    → (CanMake (makes_any c) under numbers → after ≡ numbers ++ cons_option (makes_any c) []) → AreVacancies later after (with_entry h e)
vacancies-keep h e c had under mid later numbers after comes states law next is had_is are makes_it changes after_is =
    let done = done-answer h e c next is in
    let can = can-make h e.moment c under numbers are done in
    record {
      each = λ v. vacancy-follows h e c v (under v) (later v) comes (states v) is (are.each v)
          (keeps-follow h e.moment c under mid later numbers v law done (are.each v) can (makes_it can)
          (subst (λ x. ChangesAt (is_of v (target c x)) c (mid v) (later v)) had_is (changes v)));
      order = after_is can ∙ ap (λ vs. vs ++ cons_option (makes_any c) []) are.order
          ∙ ap (λ o. vacancies h ++ cons_option o []) (sym (said-done makes_any e c is)) ∙ sym comes.vacancies;
    }

-- ---- offers, and what is refused

-- an entry that was not done, and makes no offer of this vacancy
pub state-stays : (e : EntryValue) (v : ℕ) (how : VacState) → is_done e.reply ≡ false → is_of v (offered_vac e) ≡ false → state_after v e how ≡ how
state-stays e v how refused other = rw refused (go (offer_in e.moment e.reply) other)
  where
    go : (offer : Option Offer) → is_of v (option_and_then (λ x. asks_for e.stated.cmd) offer) ≡ false → offered_by v e offer how ≡ how
    go None other = refl
    go (Some offer) other = rw other refl

pub state-offered : (e : EntryValue) (v p : ℕ) (how : VacState) → is_done e.reply ≡ false → is_of v (offered_vac e) ≡ true → is_of p (offered_person e) ≡ true
    → state_after v e how ≡ state.OnOffer p
state-offered e v p how refused here to = rw refused (go (offer_in e.moment e.reply) here to)
  where
    go : (offer : Option Offer) → is_of v (option_and_then (λ x. asks_for e.stated.cmd) offer) ≡ true → is_of p (option_map (λ x. x.person) offer) ≡ true
        → offered_by v e offer how ≡ state.OnOffer p
    go None here to = absurd (false≢true here)
    go (Some offer) here to = rw here (ap state.OnOffer (same_number offer.person p to))
