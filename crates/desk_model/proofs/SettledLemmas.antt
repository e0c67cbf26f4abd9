-- What each command of vacancies and offers changes where it is accepted.
use Rattle.std.proofs.Common.{◌≡◌, ℕ, ◌+◌, Bool, true, false, cond, ◌||◌, ◌&&◌, nat_eq, max, nat_le, Option, None, Some, is_some, is_none, unwrap_or, List, length, refl, sym, ap, ◌∙◌}
use Rattle.std.specs.Option.{option_or}
use Rattle.std.proofs.lemmas.Bool.{false≢true}
use Rattle.desk_model.specs.declared.limits.TheConstants.{VACANCY_LIMIT, HOLD}
use Rattle.desk_model.specs.declared.command.Cmd.TheVariants as cmd
use Rattle.desk_model.specs.declared.reply.Reply.TheVariants as reply
use Rattle.desk_model.specs.declared.offer.Offer.{Offer}
use Rattle.desk_model.specs.statements.Job.{JobValue}
use Rattle.desk_model.specs.statements.Entry.{EntryValue}
use Rattle.desk_model.specs.histories.History.{History, with_entry, is_done, said}
use Rattle.desk_model.specs.histories.Register.{vacancy_of, vacancies}
use Rattle.desk_model.specs.offers.Offers.{is_of, offer_in, settles, offered_to, open_offer, on_offer}
use Rattle.desk_model.specs.boards.Boards.{declined, order}
use Rattle.desk_model.specs.boards.Marks.{is_marked_off}
use Rattle.desk_model.specs.offers.Assigned.{assigned}
use Rattle.desk_model.specs.offers.TurnedDown.{has_turned_down}
use Rattle.desk_model.specs.offers.Held.{is_from, hold_end}
use Rattle.desk_model.specs.answers.VacancyAnswer.{unknown_in, bad_in, is_edition_one, chain_answer, vacancy_answer}
use Rattle.desk_model.specs.laws.Comes.{left_open, order_by}
use Rattle.desk_model.specs.laws.Accepted.{Answered, Accepted, to_bottom, Makes, Offers, Settles, Accepts, Declines, IsSilent, Withdraws, Annuls, Drops}
use Rattle.desk_model.specs.histories.Legal.{IsNext, IsLegal}
use Rattle.desk_model.proofs.OrderLemmas.{same_number, nat_eq-swap}
use Rattle.desk_model.proofs.LegalLemmas.{done-answer}
use Rattle.desk_model.proofs.ComesLemmas.{comes}
use Rattle.desk_model.proofs.OpensLemmas.{said-ends}
use Rattle.desk_model.proofs.HeldLemmas.{max-none}
use Rattle.desk_model.proofs.OnOfferLemmas.{on_offer-comes}
use Rattle.desk_model.proofs.StateStepLemmas.{state-comes}
use Rattle.desk_model.proofs.AcceptedLemmas.{entry, put, any, new}

vacancy-new : (h : History) (m v : ℕ) (job : JobValue) → is_done (vacancy_answer h m job) ≡ true → nat_eq job.vac v ≡ true → is_none (vacancy_of h v) ≡ true
vacancy-new h m v job done same = ap (λ n. is_none (vacancy_of h n)) (sym (same_number job.vac v same)) ∙ go (job.relief && is_edition_one h.opening.edition) (vacancy_of h job.vac) done
  where
    go : (elsewhere : Bool) (known : Option JobValue)
        → is_done (cond elsewhere reply.OtherEdition (cond (is_some known) reply.Used (cond (nat_le VACANCY_LIMIT (length (vacancies h))) reply.VacanciesFull (chain_answer h.opening m job (unknown_in h job.chain) (bad_in h job.chain))))) ≡ true
        → is_none known ≡ true
    go true known done = absurd (false≢true done)
    go false None done = refl
    go false (Some other) done = absurd (false≢true done)

pub makes : (job : JobValue) → Accepted (cmd.Vacancy job) (Makes job)
makes job h caller minute moment legal is =
    let e = entry caller minute (cmd.Vacancy job) moment reply.Done in record {
      vacancy = λ v. (comes h e).vacancy v ∙ new (nat_eq job.vac v) job (vacancy_of h v) (vacancy-new h moment v job (done-answer h e is refl));
      among = (comes h e).vacancies;
    }

-- ---- an offer

opened : (b : Bool) (offer : Offer) (was : Option Offer) → unwrap_or (option_or (cond b (Some (Some offer)) None) None) was ≡ cond b (Some offer) was
opened true offer was = refl
opened false offer was = refl

theirs-now : (b : Bool) (v : ℕ) (was : Option ℕ) → option_or (cond b (Some v) None) (left_open None was) ≡ cond b (Some v) was
theirs-now true v was = refl
theirs-now false v None = refl
theirs-now false v (Some w) = refl

pub next-offers : (v p k : ℕ) (b : List ℕ) → Answered (cmd.Next v) (reply.Offered p b k) (Offers v p b)
next-offers v p k b h caller minute moment legal is =
    let e = entry caller minute (cmd.Next v) moment (reply.Offered p b k) in record {
      offer = λ w. (comes h e).offer w ∙ opened (nat_eq v w) _ (open_offer h w);
      theirs = λ q. on_offer-comes h e q legal is ∙ theirs-now (nat_eq p q) v (on_offer h q);
      stands = λ w. state-comes h e w legal is;
    }

pub offer-offers : (v q p k : ℕ) (b : List ℕ) → Answered (cmd.Offer v q) (reply.Offered p b k) (Offers v p b)
offer-offers v q p k b h caller minute moment legal is =
    let e = entry caller minute (cmd.Offer v q) moment (reply.Offered p b k) in record {
      offer = λ w. (comes h e).offer w ∙ opened (nat_eq v w) _ (open_offer h w);
      theirs = λ r. on_offer-comes h e r legal is ∙ theirs-now (nat_eq p r) v (on_offer h r);
      stands = λ w. state-comes h e w legal is;
    }

-- ---- an offer that is settled

settled : (h : History) (e : EntryValue) (v : ℕ) → IsLegal h → IsNext h e → said settles e ≡ Some v → offer_in e.moment e.reply ≡ None → ((q : ℕ) → offered_to q e ≡ None) → Settles v h (with_entry h e)
settled h e v legal is ends none nobody = record {
  offer = λ w. (comes h e).offer w ∙ ap (λ o. unwrap_or o (open_offer h w)) (said-ends w e none ∙ ap (λ vac. cond (is_of w vac) (Some None) None) ends) ∙ put (nat_eq v w) None (open_offer h w);
  theirs = λ q. on_offer-comes h e q legal is ∙ rw (nobody q, ends) refl;
}

pub accepts : (v p : ℕ) → Accepted (cmd.Accept v p) (Accepts v p)
accepts v p h caller minute moment legal is =
    let e = entry caller minute (cmd.Accept v p) moment reply.Done in record {
      settled = settled h e v legal is refl refl (λ q. refl);
      has = (comes h e).assigned;
      stands = λ w. state-comes h e w legal is;
    }

pub declines : (v p : ℕ) → Answered (cmd.Decline v p) reply.Done (Declines v p)
declines v p h caller minute moment legal is = record {
  settled = settled h e v legal is refl refl (λ q. refl);
  stands = λ w. state-comes h e w legal is;
  bottom = λ b. (comes h e).order b ∙ go b (declined b (open_offer h v) p);
  turned = λ w q. (comes h e).turned_down w q ∙ ap (λ o. has_turned_down h w q || o) (any _ q);
  hold = λ codes q. (comes h e).hold_end codes q ∙ held (hold_end h codes q) (nat_eq p q && is_from codes (open_offer h v));
}
  where
    e : EntryValue
    e = entry caller minute (cmd.Decline v p) moment reply.Done

    go : (b : List ℕ) (sent : Option ℕ) → order_by (entry caller minute (cmd.Decline v p) moment reply.Done) b sent (order h b) ≡ to_bottom sent (order h b)
    go b None = refl
    go b (Some q) = refl

    held : (was : ℕ) (holds : Bool) → max was (unwrap_or (cond holds (Some (moment + HOLD)) None) 0) ≡ cond holds (max was (moment + HOLD)) was
    held was true = refl
    held was false = max-none was

pub is-silent : (v p : ℕ) → Accepted (cmd.NoAnswer v p) (IsSilent v p)
is-silent v p h caller minute moment legal is =
    let e = entry caller minute (cmd.NoAnswer v p) moment reply.Done in record {
      settled = settled h e v legal is refl refl (λ q. refl);
      stands = λ w. state-comes h e w legal is;
      marked = λ q. (comes h e).marked q ∙ put (nat_eq p q) true (is_marked_off h q);
      turned = λ w q. (comes h e).turned_down w q ∙ ap (λ o. has_turned_down h w q || o) (any _ q);
    }

pub withdraws : (v p : ℕ) → Accepted (cmd.Withdraw v p) (Withdraws v)
withdraws v p h caller minute moment legal is =
    let e = entry caller minute (cmd.Withdraw v p) moment reply.Done in record {
      settled = settled h e v legal is refl refl (λ q. refl);
      stands = λ w. state-comes h e w legal is;
    }

pub annuls : (v : ℕ) → Accepted (cmd.Annul v) (Annuls v)
annuls v h caller minute moment legal is =
    let e = entry caller minute (cmd.Annul v) moment reply.Done in record {
      settled = settled h e v legal is refl refl (λ q. refl);
      has = λ q. (comes h e).assigned q ∙ freed (assigned h q);
      stands = λ w. state-comes h e w legal is;
    }
  where
    freed : (was : Option ℕ) → cond (is_of v was) None was ≡ left_open (Some v) was
    freed None = refl
    freed (Some w) = ap (λ b. cond b None (Some w)) (nat_eq-swap w v)

pub drops : (p : ℕ) → Accepted (cmd.Drop p) (Drops p)
drops p h caller minute moment legal is =
    let e = entry caller minute (cmd.Drop p) moment reply.Done in record {
      has = (comes h e).assigned;
      stands = λ w. state-comes h e w legal is;
      marked = λ q. (comes h e).marked q ∙ put (nat_eq p q) true (is_marked_off h q);
      turned = λ w q. (comes h e).turned_down w q ∙ ap (λ o. has_turned_down h w q || o) (any _ q);
    }
