-- What is kept of offers says what the longer history says, after an entry.
use Rattle.std.proofs.Common.{◌≡◌, ℕ, Bool, true, false, cond, ◌&&◌, nat_eq, nat_lt, Option, None, Some, is_none, unwrap_or, List, [], ◌∷◌, ◌++◌, length, refl, sym, ap, ◌∙◌, arith, append-nil}
use Rattle.std.proofs.lemmas.Bool.Decides.{nat_tests}
use Rattle.std.specs.List.{cons_option}
use Rattle.std.specs.Option.{option_map, option_or, option_and_then}
use Rattle.desk_model.specs.declared.command.Cmd.{Cmd}
use Rattle.desk_model.specs.declared.command.Cmd.TheVariants as cmd
use Rattle.desk_model.specs.declared.limits.TheConstants.{VACANCY_LIMIT}
use Rattle.desk_model.specs.declared.offer.Offer.{Offer}
use Rattle.desk_model.specs.declared.reply.Reply.{Reply}
use Rattle.desk_model.specs.declared.reply.Reply.TheVariants as reply
use Rattle.desk_model.specs.laws.Comes.{Comes}
use Rattle.desk_model.specs.statements.Entry.{EntryValue}
use Rattle.desk_model.specs.histories.History.{History, with_entry, is_done, said}
use Rattle.desk_model.specs.statements.Job.{JobValue}
use Rattle.desk_model.specs.offers.Offers.{is_of, asks_for, offer_in, settles, open_offer}
use Rattle.desk_model.specs.histories.Register.{makes, makes_any, vacancy_of, vacancies}
use Rattle.desk_model.specs.laws.RestsOn.{RestsOn}
use Rattle.desk_model.proofs.OrderLemmas.{same_number}
use Rattle.desk_model.proofs.SaidLemmas.{or_none}
use Rattle.board_window.specs.declared.offer_told.OfferTold.{OfferTold}
use Rattle.board_window.specs.Becomes.{offered_from, declines_from}
use Rattle.board_window.specs.OfferTold.{offered_by, ended_for, told}
use Rattle.board_window.specs.OffersKept.{may_add, with_made, numbers_with, with_told}
use Rattle.board_window.specs.Shows.{AreOffers}
use Rattle.board_window.proofs.SaidLemmas.{said-done}

-- ---- what an entry tells of an offer

-- the board that a vacancy's open offer was made from, by what is told of it, from what it was
abbrev from_told : ℕ → Option OfferTold → Option (List ℕ) → Option (List ℕ)
from_told v None was = was
from_told v (Some t) was = cond (nat_eq t.vac v) t.from was

told-by : (r : Reply) (moment : ℕ) (asked settled : Option ℕ) (v : ℕ) (was : Option Offer)
    → option_map (λ o. o.board)
    (unwrap_or
    (option_or (cond (is_of v asked) (option_map (λ offer. Some offer) (offer_in moment r)) None) (cond (is_of v (cond (is_done r) settled None)) (Some None) None)) was)
    ≡ from_told v
    (option_or (option_and_then (λ offer. option_map (offered_by offer) asked) (offer_in moment r)) (option_map ended_for (cond (is_done r) settled None)))
    (option_map (λ o. o.board) was)
told-by (reply.Offered person board position) moment None settled v was = refl
told-by (reply.Offered person board position) moment (Some vac) settled v was = go (nat_eq vac v)
  where
    go : (here : Bool)
        → option_map (λ (o : Offer). o.board) (unwrap_or (option_or (cond here (Some (Some (record { person = person; board = board; made = moment }))) None) None) was)
        ≡ cond here (Some board) (option_map (λ (o : Offer). o.board) was)
    go true = refl
    go false = refl
told-by reply.Done moment asked settled v was = go (is_of v asked) settled
  where
    ended : (here : Bool) → option_map (λ (o : Offer). o.board) (unwrap_or (cond here (Some None) None) was) ≡ cond here None (option_map (λ (o : Offer). o.board) was)
    ended true = refl
    ended false = refl

    go : (asks : Bool) (ends : Option ℕ)
        → option_map (λ (o : Offer). o.board) (unwrap_or (option_or (cond asks None None) (cond (is_of v ends) (Some None) None)) was)
        ≡ from_told v (option_map ended_for ends) (option_map (λ (o : Offer). o.board) was)
    go true None = refl
    go false None = refl
    go true (Some vac) = ended (nat_eq vac v)
    go false (Some vac) = ended (nat_eq vac v)
told-by other moment asked settled v was = go (is_of v asked)
  where
    go : (asks : Bool)
        → option_map (λ (o : Offer). o.board) (unwrap_or (option_or (cond asks None None) None) was) ≡ option_map (λ (o : Offer). o.board) was
    go true = refl
    go false = refl

from-told : (h : History) (e : EntryValue) (v : ℕ) → Comes h e → offered_from (with_entry h e) v ≡ from_told v (told e) (offered_from h v)
from-told h e v comes = ap (option_map (λ o. o.board)) (comes.offer v) ∙ told-by e.reply e.moment (asks_for e.stated.cmd) (settles e.stated.cmd) v (open_offer h v)

told-under : (t : Option OfferTold) (v : ℕ) (job : Option JobValue) (was : Option (List ℕ)) → with_told t v (option_map (λ j. was) job) ≡ option_map (λ j. from_told v t was) job
told-under None v job was = refl
told-under (Some t) v job was = go (nat_eq t.vac v) job
  where
    go : (here : Bool) (known : Option JobValue) → cond here (option_map (λ w. t.from) (option_map (λ j. was) known)) (option_map (λ j. was) known) ≡ option_map (λ j. cond here t.from was) known
    go true None = refl
    go true (Some j) = refl
    go false known = refl

-- ---- a vacancy that an entry makes

made-here : (vac v : ℕ) (job : JobValue) (known : Option JobValue) (was : Option (List ℕ)) (had : Option (Option (List ℕ))) → had ≡ option_map (λ j. was) known
    → (nat_eq vac v ≡ true → known ≡ None) → (known ≡ None → was ≡ None)
    → cond (nat_eq vac v) (Some None) had ≡ option_map (λ j. was) (option_or known (cond (nat_eq vac v) (Some job) None))
made-here vac v job known was had is new closed = go (nat_eq vac v) refl
  where
    go : (here : Bool) → nat_eq vac v ≡ here → cond here (Some None) had ≡ option_map (λ j. was) (option_or known (cond here (Some job) None))
    go true same = ap Some (sym (closed (new same))) ∙ ap (λ k. option_map (λ (j : JobValue). was) (option_or k (Some job))) (sym (new same))
    go false same = is ∙ ap (option_map (λ j. was)) (sym (or_none known))

-- what is kept under each number, and all numbers, with a vacancy that is made
record IsMadeBy (h : History) (made : Option ℕ) (makes : ℕ → Option JobValue) (under : ℕ → Option (Option (List ℕ))) (numbers : List ℕ) : Type 0 where
  numbers_are : numbers_with made under numbers ≡ vacancies h ++ cons_option made []
  each : (v : ℕ) → with_made made under numbers v ≡ option_map (λ job. offered_from h v) (option_or (vacancy_of h v) (makes v))

none-made : (h : History) (under : ℕ → Option (Option (List ℕ))) (numbers : List ℕ) → AreOffers under numbers h → IsMadeBy h None (λ v. None) under numbers
none-made h under numbers are = record {
  numbers_are = are.numbers_are ∙ sym (append-nil (vacancies h));
  each = λ v. are.each v ∙ ap (option_map (λ job. offered_from h v)) (sym (or_none (vacancy_of h v)));
}

cmd-made : (h : History) (c : Cmd) (under : ℕ → Option (Option (List ℕ))) (numbers : List ℕ) → RestsOn h c → ((v : ℕ) → vacancy_of h v ≡ None → open_offer h v ≡ None)
    → AreOffers under numbers h → IsMadeBy h (makes_any c) (λ v. makes v c) under numbers
cmd-made h (cmd.Vacancy job) under numbers rests closed are =
    let few : nat_lt (length numbers) VACANCY_LIMIT ≡ true = grind (arith, nat_tests, ap length are.numbers_are, rests.1) in
    let new : is_none (under job.vac) ≡ true = ap is_none (are.each job.vac ∙ ap (option_map (λ j. offered_from h job.vac)) rests.0) in
    let may : may_add (under job.vac) numbers ≡ true = ap (λ t. t && nat_lt (length numbers) VACANCY_LIMIT) new ∙ few in
    record {
      numbers_are = ap (λ t. cond t (numbers ++ job.vac ∷ []) numbers) may ∙ ap (λ ns. ns ++ job.vac ∷ []) are.numbers_are;
      each = λ v. ap (λ t. cond (t && nat_eq job.vac v) (Some None) (under v)) may
          ∙ made-here job.vac v job (vacancy_of h v) (offered_from h v) (under v) (are.each v)
          (λ same. ap (vacancy_of h) (sym (same_number job.vac v same)) ∙ rests.0)
          (λ none. ap (option_map (λ o. o.board)) (closed v none));
    }
cmd-made h other under numbers rests closed are = none-made h under numbers are

made-by : (h : History) (e : EntryValue) (under : ℕ → Option (Option (List ℕ))) (numbers : List ℕ) → (is_done e.reply ≡ true → RestsOn h e.stated.cmd)
    → ((v : ℕ) → vacancy_of h v ≡ None → open_offer h v ≡ None) → AreOffers under numbers h
    → IsMadeBy h (said makes_any e) (λ v. said (makes v) e) under numbers
made-by h e under numbers rests closed are = go (is_done e.reply) refl
  where
    go : (done : Bool) → is_done e.reply ≡ done → IsMadeBy h (cond done (makes_any e.stated.cmd) None) (λ v. cond done (makes v e.stated.cmd) None) under numbers
    go true done = cmd-made h e.stated.cmd under numbers (rests done) closed are
    go false done = none-made h under numbers are

-- ---- an entry

pub offers-after : (h : History) (e : EntryValue) (under between later : ℕ → Option (Option (List ℕ))) (numbers more most : List ℕ) → Comes h e
    → (is_done e.reply ≡ true → RestsOn h e.stated.cmd) → ((v : ℕ) → vacancy_of h v ≡ None → open_offer h v ≡ None)
    → ((v : ℕ) → between v ≡ with_made (said makes_any e) under numbers v) → more ≡ numbers_with (said makes_any e) under numbers
    → ((v : ℕ) → later v ≡ with_told (told e) v (between v)) → most ≡ more
    → AreOffers under numbers h → AreOffers later most (with_entry h e)
offers-after h e under between later numbers more most comes rests closed made made_numbers tells same are =
    let is = made-by h e under numbers rests closed are in
    record {
      numbers_are = same ∙ made_numbers ∙ is.numbers_are ∙ sym comes.vacancies;
      each = λ v. tells v ∙ ap (with_told (told e) v) (made v ∙ is.each v)
          ∙ told-under (told e) v (option_or (vacancy_of h v) (said (makes v) e)) (offered_from h v)
          ∙ ap (λ was. option_map (λ (job : JobValue). was) (option_or (vacancy_of h v) (said (makes v) e))) (sym (from-told h e v comes))
          ∙ ap (option_map (λ job. offered_from (with_entry h e) v)) (sym (comes.vacancy v));
    }

-- ---- the offer that an entry declines

pub declined-kept : (h : History) (e : EntryValue) (v p : ℕ) (under : ℕ → Option (Option (List ℕ))) (numbers : List ℕ) (found : Option (Option (List ℕ))) → is_done e.reply ≡ true
    → e.stated.cmd ≡ cmd.Decline v p → ((w : ℕ) → vacancy_of h w ≡ None → open_offer h w ≡ None) → AreOffers under numbers h → found ≡ under v
    → unwrap_or found None ≡ said (declines_from h) e
declined-kept h e v p under numbers found done of closed are is =
    go (vacancy_of h v) refl (is ∙ are.each v) ∙ sym (said-done (declines_from h) e (cmd.Decline v p) done of)
  where
    go : (known : Option JobValue) → vacancy_of h v ≡ known → found ≡ option_map (λ job. offered_from h v) known → unwrap_or found None ≡ offered_from h v
    go None none is = ap (λ f. unwrap_or f None) is ∙ sym (ap (option_map (λ o. o.board)) (closed v none))
    go (Some job) made is = ap (λ f. unwrap_or f None) is
