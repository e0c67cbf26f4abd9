-- A command leaves all parts of the desk but those that it may change.
use Rattle.std.proofs.Common.{◌≡◌, ℕ, Bool, true, false, cond, ◌||◌, max, Option, None, Some, is_some, unwrap_or, List, [], ◌++◌, refl, sym, ap, ◌∙◌, append-nil}
use Rattle.std.specs.Option.{option_or}
use Rattle.std.specs.List.{cons_option}
use Rattle.std.proofs.lemmas.Bool.{false≢true}
use Rattle.desk_model.specs.declared.command.Cmd.{Cmd}
use Rattle.desk_model.specs.declared.command.Cmd.TheVariants as cmd
use Rattle.desk_model.specs.declared.vac_state.VacState.{VacState}
use Rattle.desk_model.specs.statements.Entry.{EntryValue}
use Rattle.desk_model.specs.histories.History.{History, with_entry, is_done, said}
use Rattle.desk_model.specs.histories.Register.{enrols, enrols_any, gives, sets_up, sets_up_any, makes, makes_any, person_of, board_of, vacancy_of, quals_of, persons, boards, vacancies}
use Rattle.desk_model.specs.offers.Offers.{asks_for, is_of, offer_in, settles, offer_said, open_offer, is_to, offered_to, on_offer}
use Rattle.desk_model.specs.boards.Boards.{puts, is_on, sends, order}
use Rattle.desk_model.specs.histories.Duty.{tells, events, closes, is_closed}
use Rattle.desk_model.specs.boards.Marks.{marks, is_marked_off}
use Rattle.desk_model.specs.offers.Assigned.{assigned}
use Rattle.desk_model.specs.offers.States.{state_of}
use Rattle.desk_model.specs.offers.TurnedDown.{turns_down, has_turned_down}
use Rattle.desk_model.specs.offers.Held.{hold_told, hold_end}
use Rattle.desk_model.specs.laws.Comes.{takes_off, kept, left_by, order_by, assigned_by, state_by, offered_by, left_open}
use Rattle.desk_model.specs.laws.Parts.{Part, Stays, touches}
use Rattle.desk_model.specs.laws.Parts as part
use Rattle.desk_model.specs.histories.Legal.{IsNext, IsLegal}
use Rattle.desk_model.proofs.SaidLemmas.{or_none}
use Rattle.desk_model.proofs.HeldLemmas.{max-none}
use Rattle.desk_model.proofs.ComesLemmas.{comes}
use Rattle.desk_model.proofs.OnOfferLemmas.{on_offer-comes}
use Rattle.desk_model.proofs.StateStepLemmas.{state-comes}

-- what a command doesn't say apart entry of it says
unsaid : {X : Type 0} (f : Cmd → Option X) (e : EntryValue) → f e.stated.cmd ≡ None → said f e ≡ None
unsaid f e none = go (is_done e.reply)
  where
    go : (done : Bool) → cond done (f e.stated.cmd) None ≡ None
    go true = none
    go false = refl

or_false : (b : Bool) → (b || false) ≡ b
or_false true = refl
or_false false = refl

enrols-none : (c : Cmd) → touches part.Persons c ≡ false → ((p : ℕ) → enrols p c ≡ None) × (enrols_any c ≡ None)
enrols-none (cmd.Enrol person craft home quals) apart = absurd (false≢true (sym apart))
enrols-none other apart = (λ p. refl, refl)

gives-none : (c : Cmd) (p : ℕ) → touches part.Quals c ≡ false → gives p c ≡ None
gives-none (cmd.Enrol person craft home quals) p apart = absurd (false≢true (sym apart))
gives-none (cmd.Qualify person quals) p apart = absurd (false≢true (sym apart))
gives-none other p apart = refl

marks-none : (c : Cmd) (p : ℕ) → touches part.Marks c ≡ false → marks p c ≡ None
marks-none (cmd.Enrol person craft home quals) p apart = absurd (false≢true (sym apart))
marks-none (cmd.MarkOff person) p apart = absurd (false≢true (sym apart))
marks-none (cmd.MarkOn person) p apart = absurd (false≢true (sym apart))
marks-none (cmd.NoAnswer vac person) p apart = absurd (false≢true (sym apart))
marks-none (cmd.Drop person) p apart = absurd (false≢true (sym apart))
marks-none other p apart = refl

tells-none : (c : Cmd) (p : ℕ) → touches part.Events c ≡ false → tells p c ≡ None
tells-none (cmd.Past person event) p apart = absurd (false≢true (sym apart))
tells-none (cmd.Happened person event) p apart = absurd (false≢true (sym apart))
tells-none other p apart = refl

closes-none : (c : Cmd) (p : ℕ) → touches part.Pasts c ≡ false → closes p c ≡ None
closes-none (cmd.List person board) p apart = absurd (false≢true (sym apart))
closes-none (cmd.Happened person event) p apart = absurd (false≢true (sym apart))
closes-none other p apart = refl

sets_up-none : (c : Cmd) → touches part.Boards c ≡ false → ((b : List ℕ) → sets_up b c ≡ None) × (sets_up_any c ≡ None)
sets_up-none (cmd.Board board extra place) apart = absurd (false≢true (sym apart))
sets_up-none other apart = (λ b. refl, refl)

puts-none : (c : Cmd) (b : List ℕ) (p : ℕ) → touches part.Lists c ≡ false → puts b p c ≡ None
puts-none (cmd.List person board) b p apart = absurd (false≢true (sym apart))
puts-none (cmd.Unlist person board) b p apart = absurd (false≢true (sym apart))
puts-none other b p apart = refl

sends-none : (h : History) (c : Cmd) (b : List ℕ) → touches part.Orders c ≡ false → (sends b h c ≡ None) × (takes_off b c ≡ None)
sends-none h (cmd.List person board) b apart = absurd (false≢true (sym apart))
sends-none h (cmd.Unlist person board) b apart = absurd (false≢true (sym apart))
sends-none h (cmd.MarkOn person) b apart = absurd (false≢true (sym apart))
sends-none h (cmd.Decline vac person) b apart = absurd (false≢true (sym apart))
sends-none h (cmd.Happened person event) b apart = absurd (false≢true (sym apart))
sends-none h other b apart = (refl, refl)

makes-none : (c : Cmd) → touches part.Vacancies c ≡ false → ((v : ℕ) → makes v c ≡ None) × (makes_any c ≡ None)
makes-none (cmd.Vacancy job) apart = absurd (false≢true (sym apart))
makes-none other apart = (λ v. refl, refl)

offers-none : (c : Cmd) → touches part.Offers c ≡ false → (asks_for c ≡ None) × (settles c ≡ None)
offers-none (cmd.Next vac) apart = absurd (false≢true (sym apart))
offers-none (cmd.Offer vac person) apart = absurd (false≢true (sym apart))
offers-none (cmd.Accept vac person) apart = absurd (false≢true (sym apart))
offers-none (cmd.Decline vac person) apart = absurd (false≢true (sym apart))
offers-none (cmd.NoAnswer vac person) apart = absurd (false≢true (sym apart))
offers-none (cmd.Withdraw vac person) apart = absurd (false≢true (sym apart))
offers-none (cmd.Annul vac) apart = absurd (false≢true (sym apart))
offers-none other apart = (refl, refl)

assigned-same : (c : Cmd) (p : ℕ) (was : Option ℕ) → touches part.Assignments c ≡ false → assigned_by p c was ≡ was
assigned-same (cmd.Accept vac person) p was apart = absurd (false≢true (sym apart))
assigned-same (cmd.Drop person) p was apart = absurd (false≢true (sym apart))
assigned-same (cmd.Annul vac) p was apart = absurd (false≢true (sym apart))
assigned-same (cmd.Happened person event) p was apart = absurd (false≢true (sym apart))
assigned-same other p was apart = refl

state-same : (c : Cmd) (v : ℕ) (how : VacState) → touches part.States c ≡ false → (state_by v c how ≡ how) × (asks_for c ≡ None)
state-same (cmd.Next vac) v how apart = absurd (false≢true (sym apart))
state-same (cmd.Offer vac person) v how apart = absurd (false≢true (sym apart))
state-same (cmd.Accept vac person) v how apart = absurd (false≢true (sym apart))
state-same (cmd.Decline vac person) v how apart = absurd (false≢true (sym apart))
state-same (cmd.NoAnswer vac person) v how apart = absurd (false≢true (sym apart))
state-same (cmd.Withdraw vac person) v how apart = absurd (false≢true (sym apart))
state-same (cmd.Annul vac) v how apart = absurd (false≢true (sym apart))
state-same (cmd.Drop person) v how apart = absurd (false≢true (sym apart))
state-same (cmd.Happened person event) v how apart = absurd (false≢true (sym apart))
state-same other v how apart = (refl, refl)

turns-none : (h : History) (c : Cmd) (v p : ℕ) → touches part.Refusals c ≡ false → turns_down v p h c ≡ None
turns-none h (cmd.Decline vac person) v p apart = absurd (false≢true (sym apart))
turns-none h (cmd.NoAnswer vac person) v p apart = absurd (false≢true (sym apart))
turns-none h (cmd.Drop person) v p apart = absurd (false≢true (sym apart))
turns-none h other v p apart = refl

hold_told-none : (h : History) (c : Cmd) (codes : List (List ℕ)) (p m : ℕ) → touches part.Holds c ≡ false → hold_told codes p h m c ≡ None
hold_told-none h (cmd.Decline vac person) codes p m apart = absurd (false≢true (sym apart))
hold_told-none h other codes p m apart = refl

-- ---- each part

pub stays : (h : History) (e : EntryValue) → IsLegal h → IsNext h e → (p : Part) → touches p e.stated.cmd ≡ false → Stays p h (with_entry h e)
stays h e legal is part.Persons apart =
    let none = enrols-none e.stated.cmd apart in (
      λ p. (comes h e).person p ∙ ap (option_or (person_of h p)) (unsaid (enrols p) e (none.0 p)) ∙ or_none (person_of h p),
      (comes h e).persons ∙ ap (λ one. persons h ++ cons_option one []) (unsaid enrols_any e none.1) ∙ append-nil (persons h),
    )
stays h e legal is part.Quals apart = λ p. (comes h e).quals p ∙ ap (λ o. unwrap_or o (quals_of h p)) (unsaid (gives p) e (gives-none e.stated.cmd p apart))
stays h e legal is part.Marks apart = λ p. (comes h e).marked p ∙ ap (λ o. unwrap_or o (is_marked_off h p)) (unsaid (marks p) e (marks-none e.stated.cmd p apart))
stays h e legal is part.Events apart = λ p. (comes h e).events p ∙ ap (kept (events h p)) (unsaid (tells p) e (tells-none e.stated.cmd p apart))
stays h e legal is part.Pasts apart =
    λ p. (comes h e).closed p ∙ ap (λ o. is_closed h p || is_some o) (unsaid (closes p) e (closes-none e.stated.cmd p apart)) ∙ or_false (is_closed h p)
stays h e legal is part.Boards apart =
    let none = sets_up-none e.stated.cmd apart in (
      λ b. (comes h e).board b ∙ ap (option_or (board_of h b)) (unsaid (sets_up b) e (none.0 b)) ∙ or_none (board_of h b),
      (comes h e).boards ∙ ap (λ one. boards h ++ cons_option one []) (unsaid sets_up_any e none.1) ∙ append-nil (boards h),
    )
stays h e legal is part.Lists apart = λ p b. (comes h e).on p b ∙ ap (λ o. unwrap_or o (is_on h p b)) (unsaid (puts b p) e (puts-none e.stated.cmd b p apart))
stays h e legal is part.Orders apart = λ b.
    let none = sends-none h e.stated.cmd b apart in
    (comes h e).order b ∙ ap (λ sent. order_by e b sent (order h b)) (unsaid (sends b h) e none.0) ∙ ap (λ off. left_by off (order h b)) (unsaid (takes_off b) e none.1)
stays h e legal is part.Vacancies apart =
    let none = makes-none e.stated.cmd apart in (
      λ v. (comes h e).vacancy v ∙ ap (option_or (vacancy_of h v)) (unsaid (makes v) e (none.0 v)) ∙ or_none (vacancy_of h v),
      (comes h e).vacancies ∙ ap (λ one. vacancies h ++ cons_option one []) (unsaid makes_any e none.1) ∙ append-nil (vacancies h),
    )
stays h e legal is part.States apart = λ v. state-comes h e v legal is ∙ go v (is_done e.reply) (offer_in e.moment e.reply)
  where
    go : (v : ℕ) (done : Bool) (offer : Option _) → cond done (state_by v e.stated.cmd (state_of h v)) (offered_by v e offer (state_of h v)) ≡ state_of h v
    go v true offer = (state-same e.stated.cmd v (state_of h v) apart).0
    go v false None = refl
    go v false (Some offer) = rw ((state-same e.stated.cmd v (state_of h v) apart).1) refl
stays h e legal is part.Offers apart = (open_ones, on_offers)
  where
    none : (asks_for e.stated.cmd ≡ None) × (settles e.stated.cmd ≡ None)
    none = offers-none e.stated.cmd apart

    silent : (v : ℕ) → offer_said v e ≡ None
    silent v = rw none.0 (ap (λ ended. cond (is_of v ended) (Some None) None) (unsaid settles e none.1))

    open_ones : (v : ℕ) → open_offer (with_entry h e) v ≡ open_offer h v
    open_ones v = (comes h e).offer v ∙ ap (λ o. unwrap_or o (open_offer h v)) (silent v)

    on_offers : (p : ℕ) → on_offer (with_entry h e) p ≡ on_offer h p
    on_offers p =
        on_offer-comes h e p legal is ∙ ap (λ ended. option_or (offered_to p e) (left_open ended (on_offer h p))) (unsaid settles e none.1)
        ∙ rw none.0 (go (is_to p (offer_in e.moment e.reply)) (on_offer h p))
      where
        go : (mine : Bool) (was : Option ℕ) → option_or (cond mine None None) (left_open None was) ≡ was
        go true None = refl
        go true (Some v) = refl
        go false None = refl
        go false (Some v) = refl
stays h e legal is part.Assignments apart = λ p. (comes h e).assigned p ∙ go p (is_done e.reply)
  where
    go : (p : ℕ) (done : Bool) → cond done (assigned_by p e.stated.cmd (assigned h p)) (assigned h p) ≡ assigned h p
    go p true = assigned-same e.stated.cmd p (assigned h p) apart
    go p false = refl
stays h e legal is part.Refusals apart = λ v p.
    (comes h e).turned_down v p ∙ ap (λ o. has_turned_down h v p || is_some o) (unsaid (turns_down v p h) e (turns-none h e.stated.cmd v p apart)) ∙ or_false (has_turned_down h v p)
stays h e legal is part.Holds apart = λ codes p.
    (comes h e).hold_end codes p ∙ ap (λ o. max (hold_end h codes p) (unwrap_or o 0)) (unsaid (hold_told codes p h e.moment) e (hold_told-none h e.stated.cmd codes p e.moment apart))
    ∙ max-none (hold_end h codes p)
