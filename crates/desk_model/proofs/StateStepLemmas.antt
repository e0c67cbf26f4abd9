-- In a legal history a vacancy is in the state that its entries make of it, one after another.
use Rattle.std.proofs.Common.{◌≡◌, ℕ, inl, inr, Bool, true, false, cond, ◌||◌, ◌&&◌, nat_eq, Option, None, Some, is_none, is_some, unwrap_or, fold, refl, sym, ap, subst, ◌∙◌}
use Rattle.std.specs.Option.{option_map, option_or}
use Rattle.std.proofs.lemmas.Bool.{false≢true}
use Rattle.std.proofs.lemmas.List.Sums.{fold_push}
use Rattle.duty_events.specs.declared.event.Event.{Event}
use Rattle.desk_model.specs.declared.command.Cmd.{Cmd}
use Rattle.desk_model.specs.declared.command.Cmd.TheVariants as cmd
use Rattle.desk_model.specs.declared.reply.Reply.TheVariants as reply
use Rattle.desk_model.specs.declared.vac_state.VacState.{VacState}
use Rattle.desk_model.specs.declared.vac_state.VacState.TheVariants as state
use Rattle.desk_model.specs.declared.offer.Offer.{Offer}
use Rattle.desk_model.specs.statements.Opening.{OpeningValue}
use Rattle.desk_model.specs.statements.Entry.{EntryValue}
use Rattle.desk_model.specs.histories.History.{History, opened, with_entry, step_of, steps, is_done, said, first_of}
use Rattle.desk_model.specs.histories.Register.{vacancy_of}
use Rattle.desk_model.specs.offers.Offers.{offer_in, is_of, settles, offer_said, open_offer, is_to}
use Rattle.desk_model.specs.offers.Assigned.{reports, assigns, is_assigned, accepted_by, begins, begun_by, begun, annuls, is_annulled}
use Rattle.desk_model.specs.offers.States.{state_of}
use Rattle.desk_model.specs.laws.Comes.{given_up, started, state_by, offered_by, state_after}
use Rattle.desk_model.specs.answers.GiveUpAnswer.{over_answer, annul_answer}
use Rattle.desk_model.specs.histories.Legal.{answer_to, IsNext, IsLegal}
use Rattle.desk_model.proofs.SaidLemmas.{or_none, first_of-snoc, last_of-snoc, is_some-snoc, steps-snoc}
use Rattle.desk_model.proofs.OrderLemmas.{same_number, nat_eq-swap}
use Rattle.desk_model.proofs.LegalLemmas.{legal-induction, done-answer}
use Rattle.desk_model.proofs.AssignedLemmas.{has-comes}
use Rattle.desk_model.proofs.OpensLemmas.{Opens, next-says, said-ends, offer-comes, settle-open}
use Rattle.desk_model.proofs.OneOfferLemmas.{OneOffer, one-offer}
use Rattle.desk_model.proofs.StateLemmas.{begun_in, Tells, last_accepter, Tracks, state-is, or_false, same-tells, on-offer, settled-tells, taken-tells, kept-tells, lost-tells, begun-tells}

-- ---- a command that is done

and_false : (b : Bool) → (b && false) ≡ false
and_false true = refl
and_false false = refl

and_true : (b : Bool) → (b && true) ≡ b
and_true true = refl
and_true false = refl

or_true : (b : Bool) → (b || true) ≡ true
or_true true = refl
or_true false = refl

-- what is told of equal things
tells-move : (over over' : Bool) (b b' : Option ℕ) (o o' : Option Offer) (has has' : ℕ → Bool) (last last' : Option ℕ) (how : VacState)
    → over' ≡ over → b' ≡ b → o' ≡ o → ((p : ℕ) → has' p ≡ has p) → last' ≡ last → Tells over b o has last how → Tells over' b' o' has' last' how
tells-move over over' b b' o o' has has' last last' how over-is b-is o-is has-is last-is t = record {
  annulled = over-is ∙ t.annulled;
  started_by = b-is ∙ t.started_by;
  offered_to = ap (option_map (λ (offer : Offer). offer.person)) o-is ∙ t.offered_to;
  mine = λ p. has-is p ∙ t.mine p;
  accepter = λ p taken. last-is ∙ t.accepter p taken;
}

-- what a command that is done leaves of what a state tells
abbrev AfterCommand : History → ℕ → Cmd → VacState → Type 0
AfterCommand h v c how =
    Tells (is_annulled h v || is_some (annuls v c)) (option_or (begun h v) (begins v h c)) (unwrap_or (cond (is_of v (settles c)) (Some None) None) (open_offer h v))
    (λ p. unwrap_or (assigns p v c) (is_assigned h p v)) (option_or (accepted_by v c) (last_accepter h v)) how

-- one that settles an offer, but for accepting it
settles-tells : (h : History) (v vac p : ℕ) (how : VacState) → Tracks h v how → is_to p (open_offer h vac) ≡ true
    → Tells (is_annulled h v || false) (option_or (begun h v) None) (unwrap_or (cond (nat_eq vac v) (Some None) None) (open_offer h v)) (λ q. is_assigned h q v) (last_accepter h v)
    (cond (nat_eq vac v) state.Vacant how)
settles-tells h v vac p how t to = go (nat_eq vac v) refl
  where
    go : (same : Bool) → nat_eq vac v ≡ same
        → Tells (is_annulled h v || false) (option_or (begun h v) None) (unwrap_or (cond same (Some None) None) (open_offer h v)) (λ q. is_assigned h q v) (last_accepter h v) (cond same state.Vacant how)
    go true is =
        let was = on-offer h v p how t (subst (λ w. is_to p (open_offer h w) ≡ true) (same_number vac v is) to) in
        settled-tells _ _ (open_offer h v) _ _ p (subst (Tracks h v) was t)
    go false is = same-tells _ _ _ _ _ how t

accept-tells : (h : History) (v vac p : ℕ) (how : VacState) → OneOffer h → Tracks h v how → is_to p (open_offer h vac) ≡ true → AfterCommand h v (cmd.Accept vac p) (state_by v (cmd.Accept vac p) how)
accept-tells h v vac p how one t to = go (nat_eq vac v) refl
  where
    go : (same : Bool) → nat_eq vac v ≡ same
        → Tells (is_annulled h v || false) (option_or (begun h v) None) (unwrap_or (cond same (Some None) None) (open_offer h v))
        (λ q. unwrap_or (cond (nat_eq p q) (Some same) None) (is_assigned h q v)) (option_or (cond same (Some p) None) (last_accepter h v)) (cond same (state.Taken p) how)
    go true is =
        let was = on-offer h v p how t (subst (λ w. is_to p (open_offer h w) ≡ true) (same_number vac v is) to) in
        taken-tells _ _ (open_offer h v) _ (last_accepter h v) p (subst (Tracks h v) was t)
    go false is = kept-tells _ _ _ _ _ p how t (sym (t.mine p) ∙ one.idle vac v p to)

not_begun : (how : VacState) → is_done (over_answer how) ≡ true → begun_in how ≡ None
not_begun (state.Begun p) done = absurd (false≢true done)
not_begun other done = refl

annul-tells : (h : History) (v vac : ℕ) (how : VacState) → Tracks h v how → is_done (annul_answer h vac) ≡ true → AfterCommand h v (cmd.Annul vac) (state_by v (cmd.Annul vac) how)
annul-tells h v vac how t done = go (nat_eq vac v) refl
  where
    open_state_of : (unknown : Bool) → is_done (cond unknown reply.UnknownVacancy (over_answer (state_of h vac))) ≡ true → is_done (over_answer (state_of h vac)) ≡ true
    open_state_of true fails = absurd (false≢true fails)
    open_state_of false holds = holds

    none : vac ≡ v → begun h v ≡ None
    none same =
        t.started_by ∙ not_begun how (subst (λ x. is_done (over_answer x) ≡ true) (ap (state_of h) same ∙ state-is h v how t) (open_state_of (is_none (vacancy_of h vac)) done))

    go : (same : Bool) → nat_eq vac v ≡ same
        → Tells (is_annulled h v || is_some (cond same (Some vac) None)) (option_or (begun h v) None) (unwrap_or (cond same (Some None) None) (open_offer h v))
        (λ q. unwrap_or (cond same (Some false) None) (is_assigned h q v)) (last_accepter h v) (cond same state.Annulled how)
    go true is = record {
      annulled = or_true (is_annulled h v);
      started_by = rw (none (same_number vac v is)) refl;
      offered_to = refl;
      mine = λ q. refl;
      accepter = λ q no. absurd (false≢true no);
    }
    go false is = same-tells _ _ _ _ _ how t

drop-tells : (h : History) (v p : ℕ) (how : VacState) → Tracks h v how → AfterCommand h v (cmd.Drop p) (given_up p how)
drop-tells h v p (state.Taken q) t = go (nat_eq p q) refl
  where
    go : (same : Bool) → nat_eq p q ≡ same
        → Tells (is_annulled h v || false) (option_or (begun h v) None) (open_offer h v) (λ r. unwrap_or (cond (nat_eq p r) (Some false) None) (is_assigned h r v)) (last_accepter h v)
        (cond same state.Vacant (state.Taken q))
    go true is = lost-tells _ _ _ _ (last_accepter h v) p (subst (λ r. Tracks h v (state.Taken r)) (sym (same_number p q is)) t)
    go false is = kept-tells _ _ _ _ _ p (state.Taken q) t (nat_eq-swap q p ∙ is)
drop-tells h v p how t = kept-tells _ _ _ _ _ p how t refl

-- a report
report-tells : (h : History) (v p : ℕ) (how : VacState) → Tracks h v how
    → Tells (is_annulled h v || false) (option_or (begun h v) (cond (is_assigned h p v) (Some p) None)) (open_offer h v) (λ r. unwrap_or (cond (nat_eq p r) (Some false) None) (is_assigned h r v))
    (last_accepter h v) (started p how)
report-tells h v p (state.Taken q) t = rw (t.mine p, nat_eq-swap q p) (go (nat_eq p q) refl)
  where
    go : (same : Bool) → nat_eq p q ≡ same
        → Tells (is_annulled h v || false) (option_or (begun h v) (cond same (Some p) None)) (open_offer h v) (λ r. unwrap_or (cond (nat_eq p r) (Some false) None) (is_assigned h r v))
        (last_accepter h v) (cond same (state.Begun q) (state.Taken q))
    go true is =
        let begun_is = begun-tells _ _ _ _ (last_accepter h v) p (subst (λ r. Tracks h v (state.Taken r)) (sym (same_number p q is)) t) in
        subst (λ r. Tells (is_annulled h v || false) (option_or (begun h v) (Some p)) (open_offer h v) (λ s. unwrap_or (cond (nat_eq p s) (Some false) None) (is_assigned h s v)) (last_accepter h v) (state.Begun r))
        (same_number p q is) begun_is
    go false is = kept-tells _ _ _ _ _ p (state.Taken q) t (nat_eq-swap q p ∙ is)
report-tells h v p how t = rw (t.mine p) (kept-tells _ _ _ _ _ p how t refl)

event-tells : (h : History) (v p : ℕ) (e : Event) (how : VacState) → Tracks h v how → AfterCommand h v (cmd.Happened p e) (state_by v (cmd.Happened p e) how)
event-tells h v p e how t = go (reports e)
  where
    go : (report : Bool)
        → Tells (is_annulled h v || false) (option_or (begun h v) (cond (report && is_assigned h p v) (Some p) None)) (open_offer h v)
        (λ r. unwrap_or (cond (nat_eq p r && report) (Some false) None) (is_assigned h r v)) (last_accepter h v) (cond report (started p how) how)
    go true =
        tells-move _ _ _ _ _ _ _ _ _ _ (started p how) refl refl refl (λ r. ap (λ b. unwrap_or (cond b (Some false) None) (is_assigned h r v)) (and_true (nat_eq p r))) refl (report-tells h v p how t)
    go false =
        tells-move _ _ _ _ _ _ _ _ _ _ how refl refl refl (λ r. ap (λ b. unwrap_or (cond b (Some false) None) (is_assigned h r v)) (and_false (nat_eq p r))) refl
        (same-tells _ _ (open_offer h v) (λ r. is_assigned h r v) (last_accepter h v) how t)

command-tells : (h : History) (m v : ℕ) (c : Cmd) (how : VacState) → OneOffer h → Tracks h v how → is_done (answer_to h m c) ≡ true → AfterCommand h v c (state_by v c how)
command-tells h m v (cmd.Accept vac p) how one t done = accept-tells h v vac p how one t (settle-open h vac p _ done)
command-tells h m v (cmd.Decline vac p) how one t done = settles-tells h v vac p how t (settle-open h vac p _ done)
command-tells h m v (cmd.NoAnswer vac p) how one t done = settles-tells h v vac p how t (settle-open h vac p _ done)
command-tells h m v (cmd.Withdraw vac p) how one t done = settles-tells h v vac p how t (settle-open h vac p _ done)
command-tells h m v (cmd.Annul vac) how one t done = annul-tells h v vac how t done
command-tells h m v (cmd.Drop p) how one t done = drop-tells h v p how t
command-tells h m v (cmd.Happened p e) how one t done = event-tells h v p e how t
command-tells h m v other how one t done = same-tells _ _ _ _ _ how t

-- ---- an entry

-- what comes with an entry, by what it says
comes-tells : (h : History) (e : EntryValue) (v : ℕ) (how : VacState)
    → Tells (is_annulled h v || is_some (said (annuls v) e)) (option_or (begun h v) (said (begins v h) e)) (unwrap_or (offer_said v e) (open_offer h v))
    (λ p. unwrap_or (said (assigns p v) e) (is_assigned h p v)) (option_or (said (accepted_by v) e) (last_accepter h v)) how → Tracks (with_entry h e) v how
comes-tells h e v how t =
    tells-move _ _ _ _ _ _ _ _ _ _ how (is_some-snoc (said (annuls v)) h.entries e)
    (ap (first_of (begun_by v)) (steps-snoc h e) ∙ first_of-snoc (begun_by v) (steps h) (step_of h e))
    (offer-comes h e v) (λ p. has-comes h e p v) (last_of-snoc (said (accepted_by v)) h.entries e) t

none-tells : (h : History) (e : EntryValue) (v : ℕ) (how : VacState) → IsNext h e → OneOffer h → offer_in e.moment e.reply ≡ None → Tracks h v how → Tracks (with_entry h e) v (state_after v e how)
none-tells h e v how is one none t =
    comes-tells h e v (state_after v e how) (rw (said-ends v e none, ap (λ o. offered_by v e o how) none) (go (is_done e.reply) refl))
  where
    c : Cmd
    c = e.stated.cmd

    go : (done : Bool) → is_done e.reply ≡ done
        → Tells (is_annulled h v || is_some (cond done (annuls v c) None)) (option_or (begun h v) (cond done (begins v h c) None))
        (unwrap_or (cond (is_of v (cond done (settles c) None)) (Some None) None) (open_offer h v)) (λ p. unwrap_or (cond done (assigns p v c) None) (is_assigned h p v))
        (option_or (cond done (accepted_by v c) None) (last_accepter h v)) (cond done (state_by v c how) how)
    go true done = command-tells h e.moment v c how one t (done-answer h e is done)
    go false done = same-tells _ _ _ _ _ how t

opened-tells : (h : History) (e : EntryValue) (v : ℕ) (how : VacState) → Opens h e → Tracks h v how → Tracks (with_entry h e) v (state_after v e how)
opened-tells h e v how new t =
    comes-tells h e v (state_after v e how) (rw (new.undone, new.makes, new.asks) (go (nat_eq new.vac v) refl))
  where
    vacant : Tracks h v state.Vacant
        → Tells (is_annulled h v || false) (option_or (begun h v) None) (Some new.offer) (λ p. is_assigned h p v) (last_accepter h v) (state.OnOffer new.offer.person)
    vacant was = record {
      annulled = or_false (is_annulled h v) ∙ was.annulled;
      started_by = or_none (begun h v) ∙ was.started_by;
      offered_to = refl;
      mine = was.mine;
      accepter = λ p no. absurd (false≢true no);
    }

    go : (same : Bool) → nat_eq new.vac v ≡ same
        → Tells (is_annulled h v || false) (option_or (begun h v) None) (unwrap_or (option_or (cond same (Some (Some new.offer)) None) (cond (is_of v None) (Some None) None)) (open_offer h v))
        (λ p. is_assigned h p v) (last_accepter h v) (cond same (state.OnOffer new.offer.person) how)
    go true is = vacant (subst (Tracks h v) (sym (state-is h v how t) ∙ ap (state_of h) (sym (same_number new.vac v is)) ∙ new.vacant) t)
    go false is = same-tells _ _ _ _ _ how t

-- ---- a legal history

-- what the entries make of the state, one after another
abbrev track : History → ℕ → VacState
track h v = fold (λ how e. state_after v e how) state.Vacant h.entries

abbrev IsTracked : History → Type 0
IsTracked h = (v : ℕ) → Tracks h v (track h v)

tracked-opened : (o : OpeningValue) → IsTracked (opened o)
unfolding steps
tracked-opened o v = record { annulled = refl; started_by = refl; offered_to = refl; mine = λ p. refl; accepter = λ p no. absurd (false≢true no) }

grown : (h : History) (e : EntryValue) → IsLegal h → IsNext h e → IsTracked h → IsTracked (with_entry h e)
grown h e legal is was v =
    subst (Tracks (with_entry h e) v) (sym (fold_push (λ how x. state_after v x how) state.Vacant h.entries e)) (elim (next-says h e is) [
      | inl none ↦ none-tells h e v (track h v) is (one-offer h legal) none (was v)
      | inr new ↦ opened-tells h e v (track h v) new (was v)
    ])

pub is-tracked : (h : History) (v : ℕ) → IsLegal h → Tracks h v (fold (λ how e. state_after v e how) state.Vacant h.entries)
is-tracked h v legal = legal-induction IsTracked (λ o valid. tracked-opened o) grown h legal v

pub state_of-fold : (h : History) (v : ℕ) → IsLegal h → state_of h v ≡ fold (λ how e. state_after v e how) state.Vacant h.entries
state_of-fold h v legal = state-is h v (track h v) (is-tracked h v legal)

-- so each state tells all that there is of a vacancy
pub tracks : (h : History) (v : ℕ) → IsLegal h → Tracks h v (state_of h v)
tracks h v legal = subst (Tracks h v) (sym (state_of-fold h v legal)) (is-tracked h v legal)

-- and an entry makes of it what it says
pub state-comes : (h : History) (e : EntryValue) (v : ℕ) → IsLegal h → IsNext h e → state_of (with_entry h e) v ≡ state_after v e (state_of h v)
state-comes h e v legal is = state-is (with_entry h e) v (state_after v e (state_of h v)) (elim (next-says h e is) [
  | inl none ↦ none-tells h e v (state_of h v) is (one-offer h legal) none (tracks h v legal)
  | inr new ↦ opened-tells h e v (state_of h v) new (tracks h v legal)
])
