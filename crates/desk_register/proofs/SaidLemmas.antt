-- What a command says of a vacancy, beside what it makes of what is kept of it.
use Rattle.std.proofs.Common.{◌≡◌, ℕ, Bool, true, false, cond, nat_eq, None, refl, sym, ap, ◌∙◌}
use Rattle.std.proofs.lemmas.Bool.{false≢true}
use Rattle.std.specs.Prelude.{if◌then◌else◌}
use Rattle.duty_events.specs.declared.event.Event.{Event}
use Rattle.desk_model.specs.declared.command.Cmd.{Cmd}
use Rattle.desk_model.specs.declared.command.Cmd.TheVariants as cmd
use Rattle.desk_model.specs.declared.vac_state.VacState.{VacState}
use Rattle.desk_model.specs.declared.vac_state.VacState.TheVariants as state
use Rattle.desk_model.specs.histories.History.{History}
use Rattle.desk_model.specs.histories.Register.{makes}
use Rattle.desk_model.specs.offers.Offers.{is_of}
use Rattle.desk_model.specs.offers.Assigned.{reports, is_assigned, assigned}
use Rattle.desk_model.specs.offers.States.{state_of}
use Rattle.desk_model.specs.laws.Comes.{given_up, started, state_by}
use Rattle.desk_register.specs.Vacancies.{target, state_then, had_by}
use Rattle.desk_register.proofs.PersonLemmas.{same, same_number}
use Rattle.desk_register.proofs.RosterLemmas.{TakenIsAssigned, is-some}

-- whether a vacancy is assigned to a person is whether it is the one that is
abbrev pub HasIsAssigned : History → Type 0
HasIsAssigned h = (v p : ℕ) → is_assigned h p v ≡ is_of v (assigned h p)

-- of the vacancy whose state the command changes this is said, and of another one nothing
abbrev pub Said : Bool → History → Cmd → ℕ → Type 0
Said true h c v = (makes v c ≡ None) × (state_by v c (state_of h v) ≡ state_then c (state_of h v))
Said false h c v = (makes v c ≡ None) × (state_by v c (state_of h v) ≡ state_of h v)

-- a command of a vacancy by its number
named-said : (h : History) (c : Cmd) (v vac : ℕ) → (nat_eq vac v ≡ true → Said true h c v) → (nat_eq vac v ≡ false → Said false h c v) → Said (nat_eq vac v) h c v
named-said h c v vac this other = go (nat_eq vac v) refl
  where
    go : (here : Bool) → nat_eq vac v ≡ here → Said here h c v
    go true is = this is
    go false is = other is

-- whose vacancy this isn't doesn't give it up, nor begin it
not-theirs : (p x : ℕ) (left : VacState) → ((state.Taken x ≡ state.Taken p) → false ≡ true) → cond (nat_eq p x) left (state.Taken x) ≡ state.Taken x
not-theirs p x left other = go (nat_eq p x) refl
  where
    go : (here : Bool) → nat_eq p x ≡ here → cond here left (state.Taken x) ≡ state.Taken x
    go true here = absurd (false≢true (other (ap state.Taken (sym (same_number p x here)))))
    go false here = refl

not-given_up : (p : ℕ) (how : VacState) → ((how ≡ state.Taken p) → false ≡ true) → given_up p how ≡ how
not-given_up p (state.Taken x) other = not-theirs p x state.Vacant other
not-given_up p (state.OnOffer x) other = refl
not-given_up p (state.Begun x) other = refl
not-given_up p state.Vacant other = refl
not-given_up p state.Annulled other = refl

not-started : (p : ℕ) (how : VacState) → ((how ≡ state.Taken p) → false ≡ true) → started p how ≡ how
not-started p (state.Taken x) other = not-theirs p x (state.Begun x) other
not-started p (state.OnOffer x) other = refl
not-started p (state.Begun x) other = refl
not-started p state.Vacant other = refl
not-started p state.Annulled other = refl

-- who hasn't the vacancy isn't who has taken it
not-taken : (h : History) (p v : ℕ) → TakenIsAssigned h → is_of v (assigned h p) ≡ false → (state_of h v ≡ state.Taken p) → false ≡ true
not-taken h p v law other taken = sym other ∙ ap (is_of v) ((law v p).1 taken) ∙ same v

has-taken : (h : History) (p v : ℕ) → TakenIsAssigned h → is_of v (assigned h p) ≡ true → state_of h v ≡ state.Taken p
has-taken h p v law mine = (law v p).0 (is-some (assigned h p) v mine)

drop-said : (h : History) (p v : ℕ) → TakenIsAssigned h → (here : Bool) → is_of v (assigned h p) ≡ here → Said here h (cmd.Drop p) v
drop-said h p v law true here = (refl, rw (has-taken h p v law here, same p) refl)
drop-said h p v law false here = (refl, not-given_up p (state_of h v) (not-taken h p v law here))

happened-said : (h : History) (p v : ℕ) (e : Event) → TakenIsAssigned h → (report here : Bool) → reports e ≡ report → is_of v (cond report (assigned h p) None) ≡ here
    → Said here h (cmd.Happened p e) v
happened-said h p v e law true true report here = (refl, rw (report, has-taken h p v law here, same p) refl)
happened-said h p v e law true false report here = (refl, rw report (not-started p (state_of h v) (not-taken h p v law here)))
happened-said h p v e law false true report here = absurd (false≢true here)
happened-said h p v e law false false report here = (refl, rw report refl)

-- what a command that makes no vacancy says of one
pub vacancy-said : (h : History) (c : Cmd) (v : ℕ) → TakenIsAssigned h → makes v c ≡ None → Said (is_of v (target c (had_by h c))) h c v
vacancy-said h (cmd.Accept vac p) v law unmade = named-said h (cmd.Accept vac p) v vac (λ is. (refl, rw is refl)) (λ is. (refl, rw is refl))
vacancy-said h (cmd.Decline vac p) v law unmade = named-said h (cmd.Decline vac p) v vac (λ is. (refl, rw is refl)) (λ is. (refl, rw is refl))
vacancy-said h (cmd.NoAnswer vac p) v law unmade = named-said h (cmd.NoAnswer vac p) v vac (λ is. (refl, rw is refl)) (λ is. (refl, rw is refl))
vacancy-said h (cmd.Withdraw vac p) v law unmade = named-said h (cmd.Withdraw vac p) v vac (λ is. (refl, rw is refl)) (λ is. (refl, rw is refl))
vacancy-said h (cmd.Annul vac) v law unmade = named-said h (cmd.Annul vac) v vac (λ is. (refl, rw is refl)) (λ is. (refl, rw is refl))
vacancy-said h (cmd.Drop p) v law unmade = drop-said h p v law (is_of v (assigned h p)) refl
vacancy-said h (cmd.Happened p e) v law unmade = happened-said h p v e law (reports e) (is_of v (if reports e then assigned h p else None)) refl refl
vacancy-said h (cmd.Vacancy job) v law unmade = (unmade, refl)
vacancy-said h other v law unmade = (refl, refl)
