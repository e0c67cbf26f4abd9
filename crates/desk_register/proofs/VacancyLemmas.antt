-- What is kept of vacancies, after a command that was done.
use Rattle.std.proofs.Common.{◌≡◌, ℕ, Bool, true, false, Option, None, Some, is_none, refl, sym, ap, ◌∙◌, subst}
use Rattle.std.proofs.lemmas.Bool.{false≢true}
use Rattle.std.specs.Option.{option_map, option_map_or, option_or}
use Rattle.desk_model.specs.declared.command.Cmd.{Cmd}
use Rattle.desk_model.specs.declared.vac_state.VacState.TheVariants as state
use Rattle.desk_model.specs.statements.Entry.{EntryValue}
use Rattle.desk_model.specs.histories.History.{History, with_entry}
use Rattle.desk_model.specs.histories.Register.{makes, vacancy_of}
use Rattle.desk_model.specs.offers.States.{state_of}
use Rattle.desk_model.specs.laws.Comes.{Comes, state_by, state_after}
use Rattle.desk_register.specs.Done.{IsDone}
use Rattle.desk_register.specs.Vacancies.{IsVacancy, state_then, IsChanged, ChangesAt}
use Rattle.desk_register.specs.declared.kept_vacancy.KeptVacancy.{KeptVacancy}
use Rattle.desk_register.proofs.PersonLemmas.{option_or-none}
use Rattle.desk_register.proofs.AgreeLemmas.{said-done}
use Rattle.desk_register.proofs.SaidLemmas.{Said}

-- ---- what is kept goes on by a command as what is said of it does

pub record VacancyFollows (h : History) (v : ℕ) (c : Cmd) (k later : Option KeptVacancy) : Type 0 where
  pub job : option_map (λ x. x.job) later ≡ option_or (option_map (λ x. x.job) k) (makes v c)
  pub state : option_map_or (λ x. x.state) later state.Vacant ≡ state_by v c (option_map_or (λ x. x.state) k state.Vacant)

state-done : (e : EntryValue) (c : Cmd) (v : ℕ) (how : _) → IsDone e c → state_after v e how ≡ state_by v c how
state-done e c v how is = rw (is.done, is.of) refl

pub vacancy-follows : (h : History) (e : EntryValue) (c : Cmd) (v : ℕ) (k later : Option KeptVacancy) → Comes h e
    → state_of (with_entry h e) v ≡ state_after v e (state_of h v) → IsDone e c
    → IsVacancy k h v → VacancyFollows h v c k later → IsVacancy later (with_entry h e) v
vacancy-follows h e c v k later comes law is agrees follows = record {
  job = follows.job ∙ ap (λ x. option_or x (makes v c)) agrees.job ∙ ap (option_or (vacancy_of h v)) (sym (said-done (makes v) e c is)) ∙ sym (comes.vacancy v);
  state = follows.state ∙ ap (state_by v c) agrees.state ∙ sym (state-done e c v (state_of h v) is) ∙ sym law;
}

-- the vacancy whose state the command changes
here-follows : (h : History) (v : ℕ) (c : Cmd) (k later : KeptVacancy) → Said true h c v
    → IsVacancy (Some k) h v → IsChanged c k later → VacancyFollows h v c (Some k) (Some later)
here-follows h v c k later says agrees becomes = record {
  job = ap Some becomes.job;
  state = becomes.state ∙ ap (state_then c) agrees.state ∙ sym says.1 ∙ ap (state_by v c) (sym agrees.state);
}

-- another one
pub other-follows : (h : History) (v : ℕ) (c : Cmd) (k : Option KeptVacancy) → Said false h c v → IsVacancy k h v → VacancyFollows h v c k k
other-follows h v c k says agrees = record {
  job = rw says.0 (option_or-none (option_map (λ x. x.job) k));
  state = agrees.state ∙ sym says.1 ∙ ap (state_by v c) (sym agrees.state);
}

-- and so any that the command doesn't make
pub changed-follows : (h : History) (v : ℕ) (c : Cmd) (here : Bool) (k later : Option KeptVacancy) → Said here h c v
    → (here ≡ true → is_none k ≡ false) → IsVacancy k h v → ChangesAt here c k later → VacancyFollows h v c k later
changed-follows h v c false k later says known agrees becomes = subst (VacancyFollows h v c k) (sym becomes) (other-follows h v c k says agrees)
changed-follows h v c true None later says known agrees becomes = absurd (false≢true (sym (known refl)))
changed-follows h v c true (Some k) later says known agrees becomes = subst (VacancyFollows h v c (Some k)) (sym becomes.1.0) (here-follows h v c k becomes.0 says agrees becomes.1.1)
