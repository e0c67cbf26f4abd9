-- In a legal history each vacancy ends in the desk's window, and so before the year 2100, and is not too long; and what else each has
-- whose making is done.
use Rattle.std.proofs.Common.{◌≡◌, ℕ, ◌+◌, ◌≤◌, Bool, true, false, cond, not, ◌&&◌, nat_eq, nat_lt, nat_le, Option, None, Some, is_some, List, length, refl, sym, subst, ◌∙◌, arith}
use Rattle.std.specs.Option.{option_or}
use Rattle.std.proofs.lemmas.Bool.{false≢true}
use Rattle.std.proofs.lemmas.Bool.Decides.{nat_tests}
use Rattle.desk_base.specs.declared.minute.TheConstants.{YEARS_END}
use Rattle.desk_base.specs.Window.{end_of}
use Rattle.desk_base.proofs.MonthLemmas.{first_day_mono, first_day-2100}
use Rattle.desk_model.specs.declared.limits.TheConstants.{PLAN_LIMIT, RELIEF_LIMIT, VACANCY_LIMIT}
use Rattle.desk_model.specs.declared.command.Cmd.{Cmd}
use Rattle.desk_model.specs.declared.command.Cmd.TheVariants as cmd
use Rattle.desk_model.specs.declared.reply.Reply.TheVariants as reply
use Rattle.desk_model.specs.statements.Opening.{OpeningValue}
use Rattle.desk_model.specs.statements.Job.{JobValue}
use Rattle.desk_model.specs.statements.Entry.{EntryValue}
use Rattle.desk_model.specs.histories.History.{History, with_entry, is_done, said}
use Rattle.desk_model.specs.histories.Register.{makes, vacancy_of, vacancies}
use Rattle.desk_model.specs.answers.VacancyAnswer.{unknown_in, bad_in, is_edition_one, plan_answer, chain_answer, vacancy_answer}
use Rattle.desk_model.specs.histories.Legal.{answer_to, IsNext, IsLegal}
use Rattle.desk_model.proofs.SaidLemmas.{first_of-snoc}
use Rattle.desk_model.proofs.LegalLemmas.{legal-induction, said-next}

-- the job ends in the window
abbrev EndsIn : OpeningValue → JobValue → Type 0
EndsIn o job = job.report + job.duty + job.limbo ≤ end_of o.window

-- an ordinary job has at most 720 minutes on duty, and a relief one at most 960
abbrev pub IsWithin : JobValue → Type 0
IsWithin job = (job.relief ≡ false → job.duty ≤ PLAN_LIMIT) × (job.relief ≡ true → job.duty ≤ RELIEF_LIMIT)

abbrev Fits : OpeningValue → JobValue → Type 0
Fits o job = EndsIn o job × IsWithin job

-- where a plan is accepted it does
plan-fits : (o : OpeningValue) (m : ℕ) (job : JobValue) → is_done (plan_answer o m job) ≡ true → Fits o job
plan-fits o m job done =
    go (not job.relief && nat_lt PLAN_LIMIT job.duty) (job.relief && nat_lt RELIEF_LIMIT job.duty) (nat_lt job.report m)
    (nat_lt (end_of o.window) (job.report + job.duty + job.limbo)) refl refl refl done
  where
    ordinary : (relief : Bool) → (not relief && nat_lt PLAN_LIMIT job.duty) ≡ false → relief ≡ false → job.duty ≤ PLAN_LIMIT
    ordinary false short is = grind (arith, nat_tests, short)
    ordinary true short is = absurd (false≢true (sym is))

    for_relief : (relief : Bool) → (relief && nat_lt RELIEF_LIMIT job.duty) ≡ false → relief ≡ true → job.duty ≤ RELIEF_LIMIT
    for_relief true short is = grind (arith, nat_tests, short)
    for_relief false short is = absurd (false≢true is)

    go : (long longer past out : Bool) → (not job.relief && nat_lt PLAN_LIMIT job.duty) ≡ long → (job.relief && nat_lt RELIEF_LIMIT job.duty) ≡ longer
        → nat_lt (end_of o.window) (job.report + job.duty + job.limbo) ≡ out
        → is_done (cond long reply.PlanTooLong (cond longer reply.ReliefTooLong (cond past (reply.ReportPast job.report) (cond out reply.OutsideWindow reply.Done)))) ≡ true → Fits o job
    go true longer past out short shorter is done = absurd (false≢true done)
    go false true past out short shorter is done = absurd (false≢true done)
    go false false true out short shorter is done = absurd (false≢true done)
    go false false false true short shorter is done = absurd (false≢true done)
    go false false false false short shorter is done = (grind (arith, nat_tests, is), (ordinary job.relief short, for_relief job.relief shorter))

chain-fits : (o : OpeningValue) (m : ℕ) (job : JobValue) (unknown bad : Option (List ℕ)) → is_done (chain_answer o m job unknown bad) ≡ true → Fits o job
chain-fits o m job (Some b) bad done = absurd (false≢true done)
chain-fits o m job None (Some b) done = absurd (false≢true done)
chain-fits o m job None None done = plan-fits o m job done

vacancy-fits : (h : History) (m : ℕ) (job : JobValue) → is_done (vacancy_answer h m job) ≡ true → Fits h.opening job
vacancy-fits h m job done = go (job.relief && is_edition_one h.opening.edition) (is_some (vacancy_of h job.vac)) (nat_le VACANCY_LIMIT (length (vacancies h))) done
  where
    go : (other used full : Bool)
        → is_done (cond other reply.OtherEdition (cond used reply.Used (cond full reply.VacanciesFull (chain_answer h.opening m job (unknown_in h job.chain) (bad_in h job.chain))))) ≡ true
        → Fits h.opening job
    go true used full done = absurd (false≢true done)
    go false true full done = absurd (false≢true done)
    go false false true done = absurd (false≢true done)
    go false false false done = chain-fits h.opening m job (unknown_in h job.chain) (bad_in h job.chain) done

-- what each vacancy has whose making is done, each that was made in a legal history has
abbrev AllKeep : (OpeningValue → JobValue → Type 0) → History → Type 0
AllKeep Q h = (v : ℕ) (job : JobValue) → vacancy_of h v ≡ Some job → Q h.opening job

abbrev IsKept : (OpeningValue → JobValue → Type 0) → Type 0
IsKept Q = (h : History) (m : ℕ) (job : JobValue) → is_done (vacancy_answer h m job) ≡ true → Q h.opening job

makes-keeps : (Q : OpeningValue → JobValue → Type 0) → IsKept Q → (h : History) (m : ℕ) (c : Cmd) (v : ℕ) (job : JobValue) → makes v c ≡ Some job → is_done (answer_to h m c) ≡ true
    → Q h.opening job
makes-keeps Q keeps h m (cmd.Vacancy j) v job made done = go (nat_eq j.vac v) made
  where
    go : (same : Bool) → cond same (Some j) None ≡ Some job → Q h.opening job
    go true is = let same : j ≡ job = cc in subst (Q h.opening) same (keeps h m j done)
    go false is = cc
makes-keeps Q keeps h m other v job made done = cc

next-keeps : (Q : OpeningValue → JobValue → Type 0) → IsKept Q → (h : History) (e : EntryValue) → IsLegal h → IsNext h e → AllKeep Q h → AllKeep Q (with_entry h e)
next-keeps Q keeps h e legal is were v job found = go (vacancy_of h v) refl (sym (first_of-snoc (said (makes v)) h.entries e) ∙ found)
  where
    go : (old : Option JobValue) → vacancy_of h v ≡ old → option_or old (said (makes v) e) ≡ Some job → Q h.opening job
    go None known made = let done = said-next (makes v) h e job is made in makes-keeps Q keeps h e.moment e.stated.cmd v job done.0 done.1
    go (Some j) known same = were v job (known ∙ same)

pub vacancy_of-keeps : (Q : OpeningValue → JobValue → Type 0) → IsKept Q → (h : History) → IsLegal h → AllKeep Q h
vacancy_of-keeps Q keeps h legal = legal-induction (AllKeep Q) (λ o valid v job none. cc) (next-keeps Q keeps) h legal

pub vacancy_of-within : (h : History) → IsLegal h → (v : ℕ) (job : JobValue) → vacancy_of h v ≡ Some job → IsWithin job
vacancy_of-within h legal v job made = (vacancy_of-keeps Fits vacancy-fits h legal v job made).1

pub vacancy_of-ends : (h : History) → IsLegal h → (v : ℕ) (job : JobValue) → vacancy_of h v ≡ Some job → job.report + job.duty + job.limbo ≤ end_of h.opening.window
vacancy_of-ends h legal v job made = (vacancy_of-keeps Fits vacancy-fits h legal v job made).0

pub vacancy-in_years : (h : History) → IsLegal h → (v : ℕ) (job : JobValue) → vacancy_of h v ≡ Some job → job.report + job.duty + job.limbo ≤ YEARS_END
vacancy-in_years h legal v job made =
    let ends = vacancy_of-ends h legal v job made in
    let window = legal.opening.window in
    omega (arith, ends, first_day_mono (h.opening.window.first + h.opening.window.months) 1560 window.ends, first_day-2100)
