-- What one entry more makes of a generated day.
use Rattle.std.proofs.Common.{◌≡◌, ℕ, suc, ◌+◌, ◌*◌, ◌≤◌, ◌<◌, Bool, true, false, Option, None, Some, if◌then◌else◌, [], ◌∷◌, ◌++◌, length, length-append, refl, sym, subst, ◌∙◌, arith}
use Rattle.std.specs.Prelude.{⊤}
use Rattle.desk_model.specs.declared.command.Cmd.{Cmd}
use Rattle.desk_model.specs.declared.edition.Edition.{Edition}
use Rattle.desk_model.specs.statements.Job.{JobValue}
use Rattle.desk_model.specs.statements.Entry.{EntryValue}
use Rattle.desk_model.specs.histories.History.{History, with_entry, is_done, said}
use Rattle.desk_model.specs.offers.Offers.{asks_for, offer_in}
use Rattle.desk_model.specs.histories.Register.{makes, vacancy_of}
use Rattle.desk_model.proofs.SaidLemmas.{last_of-snoc, first_of-silent, last_of-silent}
use Rattle.day_gen.specs.declared.due.Due.{Due}
use Rattle.day_gen.specs.declared.due.Due.TheVariants as due
use Rattle.day_gen.specs.Turn.{Turn}
use Rattle.day_gen.specs.Due.{due_after_done, due_after_offer, due_after, due_by, last_entry, accepts, accepted_last}
use Rattle.day_gen.specs.Rules.{report_of, duty_of}
use Rattle.day_gen.specs.Day.{start, day_opening, Day, day_of, due_on}
use Rattle.day_gen.specs.Due.{plans, planned_last}

-- what there is to do is for the vacancy that was made last, whose job was stated last
abbrev pub IsDue : History → ℕ → Due → Type 0
IsDue h made (due.Answer vac person) = (vac ≡ made) × (vacancy_of h made ≡ planned_last h)
IsDue h made (due.Report vac person) = (vac ≡ made) × (vacancy_of h made ≡ planned_last h) × (accepted_last h ≡ Some made)
IsDue h made (due.Release person) = (accepted_last h ≡ Some made) × (vacancy_of h made ≡ planned_last h)
IsDue h made (due.Call vac) = (vac ≡ made) × (vacancy_of h made ≡ planned_last h)
IsDue h made due.Nothing = ⊤

-- a job's report lies at most 1,000 minutes a command behind the day's begin, and it plans at most 1,000 minutes on duty
abbrev pub IsBounded : ℕ → Option JobValue → Type 0
IsBounded n None = ⊤
IsBounded n (Some job) = (job.report ≤ start + 1000 * n) × (job.duty ≤ 1000)

pub record Keeps (edition : Edition) (n : ℕ) (day : Day) : Type 0 where
  pub entries : length day.history.entries ≡ n
  pub opening : day.history.opening ≡ day_opening edition
  pub made : day.course.made ≤ n
  pub begins : start ≤ day.course.minute
  pub ends : day.course.minute ≤ start + 1000 * n
  pub fresh : (v : ℕ) → day.course.made < v → vacancy_of day.history v ≡ None
  pub plan : IsBounded n (planned_last day.history)
  pub due : IsDue day.history day.course.made (due_on day)

later : (n : ℕ) (job : Option JobValue) → IsBounded n job → IsBounded (suc n) job
later n None is = is
later n (Some job) is = (omega (arith, is.0), is.1)

pub bounded_report : (n : ℕ) (job : Option JobValue) → IsBounded n job → report_of job ≤ start + 1000 * n
bounded_report n None is = omega arith
bounded_report n (Some job) is = is.0

pub bounded_duty : (n : ℕ) (job : Option JobValue) → IsBounded n job → duty_of job ≤ 1000
bounded_duty n None is = omega arith
bounded_duty n (Some job) is = is.1

-- ---- one entry more

said-silent : {X : Type 0} (f : Cmd → Option X) (e : EntryValue) → f e.stated.cmd ≡ None → said f e ≡ None
said-silent f e none = go (is_done e.reply)
  where
    go : (b : Bool) → (if b then f e.stated.cmd else None) ≡ None
    go true = none
    go false = refl

pub vacancy-silent : (h : History) (e : EntryValue) (v : ℕ) → makes v e.stated.cmd ≡ None → vacancy_of (with_entry h e) v ≡ vacancy_of h v
vacancy-silent h e v none = first_of-silent (said (makes v)) h.entries e (said-silent (makes v) e none)

planned-silent : (h : History) (e : EntryValue) → plans e.stated.cmd ≡ None → planned_last (with_entry h e) ≡ planned_last h
planned-silent h e none = last_of-silent (λ x. plans x.stated.cmd) h.entries e none

pub accepted-silent : (h : History) (e : EntryValue) → accepts e.stated.cmd ≡ None → accepted_last (with_entry h e) ≡ accepted_last h
accepted-silent h e none = last_of-silent (said accepts) h.entries e (said-silent accepts e none)

pub last_entry-with : (h : History) (e : EntryValue) → last_entry (with_entry h e) ≡ Some e
last_entry-with h e = last_of-snoc (λ x. Some x) h.entries e

pub entries-with : (h : History) (e : EntryValue) (n : ℕ) → length h.entries ≡ n → length (h.entries ++ e ∷ []) ≡ suc n
entries-with h e n is = omega (arith, length-append h.entries (e ∷ []), is)

-- what an entry leaves to do, by whether its command was accepted
pub due-split : (P : Due → Type 0) (e : EntryValue) → (is_done e.reply ≡ true → P (due_after_done e.stated.cmd))
    → P (due_after_offer (asks_for e.stated.cmd) (offer_in e.moment e.reply)) → P (due_after e)
due-split P e done offer = go (is_done e.reply) done
  where
    go : (b : Bool) → (b ≡ true → P (due_after_done e.stated.cmd))
        → P (if b then due_after_done e.stated.cmd else due_after_offer (asks_for e.stated.cmd) (offer_in e.moment e.reply))
    go true this = this refl
    go false this = offer

-- a command that makes no vacancy
pub record IsQuiet (c : Cmd) : Type 0 where
  pub makes : (v : ℕ) → makes v c ≡ None
  pub plans : plans c ≡ None

-- one that leaves nothing to do
pub record IsIdle (c : Cmd) : Type 0 where
  pub quiet : IsQuiet c
  pub done : due_after_done c ≡ due.Nothing
  pub asks : asks_for c ≡ None

-- the minutes of a turn are in their bounds
pub record IsTimely (n : ℕ) (turn : Turn) : Type 0 where
  pub begins : start ≤ turn.course.minute
  pub ends : turn.course.minute ≤ start + 1000 * suc n

-- a turn that makes no vacancy
pub quiet_step : (edition : Edition) (n : ℕ) (day : Day) (turn : Turn) (e : EntryValue) → Keeps edition n day → IsQuiet e.stated.cmd
    → turn.course.made ≡ day.course.made → IsTimely n turn → IsDue (with_entry day.history e) day.course.made (due_after e)
    → Keeps edition (suc n) (day_of turn.course (with_entry day.history e))
quiet_step edition n day turn e keeps quiet made timely todo = record {
  entries = entries-with day.history e n keeps.entries;
  opening = keeps.opening;
  made = omega (arith, made, keeps.made);
  begins = timely.begins;
  ends = timely.ends;
  fresh = λ v above. vacancy-silent day.history e v (quiet.makes v) ∙ keeps.fresh v (omega (arith, made, above));
  plan = subst (IsBounded (suc n)) (sym (planned-silent day.history e quiet.plans)) (later n (planned_last day.history) keeps.plan);
  due = subst (λ m. IsDue (with_entry day.history e) m (due_by (last_entry (with_entry day.history e)))) (sym made)
      (subst (λ o. IsDue (with_entry day.history e) day.course.made (due_by o)) (sym (last_entry-with day.history e)) todo);
}

-- the vacancy that was made last stays it
pub stays_last : (h : History) (e : EntryValue) (made : ℕ) → IsQuiet e.stated.cmd → vacancy_of h made ≡ planned_last h
    → vacancy_of (with_entry h e) made ≡ planned_last (with_entry h e)
stays_last h e made quiet same = vacancy-silent h e made (quiet.makes made) ∙ same ∙ sym (planned-silent h e quiet.plans)

-- a turn that leaves nothing to do
pub idle_step : (edition : Edition) (n : ℕ) (day : Day) (turn : Turn) (e : EntryValue) → Keeps edition n day → IsIdle e.stated.cmd
    → turn.course.made ≡ day.course.made → IsTimely n turn → Keeps edition (suc n) (day_of turn.course (with_entry day.history e))
idle_step edition n day turn e keeps idle made timely = quiet_step edition n day turn e keeps idle.quiet made timely
    (due-split (IsDue (with_entry day.history e) day.course.made) e
    (λ done. subst (IsDue (with_entry day.history e) day.course.made) (sym idle.done) tt)
    (subst (λ o. IsDue (with_entry day.history e) day.course.made (due_after_offer o (offer_in e.moment e.reply))) (sym idle.asks) tt))
