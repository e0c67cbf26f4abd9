-- From when on nothing bars a person from a vacancy.
use Rattle.std.specs.Prelude.{◌≡◌, ℕ, ◌+◌, ◌-◌, Option, None, Some, is_none, List}
use Rattle.std.specs.List.{find, range_with_len}
use Rattle.denial_rules.specs.declared.bar.Bar.{Bar}
use Rattle.desk_model.specs.declared.person.Person.{Person}
use Rattle.desk_model.specs.declared.reply.Reply.{Reply}
use Rattle.desk_model.specs.declared.reply.Reply.TheVariants as reply
use Rattle.desk_model.specs.histories.History.{History}
use Rattle.desk_model.specs.statements.Job.{JobValue}
use Rattle.desk_model.specs.histories.Register.{person_of, vacancy_of}
use Rattle.desk_model.specs.offers.Bars.{bar_of}
use Rattle.desk_model.specs.histories.Legal.{last_moment}
use Rattle.desk_model.specs.answers.ExplainAnswer.{explain_answer}
use Rattle.earliest_minute.specs.declared.earliest.Earliest.{Earliest}
use Rattle.earliest_minute.specs.declared.earliest.Earliest.TheVariants as earliest
use Rattle.earliest_minute.specs.Least.{IsLeast, IsBarredThroughout}

-- of who is listed for a job: the first minute at which nothing bars them, or, where there is none, what bars them at the report
abbrev pub IsTimeOrBar : History → JobValue → ℕ → Person → Earliest → Type 0
IsTimeOrBar h job p person (earliest.Clear minute) = IsLeast h job p person minute
IsTimeOrBar h job p person (earliest.Barred bar) = IsBarredThroughout h job p person bar
IsTimeOrBar h job p person other = ⊥

-- so for the numbers of a vacancy that was made and of an enrolled person
pub record IsTime (h : History) (v p : ℕ) (told : Earliest) : Type 0 where
  pub job : JobValue
  pub person : Person
  pub made : vacancy_of h v ≡ Some job
  pub enrolled : person_of h p ≡ Some person
  pub time_or_bar : IsTimeOrBar h job p person told

-- where `explain` would be answered with a refusal that isn't a bar, it is that; else the time
abbrev pub IsToldBy : History → ℕ → ℕ → Reply → Earliest → Type 0
IsToldBy h v p reply.UnknownVacancy told = told ≡ earliest.UnknownVacancy
IsToldBy h v p reply.UnknownPerson told = told ≡ earliest.UnknownPerson
IsToldBy h v p (reply.Lapsed report) told = told ≡ earliest.Lapsed report
IsToldBy h v p reply.NotListed told = told ≡ earliest.NotListed
IsToldBy h v p other told = IsTime h v p told

-- from when on nothing bars a person from a vacancy, by what `explain` would be answered at the last moment
abbrev pub IsWhen : History → ℕ → ℕ → Earliest → Type 0
IsWhen h v p told = IsToldBy h v p (explain_answer h (last_moment h) v p) told

-- ---- the same, found among all minutes

-- the minutes from one to another
abbrev pub minutes : ℕ → ℕ → List ℕ
minutes from to = range_with_len from (to + 1 - from)

-- the first of them at which nothing bars the person from the job
abbrev pub first_clear : History → JobValue → ℕ → Person → List ℕ → Option ℕ
first_clear h job p person among = find (λ m. is_none (bar_of h m job p person)) among

-- that one; else the bar at the report. Where nothing bars them at the report, that is such a minute, so the last row never comes
-- (`the_earliest_minute_is_one`)
abbrev pub clear_or : Option ℕ → Option Bar → Earliest
clear_or (Some minute) bar = earliest.Clear minute
clear_or None (Some bar) = earliest.Barred bar
clear_or None None = earliest.NotListed

abbrev pub time_or_bar_of : History → ℕ → Option JobValue → Option Person → Earliest
time_or_bar_of h p None person = earliest.UnknownVacancy
time_or_bar_of h p (Some job) None = earliest.UnknownPerson
time_or_bar_of h p (Some job) (Some person) =
    clear_or (first_clear h job p person (minutes (last_moment h) job.report)) (bar_of h job.report job p person)

abbrev pub told_of : Reply → Earliest → Earliest
told_of reply.UnknownVacancy time_or_bar = earliest.UnknownVacancy
told_of reply.UnknownPerson time_or_bar = earliest.UnknownPerson
told_of (reply.Lapsed report) time_or_bar = earliest.Lapsed report
told_of reply.NotListed time_or_bar = earliest.NotListed
told_of other time_or_bar = time_or_bar

abbrev pub when_of : History → ℕ → ℕ → Earliest
when_of h v p = told_of (explain_answer h (last_moment h) v p) (time_or_bar_of h p (vacancy_of h v) (person_of h p))
