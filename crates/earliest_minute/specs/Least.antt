-- The first minute at which nothing bars a person from a job, and that a bar which is gone stays gone.
use Rattle.std.specs.Prelude.{◌≡◌, ◌≢◌, ℕ, ◌<◌, ◌≤◌, None, Some}
use Rattle.denial_rules.specs.declared.bar.Bar.{Bar}
use Rattle.desk_model.specs.declared.person.Person.{Person}
use Rattle.desk_model.specs.histories.History.{History}
use Rattle.desk_model.specs.statements.Job.{JobValue}
use Rattle.desk_model.specs.histories.Register.{person_of}
use Rattle.desk_model.specs.offers.Bars.{bar_of}
use Rattle.desk_model.specs.histories.Legal.{last_moment, IsLegal}
use Rattle.desk_answers.specs.Asked.{IsAsked}

-- from the last moment on: whom nothing bars from a job at a minute, nothing bars from it at a later one
abbrev pub StaysGone : Type 0
StaysGone = (h : History) (job : JobValue) (p : ℕ) (person : Person) (minute later : ℕ) → IsLegal h → last_moment h ≤ minute → minute ≤ later
    → bar_of h minute job p person ≡ None → bar_of h later job p person ≡ None

-- of the minutes from the last moment to the job's report this is the first at which nothing bars the person
pub record IsLeast (h : History) (job : JobValue) (p : ℕ) (person : Person) (minute : ℕ) : Type 0 where
  pub from : last_moment h ≤ minute
  pub to : minute ≤ job.report
  pub clear : bar_of h minute job p person ≡ None
  pub before : (m : ℕ) → last_moment h ≤ m → m < minute → bar_of h m job p person ≢ None

-- something bars the person at each of them, and this does at the report
pub record IsBarredThroughout (h : History) (job : JobValue) (p : ℕ) (person : Person) (bar : Bar) : Type 0 where
  pub each : (m : ℕ) → last_moment h ≤ m → m ≤ job.report → bar_of h m job p person ≢ None
  pub report : bar_of h job.report job p person ≡ Some bar

-- ---- the search for it

-- of two minutes from the last moment to the job's report something bars an enrolled person at the one, and nothing at the other
pub record IsBetween (h : History) (job : JobValue) (p : ℕ) (person : Person) (barred clear : ℕ) : Type 0 where
  pub barred_asked : IsAsked h barred job
  pub clear_asked : IsAsked h clear job
  pub enrolled : person_of h p ≡ Some person
  pub bars : bar_of h barred job p person ≢ None
  pub gone : bar_of h clear job p person ≡ None
