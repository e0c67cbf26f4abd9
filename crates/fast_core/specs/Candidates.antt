-- Whom a desk judges, and for what, beside what a history says of them.
use Rattle.std.specs.Prelude.{◌≡◌, ℕ, Option, None, Some}
use Rattle.month_hours.specs.Plan.{plan_of}
use Rattle.desk_model.specs.histories.History.{History}
use Rattle.desk_model.specs.histories.Register.{person_of, persons}
use Rattle.desk_answers.specs.Asked.{IsAsked}
use Rattle.desk_register.specs.Among.{index_among}
use Rattle.desk_register.specs.Persons.{IsPerson}
use Rattle.desk_register.specs.TurnedDown.{turned_at, turned_for}
use Rattle.desk_model.specs.offers.TurnedDown.{has_turned_down}
use Rattle.desk_state.specs.Clocks.{IsClock}
use Rattle.fast_core.specs.declared.candidate.Candidate.{Candidate}
use Rattle.fast_core.specs.declared.job_asked.JobAsked.{JobAsked}

-- the vacancy is asked about in the history, and who has turned it down is the history's
pub record IsJobAsked (a : JobAsked) (h : History) : Type 0 where
  pub asked : IsAsked h a.moment a.job.now
  pub plan : a.plan ≡ plan_of a.job.now.report a.job.now.duty a.job.now.limbo
  pub turned : (p : ℕ) → turned_for (turned_at a.turned_down.now) (index_among (persons h) p) a.vacancy ≡ has_turned_down h a.job.now.vac p

-- it is this enrolled person, by what the history says of them
pub record IsCandidate (c : Candidate) (h : History) (p : ℕ) : Type 0 where
  pub index : index_among (persons h) p ≡ Some c.index
  pub kept : IsPerson (Some c.kept.now) h p
  pub clock : IsClock c.clock.now h p

-- nobody else is one
abbrev pub IsCandidateOf : Option Candidate → History → ℕ → Type 0
IsCandidateOf None h p = person_of h p ≡ None
IsCandidateOf (Some c) h p = IsCandidate c h p
