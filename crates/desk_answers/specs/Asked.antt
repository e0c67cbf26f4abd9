-- When it is asked who may have a vacancy.
use Rattle.std.specs.Prelude.{◌≡◌, ℕ, ◌≤◌, Some}
use Rattle.desk_model.specs.statements.Job.{JobValue}
use Rattle.desk_model.specs.histories.History.{History}
use Rattle.desk_model.specs.histories.Register.{vacancy_of}
use Rattle.desk_model.specs.histories.Legal.{last_moment}

-- the job is that of a vacancy that was made, and the moment is neither before the last one nor after its report
pub record IsAsked (h : History) (m : ℕ) (job : JobValue) : Type 0 where
  pub made : (v : ℕ) × (vacancy_of h v ≡ Some job)
  pub from : last_moment h ≤ m
  pub to : m ≤ job.report
