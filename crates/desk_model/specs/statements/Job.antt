-- Jobs that a crew is called for.
use Rattle.std.specs.Prelude.{ℕ, ◌≤◌, Bool, List}
use Rattle.desk_model.specs.declared.limits.TheConstants.{DUTY_PLAN_LIMIT, LIMBO_PLAN_LIMIT}
use Rattle.desk_base.specs.Minute.{IsInYears}
use Rattle.qualifications.specs.declared.craft.Craft.{Craft}

-- the vacancy's number; the craft and the qualifications that it asks for; the place and the minute of the report;
-- the planned minutes on duty and, after these, in limbo; the boards that it is filled from, in order; and whether it is for
-- a wreck or relief crew in an actual emergency, 49 USC 21103(d)
pub record JobValue : Type 0 where
  pub vac : ℕ
  pub craft : Craft
  pub quals : ℕ
  pub place : List ℕ
  pub report : ℕ
  pub duty : ℕ
  pub limbo : ℕ
  pub chain : List (List ℕ)
  pub relief : Bool

abbrev pub job_of : ℕ → Craft → ℕ → List ℕ → ℕ → ℕ → ℕ → List (List ℕ) → Bool → JobValue
job_of vac craft quals place report duty limbo chain relief = record {
  vac = vac;
  craft = craft;
  quals = quals;
  place = place;
  report = report;
  duty = duty;
  limbo = limbo;
  chain = chain;
  relief = relief;
}

-- the report lies in the years 2000 to 2099, the duty is 1 to 9,999 minutes and the limbo at most 999
pub record IsPlan (report duty limbo : ℕ) : Type 0 where
  pub report_in : IsInYears report
  pub some : 1 ≤ duty
  pub most : duty ≤ DUTY_PLAN_LIMIT
  pub limbo_most : limbo ≤ LIMBO_PLAN_LIMIT
