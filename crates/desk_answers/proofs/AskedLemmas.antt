-- When it is asked who may have a vacancy.
use Rattle.std.proofs.Common.{◌≡◌, ◌≤◌, ℕ, Bool, false, is_lt, nat_cmp, Some, sym, subst, ◌∙◌}
use Rattle.std.proofs.lemmas.Map.Keys.{ge_from_not_lt}
use Rattle.desk_model.specs.statements.Job.{JobValue}
use Rattle.desk_model.specs.histories.History.{History}
use Rattle.desk_model.specs.histories.Register.{vacancy_of}
use Rattle.desk_model.specs.histories.Legal.{last_moment}
use Rattle.desk_answers.specs.Asked.{IsAsked}

pub asked : (h : History) (m : ℕ) (job : JobValue) (v report : ℕ) (past : Bool) → vacancy_of h v ≡ Some job → last_moment h ≤ m → report ≡ job.report → past ≡ is_lt (nat_cmp report m) → past ≡ false
    → IsAsked h m job
asked h m job v report past made late report_is past_is in_time = record { made = (v, made); from = late; to = subst (λ r. m ≤ r) report_is (ge_from_not_lt report m (sym past_is ∙ in_time)) }
