-- How many minutes of a plan a month holds, by where they begin and end.
use Rattle.std.proofs.Common.{◌≡◌, ℕ, ◌+◌, ◌&&◌, nat_le, max, ◌∙◌, arith}
use Rattle.std.proofs.lemmas.Bool.Decides.{nat_tests}
use Rattle.duty_events.specs.declared.limits.TheConstants.{DUTY_LIMIT}
use Rattle.desk_base.specs.Month as month
use Rattle.duty_events.specs.Minutes.{is_within, shared}
use Rattle.duty_events.proofs.CountLemmas.{minutes_where-same, minutes_where-within}
use Rattle.month_hours.specs.declared.plan.Plan.{Plan}
use Rattle.month_hours.specs.Plan.{end_of, is_planned_capped, planned, planned_capped}

pub planned-shared : (p : Plan) (m : ℕ) → planned p m ≡ shared p.report (end_of p) (month.first_minute m) (month.minutes_of m)
unfolding planned
planned-shared p m = minutes_where-within p.report (end_of p) (month.first_minute m) (month.minutes_of m)

within-later : (a b c t : ℕ) → (is_within a c t && nat_le b t) ≡ is_within (max a b) c t
within-later a b c t = grind (arith, nat_tests)

pub planned_capped-shared : (p : Plan) (m : ℕ)
    → planned_capped p m ≡ shared (max (p.report + p.duty) (p.report + DUTY_LIMIT)) (end_of p) (month.first_minute m) (month.minutes_of m)
unfolding planned_capped
planned_capped-shared p m =
    minutes_where-same (is_planned_capped p) (is_within (max (p.report + p.duty) (p.report + DUTY_LIMIT)) (end_of p)) (month.first_minute m) (month.minutes_of m)
    (λ t low high. within-later (p.report + p.duty) (p.report + DUTY_LIMIT) (end_of p) t)
    ∙ minutes_where-within (max (p.report + p.duty) (p.report + DUTY_LIMIT)) (end_of p) (month.first_minute m) (month.minutes_of m)
