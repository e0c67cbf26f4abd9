use Rattle.std.proofs.Common.{◌≡◌, ◌+◌, ap, ◌∙◌, arith}
use Rattle.desk_base.proofs.MonthLemmas.{first_day-next}
use Rattle.month_hours.specs.declared.month_share.MonthShare.{MonthShare}
use Rattle.month_hours.specs.Plan.{planned, planned_capped}
use Rattle.month_hours.proofs.PlanLemmas.{planned-shared, planned_capped-shared}
use Rattle.month_hours.proofs.month_share.MonthShare.whole.Goals as goal

pub returns : goal.returns
returns c =
    let p = c.args.plan.now in
    let m = c.args.month in
    let minutes : p.duty + p.limbo ≡ planned p m = omega (arith, c.requires.begun, c.requires.over, planned-shared p m, first_day-next m) in
    let limbo : c.saturating_sub.result ≡ planned_capped p m = omega (arith, c.requires.begun, c.requires.over, planned_capped-shared p m, first_day-next m, c.saturating_sub-below.ensures, c.saturating_sub.ensures) in
    let share : MonthShare = record { month = m; planned = p.duty + p.limbo; capped = c.saturating_sub.result } in
    ap (λ n. record share { planned = n }) minutes ∙ ap (λ n. record share { planned = planned p m; capped = n }) limbo
