use Rattle.std.proofs.Common.{◌≡◌, sym, ap, ◌∙◌}
use Rattle.month_hours.specs.declared.month_share.MonthShare.{MonthShare}
use Rattle.month_hours.specs.Plan.{planned, planned_capped}
use Rattle.month_hours.proofs.PlanLemmas.{planned-shared, planned_capped-shared}
use Rattle.month_hours.proofs.month_share.MonthShare.of.Goals as goal

pub returns : goal.returns
returns c =
    let p = c.args.plan.now in
    let m = c.args.month in
    let minutes : c.shared.result ≡ planned p m =
    rw (c.shared.ensures.value, c.number-report.ensures.value, c.end-end.ensures, c.number-first.ensures.value, c.first.ensures, c.minutes-many.ensures.value) (sym (planned-shared p m)) in
    let limbo : c.shared-2.result ≡ planned_capped p m =
    rw (c.shared-2.ensures.value, c.capped_from.ensures, c.number-report.ensures.value, c.end-end.ensures, c.number-first.ensures.value, c.first.ensures, c.minutes-many.ensures.value) (sym (planned_capped-shared p m)) in
    let share : MonthShare = record { month = m; planned = c.shared.result; capped = c.shared-2.result } in
    ap (λ n. record share { planned = n }) minutes ∙ ap (λ n. record share { planned = planned p m; capped = n }) limbo
