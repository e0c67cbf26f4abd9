use Rattle.std.proofs.Common.{◌≤◌, ap, ◌∙◌, arith}
use Rattle.std.proofs.lemmas.Bool.Decides.{nat_tests}
use Rattle.desk_base.specs.Window.{end_of}
use Rattle.month_hours.specs.Plan.{end_of as end_of_plan}
use Rattle.fast_core.proofs.job_asked.may_be_asked.Goals as goal

pub returns-then-le-2-clause-asked : goal.returns-then-le-2-clause-asked
returns-then-le-2-clause-asked c h p legal is asked =
    let job = c.args.asked.now.job.now in
    let ends : end_of_plan c.args.asked.now.plan ≤ end_of c.args.clock.now.window =
    rw (asked.plan, is.window) (c.each_vacancy_ends_in_the_window.ensures h legal asked.asked.made.0 job asked.asked.made.1) in
    grind (
      arith,
      nat_tests,
      c.end.ensures ∙ ap end_of_plan c.plan-plan.ensures,
      c.number.ensures.value ∙ c.end-then-le-2.ensures ∙ ap end_of c.window.ensures,
      ends,
    )
