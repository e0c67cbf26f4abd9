use Rattle.std.proofs.Common.{sym, ap, subst, ◌∙◌, arith}
use Rattle.duty_events.specs.Tours.{is_in_tour}
use Rattle.tour_build.specs.LastTour.{tour_count}
use Rattle.tour_build.specs.Runs.{Runs}
use Rattle.tour_build.proofs.SumLemmas.{sum-at}
use Rattle.tour_build.proofs.running_tour.RunningTour.used_in.Goals as goal

pub returns : goal.returns
returns c es runs =
    let kept = subst (λ v. Runs v es) (sym c.self.view_is) runs in
    let from = ap (λ v. v.window.first) c.self.view_is in
    let many = ap (λ v. v.window.months) c.self.view_is in
    c.of.ensures ∙ sum-at c.self.inside.window (tour_count is_in_tour es) _ kept.months c.args.month (omega (arith, from, c.requires.from)) (omega (arith, from, many, c.requires.to))
