use Rattle.desk_model.specs.laws.Denials.{RunsAroundRightly}
use Rattle.desk_model.proofs.LegalLemmas.{each-step}
use Rattle.desk_model.proofs.VerdictLemmas.{runs-around-rightly}
use Rattle.desk_model.proofs.laws.calls.each_run_around_names_the_first.Goals as goal

pub returns : goal.returns
returns c h legal = each-step RunsAroundRightly runs-around-rightly h legal
