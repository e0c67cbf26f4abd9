use Rattle.desk_model.specs.laws.Denials.{IsUnfilledRightly}
use Rattle.desk_model.proofs.LegalLemmas.{each-step}
use Rattle.desk_model.proofs.VerdictLemmas.{unfilled-rightly}
use Rattle.desk_model.proofs.laws.calls.each_unfilled_vacancy_is_one.Goals as goal

pub returns : goal.returns
returns c h legal = each-step IsUnfilledRightly unfilled-rightly h legal
