use Rattle.desk_model.specs.laws.Denials.{DeniesRightly}
use Rattle.desk_model.proofs.LegalLemmas.{each-step}
use Rattle.desk_model.proofs.VerdictLemmas.{denies-rightly}
use Rattle.desk_model.proofs.laws.calls.each_denial_names_the_first_bar.Goals as goal

pub returns : goal.returns
returns c h legal = each-step DeniesRightly (λ past e fine is. denies-rightly past e is) h legal
