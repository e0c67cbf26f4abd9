use Rattle.std.proofs.Common.{◌≤◌}
use Rattle.desk_model.specs.histories.Legal.{last_moment}
use Rattle.desk_model.proofs.LegalLemmas.{each-step}
use Rattle.desk_model.proofs.MomentLemmas.{never-before}
use Rattle.desk_model.proofs.laws.entries.moments_never_fall.Goals as goal

pub returns : goal.returns
returns c h legal = each-step (λ s. last_moment s.before ≤ s.entry.moment) never-before h legal
