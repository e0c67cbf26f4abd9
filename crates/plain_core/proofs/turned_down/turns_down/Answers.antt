use Rattle.std.proofs.Common.{rules, ap, ◌∙◌}
use Rattle.desk_model.specs.offers.Offers.{is_of}
use Rattle.desk_model.proofs.AssignedLemmas.{assigned-has}
use Rattle.plain_core.proofs.turned_down.turns_down.Goals as goal

pub returns-then-eq : goal.returns-then-eq
returns-then-eq c h was =
    let has = c.is_of.ensures ∙ ap (is_of c.args.vac) was ∙ assigned-has h c.args.person c.args.vac in search rules
