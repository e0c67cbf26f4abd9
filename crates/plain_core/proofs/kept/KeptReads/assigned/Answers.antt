use Rattle.std.proofs.Common.{fold, None, refl, sym, ap, ◌∙◌}
use Rattle.desk_model.specs.histories.History.{History}
use Rattle.desk_model.specs.offers.Assigned.{assigned}
use Rattle.desk_model.specs.laws.Comes.{assigned_after}
use Rattle.desk_model.proofs.AssignedLemmas.{assigned-comes}
use Rattle.plain_core.proofs.PrefixLemmas.{is-fold}
use Rattle.plain_core.proofs.kept.KeptReads.assigned.Goals as goal

pub returns : goal.returns
returns c h kept =
    let p = c.args.person in
    c.assigned.ensures
    ∙ ap (fold (λ was e. assigned_after p e was) None) (c.deref.ensures.value ∙ ap (λ (past : History). past.entries) (sym kept.is))
    ∙ sym (is-fold (λ past. assigned past p) (λ was e. assigned_after p e was) None (λ o. refl) (λ past e. assigned-comes past e p) h)
