use Rattle.std.proofs.Common.{fold, sym, ap, ◌∙◌}
use Rattle.desk_model.specs.declared.vac_state.VacState.TheVariants as state
use Rattle.desk_model.specs.histories.History.{History}
use Rattle.desk_model.specs.laws.Comes.{state_after}
use Rattle.desk_model.proofs.StateStepLemmas.{state_of-fold}
use Rattle.plain_core.proofs.kept.KeptReads.state.Goals as goal

pub returns : goal.returns
returns c h kept =
    c.state_of.ensures
    ∙ ap (fold (λ how e. state_after c.args.vac e how) state.Vacant) (c.deref.ensures.value ∙ ap (λ (past : History). past.entries) (sym kept.is))
    ∙ sym (state_of-fold h c.args.vac kept.legal)
