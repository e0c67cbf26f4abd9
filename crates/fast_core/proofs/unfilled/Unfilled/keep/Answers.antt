use Rattle.std.proofs.Common.{[], refl, sym, subst, ◌∙◌}
use Rattle.desk_model.specs.histories.History.{with_entry}
use Rattle.fast_core.specs.Unfilled.{IsUnfilledBut}
use Rattle.fast_core.proofs.UnfilledLemmas.{found-unfilled, unfilled-stay}
use Rattle.fast_core.proofs.unfilled.Unfilled.keep.Goals as goal

pub returns-in-Some : goal.returns-in-Some
returns-in-Some c h legal next refused was =
    let e = c.args.entry.now in
    unfilled-stay h (with_entry h e) refl (c.a_refusal_changes_nothing.ensures h e refused) c.add.new.self
    (c.add.ensures h was (subst (λ m. IsUnfilledBut h c.in-Some.vac m []) (sym c.moment.ensures)
    (found-unfilled h e c.in-Some.vac (λ b p. (c.order_is_by_rank.ensures.by_rank h b).those p) next (sym c.found_by.ensures ∙ c.in-Some.is))))

pub returns-in_default : goal.returns-in_default
returns-in_default c h legal next refused was =
    let e = c.args.entry.now in
    unfilled-stay h (with_entry h e) refl (c.a_refusal_changes_nothing.ensures h e refused) c.args.self.now was
