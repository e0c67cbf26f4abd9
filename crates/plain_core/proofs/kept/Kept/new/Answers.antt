use Rattle.std.proofs.Common.{sym, subst}
use Rattle.desk_model.specs.histories.History.{history_of, opened}
use Rattle.desk_model.specs.histories.Legal.{IsLegal}
use Rattle.desk_model.proofs.LegalLemmas.{legal-opened}
use Rattle.plain_core.specs.Kept.{IsKept}
use Rattle.plain_core.proofs.KeptLemmas.{kept-opened}
use Rattle.plain_core.proofs.kept.Kept.new.Goals as goal

pub invariant_of-result : goal.invariant_of-result
invariant_of-result c = record {
  legal = subst (λ es. ∥ IsLegal (history_of c.args.opening es) ∥₁) (sym c.requires) ∣ legal-opened c.args.opening c.answer.ensures.range ∣₁;
}

pub returns-clause-kept : goal.returns-clause-kept
returns-clause-kept c = subst (λ es. IsKept c.args.opening es (opened c.args.opening)) (sym c.requires) (kept-opened c.args.opening c.answer.ensures.range)
