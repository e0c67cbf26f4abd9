use Rattle.std.proofs.Common.{None, IfSome, unwrap_or, sym, ap, subst, ◌∙◌}
use Rattle.desk_base.specs.Minute.{IsInYears}
use Rattle.desk_model.specs.histories.History.{last_of}
use Rattle.desk_model.specs.offers.Offers.{offer_said}
use Rattle.plain_core.proofs.KeptLemmas.{made-kept}
use Rattle.plain_core.proofs.kept.KeptReads.offer.Goals as goal

pub returns-clause-made : goal.returns-clause-made
returns-clause-made c =
    let self = c.args.self.now in
    subst (λ found. IfSome found (λ offer. IsInYears offer.made))
    (sym (c.open_offer.ensures ∙ ap (λ es. unwrap_or (last_of (offer_said c.args.vac) es) None) c.deref.ensures.value))
    (made-kept c.a_legal_history_fits.ensures self.opening self.entries.items c.args.vac self.legal)
