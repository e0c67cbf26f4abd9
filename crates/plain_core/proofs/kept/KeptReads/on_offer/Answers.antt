use Rattle.std.proofs.Common.{sym, ap, ◌∙◌}
use Rattle.desk_model.specs.offers.Offers.{offered_to}
use Rattle.desk_model.specs.histories.History.{history_of, last_of}
use Rattle.desk_model.proofs.OnOfferLemmas.{while_open, on_offer-last}
use Rattle.plain_core.proofs.kept.KeptReads.on_offer.Goals as goal

pub returns : goal.returns
returns c h kept =
    let o = c.args.self.now.opening in
    let p = c.args.person in
    c.on_offer.ensures o
    ∙ ap (λ es. while_open (history_of o es) p (last_of (offered_to p) es)) c.deref.ensures.value
    ∙ ap (λ past. while_open past p (last_of (offered_to p) past.entries)) (sym kept.is)
    ∙ sym (on_offer-last h p kept.legal)
