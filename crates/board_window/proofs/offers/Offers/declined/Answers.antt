use Rattle.std.proofs.Common.{None, nat_eq, unwrap_or, sym, ap, ◌∙◌}
use Rattle.std.specs.Option.{option_copied}
use Rattle.indexmap.specs.IndexMap.{get, keys}
use Rattle.board_window.proofs.OfferLemmas.{declined-kept}
use Rattle.board_window.proofs.offers.Offers.declined.Goals as goal

pub returns-in_err-get : goal.returns-in_err-get
returns-in_err-get c h legal are =
    let kept = c.args.self.now.boards in
    let done = c.in_ok-vac.ensures.done in
    c.from_residual-in_err-get.ensures
    ∙ ap (λ found. unwrap_or (option_copied found) None) (sym c.in_err-get.was)
    ∙ declined-kept h c.args.entry.now c.in-Decline.vac c.in-Decline.person (get nat_eq kept) (keys kept) (option_copied c.get.result) done.0 (sym done.1 ∙ c.in-Decline.is)
    (c.what_was_never_made_is_not_on_offer.ensures h legal) are c.get.ensures.value

pub returns : goal.returns
returns c h legal are =
    let kept = c.args.self.now.boards in
    let done = c.in_ok-vac.ensures.done in
    ap (λ found. unwrap_or (option_copied found) None) (sym c.in_ok-get.was)
    ∙ declined-kept h c.args.entry.now c.in-Decline.vac c.in-Decline.person (get nat_eq kept) (keys kept) (option_copied c.get.result) done.0 (sym done.1 ∙ c.in-Decline.is)
    (c.what_was_never_made_is_not_on_offer.ensures h legal) are c.get.ensures.value
