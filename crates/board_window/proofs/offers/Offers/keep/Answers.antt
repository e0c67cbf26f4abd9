use Rattle.std.proofs.Common.{nat_eq}
use Rattle.indexmap.specs.IndexMap.{get, keys}
use Rattle.board_window.proofs.OfferLemmas.{offers-after}
use Rattle.board_window.proofs.offers.Offers.keep.Goals as goal

pub returns : goal.returns
returns c h legal next are =
    let was = c.args.self.now.boards in
    let made = c.make.new.self.boards in
    let told = c.tell.new.self.boards in
    offers-after h c.args.entry.now (get nat_eq was) (get nat_eq made) (get nat_eq told) (keys was) (keys made) (keys told)
    (c.what_an_entry_makes_of_the_desk.ensures.comes h c.args.entry.now) (c.what_is_done_rests_on.ensures.done h c.args.entry.now next)
    (c.what_was_never_made_is_not_on_offer.ensures h legal)
    c.make.ensures.under c.make.ensures.keys c.tell.ensures.under c.tell.ensures.keys are
