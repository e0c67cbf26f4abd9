use Rattle.std.proofs.Common.{sym, ◌∙◌, ap, length}
use Rattle.board_window.proofs.FrontLemmas.{adds-moves}
use Rattle.board_window.proofs.front.Front.add.Goals as goal

pub compare_exchange-found-requires : goal.compare_exchange-found-requires
compare_exchange-found-requires c =
    let h = c.requires.head in
    let offer = c.plain-offer.ensures in
    let pen = c.no_pen-pen.ensures in
    let again = c.again-seen.ensures in
    let book = ap (λ s. s.book) again ∙ (ap (λ f. f.wall.logbook.book) c.self.view_is ∙ sym (ap (λ w. w.book) h)) in
    let long = ap (λ s. length s.log) again ∙ (sym c.self.invariant.0 ∙ sym c.from-from.ensures) in
    let moves = adds-moves c.again-seen.result.log c.args.entry.now c.from-from.result long in (
      ap (λ w. w.tracked) h,
      book,
      pen.0 ∙ book,
      offer.0,
      rw (ap (λ w. w.key) h, pen.1, offer.1, offer.3) moves,
    )
