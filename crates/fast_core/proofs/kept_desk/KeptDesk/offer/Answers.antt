use Rattle.std.proofs.Common.{◌+◌, sym, ap, subst, ◌∙◌}
use Rattle.std.specs.List.{slice_get}
use Rattle.std.specs.Option.{option_copied}
use Rattle.desk_register.specs.Boards.{board_codes}
use Rattle.desk_model.specs.histories.Register.{boards}
use Rattle.desk_model.specs.offers.Offers.{open_offer}
use Rattle.desk_state.specs.OpenOffers.{IsOffer}
use Rattle.fast_core.proofs.OfferLemmas.{offer-is, made-some}
use Rattle.fast_core.proofs.kept_desk.KeptDesk.offer.Goals as goal

pub returns-clause-answer : goal.returns-clause-answer
returns-clause-answer c h tells =
    let answer = c.answer.ensures.value ∙ ap (λ o. o.answer) tells.opening in
    offer-is h c.args.vac h.opening.answer c.in_ok-kept.kept c.in_ok-board.board.now c.before-2.result c.in_ok-made.made (c.a_legal_history_fits.ensures h tells.legal)
    (subst (λ k. IsOffer (boards h) h.opening.answer k (open_offer h c.args.vac)) c.in_ok-kept.was (c.offer.ensures h tells.offers))
    (sym (ap option_copied c.in_ok-board.was) ∙ c.code.ensures ∙ ap (λ bs. slice_get (board_codes bs) c.in_ok-kept.kept.board) c.boards.ensures
    ∙ ap (λ cs. slice_get cs c.in_ok-kept.kept.board) tells.people.register.boards.order)
    (λ made years is. c.before-2.ensures.is made years (is ∙ ap (λ n. made + n) (sym answer)))
    c.in_ok-made.was

pub returns-in_err-made-clause-answer : goal.returns-in_err-made-clause-answer
returns-in_err-made-clause-answer c h tells =
    let answer = c.answer.ensures.value ∙ ap (λ o. o.answer) tells.opening in
    absurd (made-some h c.args.vac h.opening.answer c.in_ok-kept.kept c.before-2.result (c.a_legal_history_fits.ensures h tells.legal)
    (subst (λ k. IsOffer (boards h) h.opening.answer k (open_offer h c.args.vac)) c.in_ok-kept.was (c.offer.ensures h tells.offers))
    (λ made years is. c.before-2.ensures.is made years (is ∙ ap (λ n. made + n) (sym answer)))
    c.in_err-made.was)
