use Rattle.std.proofs.Common.{◌≡◌, false, Option, None, Some, is_some, refl, sym, ap, ◌∙◌}
use Rattle.std.proofs.lemmas.Bool.{false≢true}
use Rattle.desk_model.specs.declared.link.Link.{Link}
use Rattle.desk_model.specs.boards.Boards.{chain}
use Rattle.desk_model.specs.answers.ExplainAnswer.{position_in}
use Rattle.fast_core.proofs.UnfilledLemmas.{out-of-chain}
use Rattle.fast_core.proofs.kept_desk.KeptDesk.may_be_called.Goals as goal

nowhere : (position : Option Link) → is_some position ≡ false → position ≡ None
nowhere None is = refl
nowhere (Some link) is = absurd (false≢true (sym is))

pub returns-else-is_some : goal.returns-else-is_some
returns-else-is_some c h tells asked is =
    let p = c.args.person in
    out-of-chain h c.args.moment c.args.job.now p (λ b q. (c.order_is_by_rank.ensures.by_rank h b).those q)
    (sym (c.position_in.ensures h tells ∙ ap (λ codes. position_in (chain h codes) p) c.chain.ensures) ∙ nowhere c.position_in.result (sym c.is_some.ensures ∙ is))
