use Rattle.std.proofs.Common.{◌-◌, None, length, sym, ap, ◌∙◌}
use Rattle.std.specs.Option.{option_copied}
use Rattle.std.specs.List.{slice_get}
use Rattle.board_window.specs.Shows.{seen_at}
use Rattle.board_window.proofs.SpotLemmas.{spot-found, spot-none}
use Rattle.board_window.proofs.boards.Boards.look.Goals as goal

pub returns-in_default : goal.returns-in_default
returns-in_default c h are = spot-none h c.args.self.now c.args.board c.args.position are (sym c.find.ensures ∙ ap option_copied c.in_default.is)

pub returns-in-Some-at : goal.returns-in-Some-at
returns-in-Some-at c h are =
    let x = c.in-Some.shown.now in
    let position = c.saturating_sub.ensures ∙ ap (λ n. n - 1) c.from.ensures in
    ap (seen_at (length x.members)) (sym c.in-Some-at.is ∙ c.at.ensures ∙ ap (slice_get x.members) position)
    ∙ spot-found h c.args.self.now c.args.board c.args.position x are (sym c.find.ensures ∙ ap option_copied c.in-Some.is)

pub returns-in-None : goal.returns-in-None
returns-in-None c h are =
    let x = c.in-Some.shown.now in
    let position = c.saturating_sub.ensures ∙ ap (λ n. n - 1) c.from.ensures in
    ap (λ n. seen_at n None) c.count.ensures.count
    ∙ ap (seen_at (length x.members)) (sym c.in-None.is ∙ c.at.ensures ∙ ap (slice_get x.members) position)
    ∙ spot-found h c.args.self.now c.args.board c.args.position x are (sym c.find.ensures ∙ ap option_copied c.in-Some.is)
