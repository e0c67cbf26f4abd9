use Rattle.std.proofs.Common.{◌≡◌, sym, ap, ◌∙◌, arith, length}
use Rattle.desk_model.specs.histories.History.{history_of}
use Rattle.desk_model.specs.boards.Boards.{order}
use Rattle.plain_core.proofs.KeptLemmas.{length-kept}
use Rattle.plain_core.proofs.kept.Kept.fill_members.Goals as goal
use Rattle.plain_core.proofs.kept.Kept.fill_members.Goals.{After-fill}

filled : (c : After-fill) → c.fill.new.members.items ≡ order (history_of c.args.self.now.opening c.args.self.now.entries.items) c.args.board.now
filled c = c.fill.ensures.order c.args.self.now.opening ∙ ap (λ es. order (history_of c.args.self.now.opening es) c.args.board.now) c.deref.ensures.value

pub returns-clause-order : goal.returns-clause-order
returns-clause-order c h kept =
    filled (goal.at.returns-clause-order c).After-fill ∙ ap (λ past. order past c.args.board.now) (sym kept.is)

pub returns-clause-few : goal.returns-clause-few
returns-clause-few c =
    omega (arith, c.fill.new.members.ok.0, ap length (filled (goal.at.returns-clause-few c).After-fill), length-kept c.args.self.now.opening c.args.self.now.entries.items c.args.board.now c.args.self.now.legal)
