use Rattle.std.proofs.Common.{ap, ◌∙◌}
use Rattle.desk_register.specs.Boards.{board_under}
use Rattle.fast_core.proofs.desk_reads.DeskReadsReads.board.Goals as goal

pub returns : goal.returns
returns g c h tells = c.copied.ensures ∙ c.get.ensures ∙ ap (λ bs. board_under bs c.args.board.now) c.boards.ensures ∙ tells.people.register.boards.each c.args.board.now
