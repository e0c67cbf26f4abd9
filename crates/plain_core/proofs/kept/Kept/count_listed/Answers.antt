use Rattle.std.proofs.Common.{length, ap, arith}
use Rattle.desk_answers.proofs.ChainLemmas.{length-chain-next}
use Rattle.plain_core.proofs.kept.Kept.count_listed.Goals as goal

pub loop-board-preserved : goal.loop-board-preserved
loop-board-preserved c =
    let so_far = c.loop-board.invariant in
    let filled = c.fill_members.ensures in
    record {
      most = omega (arith, so_far.most, c.len.ensures, filled.few);
      listed = λ h kept.
          omega (arith, so_far.listed h kept, c.len.ensures, c.fill_members.new.members.ok.0, ap length (filled.order h kept), length-chain-next h c.codes-board-items.result.now c.loop-board.board-index c.board-item.result c.loop-board-test.true c.board-item.is);
      room = record { events = so_far.room.events; members = omega (arith, so_far.room.members, filled.room) };
    }
