use Rattle.std.proofs.Common.{arith, ap, length, None}
use Rattle.std.proofs.lemmas.List.{length-set}
use Rattle.slot_tree.specs.Slots.{filled}
use Rattle.pool_board.proofs.SlotLemmas.{fewer-cleared}
use Rattle.pool_board.proofs.slots.move_last.Goals as goal

pub make_room-requires : goal.make_room-requires
make_room-requires c =
    let slots = c.args.tree.now in
    omega (arith, fewer-cleared slots c.args.slot c.requires.filled, c.requires.most, ap length c.clear.ensures, ap (λ xs. length (filled xs)) c.clear.ensures, length-set slots c.args.slot None)
