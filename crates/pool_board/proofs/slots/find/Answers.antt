use Rattle.std.proofs.Common.{ap, arith, inl, inr}
use Rattle.std.proofs.lemmas.Bool.{cases_lt}
use Rattle.slot_tree.specs.Slots.{filled_end}
use Rattle.slot_tree.proofs.EndLemmas.{is_end, filled_end-few}
use Rattle.pool_board.specs.Members.{holds}
use Rattle.pool_board.proofs.SlotLemmas.{is_listed-none}
use Rattle.pool_board.proofs.slots.find.Goals as goal

pub returns-clause-only : goal.returns-clause-only
returns-clause-only c none =
    let tree = c.args.tree.now in
    is_listed-none c.args.person tree (λ s low. elim (cases_lt s (filled_end tree)) [
      | inl before ↦ c.loop-slot.invariant s (omega (arith, before, c.requires, c.free-slot-end.ensures, filled_end-few tree, c.loop-slot-test.false))
      | inr behind ↦ ap (holds c.args.person) ((is_end tree).after s behind)
    ])
