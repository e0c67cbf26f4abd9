use Rattle.std.proofs.Common.{subst, arith}
use Rattle.slot_tree.specs.Search.{FindsFilled}
use Rattle.slot_tree.specs.Rest.{all_slots}
use Rattle.slot_tree.proofs.KeepLemmas.{size-few}
use Rattle.slot_tree.proofs.WordLemmas.{finds-filled}
use Rattle.slot_tree.proofs.slot_tree.SlotTree.nth.Goals as goal

pub returns : goal.returns
returns c =
    let slots = all_slots c.self.inside.height c.self.inside.slots.items in
    let few = size-few c.self.inside.height c.self.invariant.stand.low in
    subst (λ xs. FindsFilled xs c.args.position c.nth.result) c.self.view_is
    (finds-filled slots c.self.inside.filled.words c.args.position c.nth.result (omega (arith, few, c.self.invariant.stand.many)) c.self.invariant.told c.nth.ensures)
