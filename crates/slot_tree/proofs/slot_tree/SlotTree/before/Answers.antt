use Rattle.std.proofs.Common.{length, take, ap, ◌∙◌}
use Rattle.slot_tree.specs.Slots.{filled}
use Rattle.slot_tree.specs.Rest.{all_slots}
use Rattle.slot_tree.proofs.WordLemmas.{counts-filled}
use Rattle.slot_tree.proofs.slot_tree.SlotTree.before.Goals as goal

pub returns : goal.returns
returns c =
    let slots = all_slots c.self.inside.height c.self.inside.slots.items in
    c.count_before.ensures ∙ counts-filled slots c.self.inside.filled.words c.args.slot c.self.invariant.told ∙ ap (λ xs. length (filled (take c.args.slot xs))) c.self.view_is
