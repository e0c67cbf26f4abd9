use Rattle.std.proofs.Common.{◌==◌, ◌/◌, ◌%◌, slice_index, w64, sym, ap, ◌∙◌, arith}
use Rattle.std.specs.Int.{bit_at}
use Rattle.std.proofs.lemmas.Nat.Bits.{bit_at_set_same, bit_at_set_other, bit_at_clear_same, bit_at_clear_other}
use Rattle.slot_tree.proofs.WordLemmas.{written-this, written-others}
use Rattle.slot_tree.proofs.filled_slots.FilledSlots.mark.Goals as goal
use Rattle.slot_tree.proofs.filled_slots.FilledSlots.mark.Goals.{then-filled, else-filled}

pub returns-clause-this : goal.returns-clause-this
returns-clause-this c =
    let slot = c.args.slot in
    let word = slice_index c.args.self.now.words (slot / 64) in
    written-this c.args.self.now.words slot c.if-filled.self (omega arith) ∙ elim c.if-filled.branch [
      | then-filled w ↦ ap (λ n. bit_at n (slot % 64) == 1) w.self-is ∙ ap (λ b. b == 1) (bit_at_set_same w64 word (slot % 64) (omega arith)) ∙ sym w.if-filled.true
      | else-filled w ↦ ap (λ n. bit_at n (slot % 64) == 1) w.self-is ∙ ap (λ b. b == 1) (bit_at_clear_same w64 word (slot % 64) (omega arith)) ∙ sym w.if-filled.false
    ]

pub returns-clause-others : goal.returns-clause-others
returns-clause-others c i apart =
    let slot = c.args.slot in
    let word = slice_index c.args.self.now.words (slot / 64) in
    written-others c.args.self.now.words slot c.if-filled.self i (omega arith) apart (λ k low other. elim c.if-filled.branch [
      | then-filled w ↦ ap (λ n. bit_at n k) w.self-is ∙ bit_at_set_other w64 word (slot % 64) (omega arith) k other
      | else-filled w ↦ ap (λ n. bit_at n k) w.self-is ∙ bit_at_clear_other w64 word (slot % 64) (omega arith) k low other
    ])
