use Rattle.std.proofs.Common.{◌≡◌, ◌+◌, ◌*◌, ◌/◌, ◌%◌, ◌^◌, ◌<◌, min, slice_index, ℕ, bit_and, sym, ap, ap₂, ◌∙◌, rules, arith}
use Rattle.std.specs.Int.RustNames.{count_ones}
use Rattle.std.proofs.lemmas.Nat.{and_mask, ones-le}
use Rattle.slot_tree.specs.Words.{bits_before}
use Rattle.slot_tree.proofs.WordLemmas.{bits-word, bits-whole, bits-behind}
use Rattle.slot_tree.proofs.filled_slots.FilledSlots.count_before.Goals as goal

pub loop-w-init : goal.loop-w-init
unfolding bits_before
loop-w-init c = search rules

pub loop-w-preserved : goal.loop-w-preserved
loop-w-preserved c =
    let words = c.args.self.now.words in
    let w = c.loop-w.w in
    let fits : slice_index words w < 2 ^ 64 = omega arith in
    let next : 64 * (w + 1) ≡ 64 * w + 64 = omega arith in
    let more = ap (bits_before words) next ∙ bits-whole words w fits in
    record {
      counted = omega (arith, more, c.loop-w.invariant.counted);
      few = omega (arith, ones-le 64 (slice_index words w) fits);
    }

pub returns-in-Some : goal.returns-in-Some
returns-in-Some c =
    let words = c.args.self.now.words in
    let at : ℕ = c.min-slot.result in
    let bits : ℕ = min (at % 64) 64 in
    let found = c.in-Some.ensures in
    let masked : count_ones (bit_and c.in-Some.word.now c.first_bits.result) ≡ count_ones (slice_index words (at / 64) % 2 ^ bits) =
    ap₂ (λ n m. count_ones (bit_and n m)) (found.lookup.3.1 0) c.first_bits.ensures ∙ ap count_ones (and_mask (slice_index words (at / 64)) bits) in
    let whole : 64 * (at / 64) + bits ≡ c.args.slot = omega (arith, found.lookup.3.0) in
    let start : c.loop-w.w ≡ at / 64 = omega arith in
    omega (arith, bits-word words (at / 64) bits (omega arith), masked, ap (bits_before words) whole, ap (λ w. bits_before words (64 * w)) start, c.loop-w.invariant.counted)

pub returns-in-None : goal.returns-in-None
returns-in-None c =
    let words = c.args.self.now.words in
    let none = c.in-None.ensures in
    let whole : 64 * c.loop-w.w ≡ 1024 = omega arith in
    c.loop-w.invariant.counted ∙ ap (bits_before words) whole ∙ sym (bits-behind words 1024 c.args.slot (omega arith) (omega arith))
