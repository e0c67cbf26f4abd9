use Rattle.std.proofs.Common.{◌≡◌, ◌+◌, ◌*◌, ◌^◌, ◌<◌, ◌==◌, slice_index, ap, ◌∙◌, rules, arith}
use Rattle.slot_tree.specs.Words.{bits_before}
use Rattle.slot_tree.proofs.WordLemmas.{bit-in, bits-word, bits-whole}
use Rattle.slot_tree.proofs.filled_slots.FilledSlots.nth.Goals as goal

pub loop-w-init : goal.loop-w-init
unfolding bits_before
loop-w-init c = search rules

pub loop-w-preserved : goal.loop-w-preserved
loop-w-preserved c =
    let words = c.args.self.now.words in
    let w = c.loop-w.w in
    let fits : slice_index words w < 2 ^ 64 = omega arith in
    let next : 64 * (w + 1) ≡ 64 * w + 64 = omega arith in
    let more = ap (bits_before words) next ∙ bits-whole words w fits in
    omega (arith, more, c.loop-w.invariant, c.if-left-here.false)

pub returns-then-left-here : goal.returns-then-left-here
returns-then-left-here c =
    let words = c.args.self.now.words in
    let w = c.loop-w.w in
    let before = bits-word words w c.bit_as.result (omega arith) in
    (bit-in words w c.bit_as.result c.bit_as.ensures.within ∙ ap (λ b. b == 1) c.bit_as.ensures.set, omega (arith, before, c.bit_as.ensures.before, c.loop-w.invariant))

pub returns : goal.returns
returns c some =
    let whole : 64 * c.loop-w.w ≡ 1024 = omega arith in
    omega (arith, ap (bits_before c.args.self.now.words) whole, c.loop-w.invariant)
