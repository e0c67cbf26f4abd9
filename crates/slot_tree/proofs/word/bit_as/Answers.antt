use Rattle.std.proofs.Common.{◌≡◌, ℕ, ◌+◌, ◌-◌, ◌*◌, ◌/◌, ◌%◌, ◌^◌, ◌<◌, ap, arith}
use Rattle.std.specs.Int.RustNames.{count_ones}
use Rattle.std.proofs.lemmas.Nat.{shr-shr, one_shl, pow_below}
use Rattle.slot_tree.proofs.LeastLemmas.{pow_twice}
use Rattle.slot_tree.proofs.WordLemmas.{ones-split, ones-lower}
use Rattle.slot_tree.proofs.word.bit_as.Goals as goal

pub loop-t-preserved : goal.loop-t-preserved
loop-t-preserved c =
    let t : ℕ = c.loop-t.t - 1 in
    let half : 1 * 2 ^ t % 2 ^ 32 ≡ 2 ^ t = one_shl t 32 (omega arith) in
    let short : 2 ^ t < 64 = pow_below t 6 (omega arith) in
    let lower = ones-lower (c.args.word / 2 ^ c.loop-t.at) (2 ^ t) short in
    record {
      within = omega (arith, pow_twice t c.loop-t.t (omega arith));
      passed = c.loop-t.invariant.passed;
      ahead = rw (half, lower) at c.if-lower-left.false;
    }

pub loop-t-preserved-then-lower-left : goal.loop-t-preserved-then-lower-left
loop-t-preserved-then-lower-left c =
    let word = c.args.word in
    let at = c.loop-t.at in
    let t : ℕ = c.loop-t.t - 1 in
    let half : 1 * 2 ^ t % 2 ^ 32 ≡ 2 ^ t = one_shl t 32 (omega arith) in
    let short : 2 ^ t < 64 = pow_below t 6 (omega arith) in
    let lower = ones-lower (word / 2 ^ at) (2 ^ t) short in
    let twice = pow_twice t c.loop-t.t (omega arith) in
    let both : count_ones (word / 2 ^ at % 2 ^ (2 ^ c.loop-t.t)) ≡ count_ones (word / 2 ^ at % 2 ^ (2 ^ t + 2 ^ t)) = ap (λ k. count_ones (word / 2 ^ at % 2 ^ k)) (omega (arith, twice)) in
    let upper = ap (λ n. count_ones (n % 2 ^ (2 ^ t))) (shr-shr word at (2 ^ t)) in
    let few = rw (half, lower) at c.if-lower-left.true in
    rw (half, lower) record {
      within = omega (arith, twice);
      passed = omega (arith, ones-split word at (2 ^ t), few, c.loop-t.invariant.passed);
      ahead = omega (arith, ones-split (word / 2 ^ at) (2 ^ t) (2 ^ t), both, upper, few, c.loop-t.invariant.ahead);
    }
