use Rattle.std.proofs.Common.{◌≡◌, ◌-◌, ◌*◌, ◌^◌, inl, inr, min, set, sym, ap, ◌∙◌, arith}
use Rattle.std.proofs.lemmas.Bool.{cases_lt, le-ltb}
use Rattle.std.proofs.lemmas.List.{length-set}
use Rattle.slot_tree.specs.Words.{has_bit}
use Rattle.slot_tree.proofs.WordLemmas.{front-written, no-bit}
use Rattle.slot_tree.proofs.filled_slots.FilledSlots.mark_front.Goals as goal

pub loop-w-preserved : goal.loop-w-preserved
loop-w-preserved c =
    let word : c.first_bits.result ≡ 2 ^ min (c.args.many - 64 * c.loop-w.w) 64 - 1 = c.first_bits.ensures ∙ ap (λ n. 2 ^ min n 64 - 1) c.saturating_sub.ensures in
    record {
      long = length-set c.loop-w.self.words c.loop-w.w c.first_bits.result ∙ c.loop-w.invariant.long;
      front = λ i low. ap (λ n. has_bit (set c.loop-w.self.words c.loop-w.w n) i) word
          ∙ front-written c.loop-w.self.words c.args.many c.loop-w.w (omega arith) c.loop-w.invariant.front i (omega (arith, low));
    }

pub returns : goal.returns
returns c i = elim (cases_lt i (64 * c.loop-w.w)) [
  | inl within ↦ c.loop-w.invariant.front i within
  | inr behind ↦ no-bit c.loop-w.self.words i (omega (arith, behind)) ∙ sym (le-ltb i c.args.many (omega (arith, behind)))
]
