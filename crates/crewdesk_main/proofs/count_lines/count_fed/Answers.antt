use Rattle.std.proofs.Common.{◌≡◌, ℕ, ◌+◌, ◌-◌, ◌≤◌, List, take, ap, ◌∙◌, arith}
use Rattle.std.specs.List.{count_by, slice_range}
use Rattle.std.proofs.lemmas.List.Sums.{sum_by-append}
use Rattle.std.proofs.lemmas.Simd.{length-chunk}
use Rattle.std.proofs.Math.Seq.{take-add}
use Rattle.memchr.specs.Find.{is_byte}
use Rattle.crewdesk_main.proofs.count_lines.count_fed.Goals as goal

-- those before a block's end are those before it and its own
counted-block : (text : List ℕ) (start end : ℕ) → start ≤ end → count_by (is_byte 10) (take end text) ≡ count_by (is_byte 10) (take start text) + count_by (is_byte 10) (slice_range text start end)
counted-block text start end behind =
    let whole : end ≡ start + (end - start) = omega (arith, behind) in
    ap (λ n. count_by (is_byte 10) (take n text)) whole ∙ ap (count_by (is_byte 10)) (take-add start (end - start) text) ∙ sum_by-append _ (take start text) (slice_range text start end)

pub loop-start-preserved : goal.loop-start-preserved
loop-start-preserved c =
    let more = counted-block c.args.text.now c.loop-start.start c.min-end.result (omega arith) in
    let long = length-chunk c.loop-start.start (c.min-end.result - c.loop-start.start) c.args.text.now (omega arith) in
    record {
      within = omega arith;
      counted = omega (arith, more, c.from-fed.ensures, c.count_in.ensures.count, c.loop-start.invariant.counted);
      few = omega (arith, c.from-fed.ensures, c.count_in.ensures.few, long, c.loop-start.invariant.few);
    }
