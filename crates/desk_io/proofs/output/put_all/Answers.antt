use Rattle.std.proofs.Common.{◌∙◌, arith}
use Rattle.std.proofs.KnownBytes.{Appends-trans}
use Rattle.std.proofs.Math.Seq.{take-add}
use Rattle.std.proofs.lemmas.List.{take_rest}
use Rattle.desk_io.proofs.output.put_all.Goals as goal

pub loop-at-preserved : goal.loop-at-preserved
loop-at-preserved g c =
    let added = rw (take_rest c.args.bytes.now c.loop-at.at) at c.in-Took.ensures.adds in
    record {
      in_range = grind arith;
      given = rw (take-add c.loop-at.at c.in-Took.count c.args.bytes.now)
          (Appends-trans _ _ _ _ _ c.loop-at.invariant.given added);
      unfaulted = c.in-Took.ensures.no_fault (λ failed. cc) ∙ c.loop-at.invariant.unfaulted;
    }
