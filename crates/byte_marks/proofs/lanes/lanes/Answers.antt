use Rattle.std.proofs.Common.{◌==◌, w8, arith}
use Rattle.std.proofs.lemmas.Simd.{bitmask_splat, length-chunk}
use Rattle.std.specs.Simd.Lanes.{chunk}
use Rattle.byte_marks.proofs.lanes.lanes.Goals as goal

pub returns : goal.returns
returns c = bitmask_splat w8 (λ a b. a == b) (chunk c.args.at 16 c.args.text.now) 16 c.args.mark (length-chunk c.args.at 16 c.args.text.now c.requires) (omega arith)
