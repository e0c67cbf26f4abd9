use Rattle.std.proofs.Common.{length, ap, arith}
use Rattle.desk_model.proofs.ChainLemmas.{chain_text-room}
use Rattle.desk_model.proofs.chain.Chain.write.Goals as goal

pub put_code-requires : goal.put_code-requires
put_code-requires c =
    let within = rw c.codes-code-items.ensures.value at c.loop-code-test.true in
    omega (arith, ap length c.loop-code.invariant, chain_text-room c.args.self.now c.loop-code.code-index c.codes-code-items.ensures.range within)
