use Rattle.std.proofs.Common.{◌≡◌, take}
use Rattle.desk_model.specs.statements.Chain.{chain_text}
use Rattle.desk_model.proofs.chain.Chain.write.Given as goal

abbrev pub invariant-loop-code : goal.invariant-loop-code
invariant-loop-code l = l.text.items ≡ chain_text (take l.code-index l.self)
