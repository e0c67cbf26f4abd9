use Rattle.std.proofs.Common.{◌≡◌, ◌+◌, ℕ, Option, Some, None, List, ◌++◌, length, Bor}
use Rattle.std.specs.Option.{option_copied}
use Rattle.desk_base.specs.Parts.{parts_by, parts_after}
use Rattle.desk_model.specs.statements.Chain.{IsChain}
use Rattle.desk_model.proofs.chain.Chain.read.Given as goal

-- the bytes that are left, and one more where a part is left
abbrev pub left : Option (Bor (List ℕ)) → ℕ
left None = 0
left (Some bytes) = length bytes.now + 1

-- the text's parts are the boards of the chain, and those that are left
abbrev pub invariant-loop-rest : goal.invariant-loop-rest
invariant-loop-rest l = record {
  chain : IsChain l.chain;
  parts : parts_by 43 l.fn.text ≡ l.chain ++ parts_after 43 (option_copied l.rest);
}

abbrev pub decreases-loop-rest : goal.decreases-loop-rest
decreases-loop-rest l = left l.rest
