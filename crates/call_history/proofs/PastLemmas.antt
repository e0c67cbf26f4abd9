-- Entries of which only the last has bytes.
use Rattle.std.proofs.Common.{ℕ, zero, suc, ◌<◌, Some, refl, arith}
use Rattle.call_history.specs.declared.node.Node.{Node, out-Node}
use Rattle.call_history.specs.Past.{all_of, IsLast}

-- where there is one, it is the last
pub last-is : (n : ℕ) (node : Node) → 0 < n → IsLast (all_of n (Some node)) (out-Node node).entry
last-is zero node some = absurd (omega (arith, some))
last-is (suc n) node some = record { before = all_of n (out-Node node).before.value; are = refl }
