-- What is said of bytes that were taken whole.
use Rattle.std.proofs.Common.{◌≡◌, ℕ, ◌≤◌, Option, None, Some, List, length, subst}
use Rattle.desk_io.specs.Input.{TookAll}
use Rattle.day_replay.specs.Ends.{WasRead}

pub WasRead-TookAll : (limit : ℕ) (before after : Option (List ℕ)) (bytes : List ℕ) (P : List ℕ → Type 0) → TookAll before after bytes → length bytes ≤ limit → P bytes → WasRead limit before after P
WasRead-TookAll limit None after bytes P took within p = tt
WasRead-TookAll limit (Some left) after bytes P took within p =
    (subst (λ b. length b ≤ limit) took.0 within, took.1, subst P took.0 p)

-- what was taken whole is what the source told
pub TookAll-told : (before after : Option (List ℕ)) (bytes told : List ℕ) → TookAll before after bytes → before ≡ Some told → told ≡ bytes
TookAll-told None after bytes told took e = cc
TookAll-told (Some left) after bytes told took e = let same = took.0 in cc
