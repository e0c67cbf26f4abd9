use Rattle.std.specs.Prelude.{ℕ, ◌==◌, List, min, if◌then◌else◌}
use Rattle.std.specs.List.{list_any}
use Rattle.desk_io.specs.declared.taking.Taking.{Taking}
use Rattle.desk_io.specs.declared.taking.Taking.TheVariants.{Failed}
use Rattle.desk_io.specs.Faults.{one_more}
use Rattle.desk_io.specs.Taking.{full_answer, left_after, faults_after}

-- what a source in memory has left, how it gives it, and its calls and faults so far
pub record Supply : Type 0 where
  pub left : List ℕ
  pub piece : ℕ
  pub failing : List ℕ
  pub calls : ℕ
  pub faults : ℕ

-- a source that was not called yet
abbrev pub new_supply : List ℕ → ℕ → List ℕ → Supply
new_supply bytes piece failing =
    record { left = bytes; piece = piece; failing = failing; calls = 0; faults = 0 }

-- its answer to a piece of so many bytes: it fails at the listed calls, and else gives as many as it can
abbrev pub read_answer : Supply → ℕ → Taking
read_answer supply len =
    if list_any (λ number. number == one_more supply.calls) supply.failing then Failed
    else full_answer supply.left (min supply.piece len)

-- what it is after an answer
abbrev pub after_read : Supply → Taking → Supply
after_read supply answer = record supply {
  left = left_after answer supply.left;
  calls = one_more supply.calls;
  faults = faults_after answer supply.faults;
}
