-- What callers state.
use Rattle.std.specs.Prelude.{ℕ}
use Rattle.desk_model.specs.declared.command.Cmd.{Cmd}

-- a command, and the minute at which it was stated
pub record StatedValue : Type 0 where
  pub minute : ℕ
  pub cmd : Cmd

abbrev pub stated_of : ℕ → Cmd → StatedValue
stated_of minute cmd = record { minute = minute; cmd = cmd }
