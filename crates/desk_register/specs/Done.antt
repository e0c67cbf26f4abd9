-- Entries whose command was done.
use Rattle.std.specs.Prelude.{◌≡◌, true}
use Rattle.desk_model.specs.declared.command.Cmd.{Cmd}
use Rattle.desk_model.specs.statements.Entry.{EntryValue}
use Rattle.desk_model.specs.histories.History.{is_done}

-- the entry is of this command, which was done
pub record IsDone (e : EntryValue) (c : Cmd) : Type 0 where
  pub done : is_done e.reply ≡ true
  pub of : e.stated.cmd ≡ c
