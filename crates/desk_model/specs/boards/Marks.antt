-- Who is marked off: not to be called.
use Rattle.std.specs.Prelude.{ℕ, Bool, true, false, nat_eq, Option, None, Some, unwrap_or, if◌then◌else◌}
use Rattle.desk_model.specs.declared.command.Cmd.{Cmd}
use Rattle.desk_model.specs.declared.command.Cmd.TheVariants as cmd
use Rattle.desk_model.specs.histories.History.{History, said, last_of}

-- whether a command marks this person off: `off` does, and so do no answer and giving up a vacancy; who is enrolled is marked on
abbrev pub marks : ℕ → Cmd → Option Bool
marks p (cmd.Enrol person craft home quals) = if nat_eq person p then Some false else None
marks p (cmd.MarkOn person) = if nat_eq person p then Some false else None
marks p (cmd.MarkOff person) = if nat_eq person p then Some true else None
marks p (cmd.NoAnswer vac person) = if nat_eq person p then Some true else None
marks p (cmd.Drop person) = if nat_eq person p then Some true else None
marks p other = None

-- the person is marked off: the last accepted command that marks them says so
abbrev pub is_marked_off : History → ℕ → Bool
is_marked_off h p = unwrap_or (last_of (said (marks p)) h.entries) false
