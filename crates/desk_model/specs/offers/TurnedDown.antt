-- Who has turned down which vacancy.
use Rattle.std.specs.Prelude.{ℕ, Bool, ◌&&◌, nat_eq, Option, None, Some, is_some, if◌then◌else◌}
use Rattle.desk_model.specs.declared.command.Cmd.{Cmd}
use Rattle.desk_model.specs.declared.command.Cmd.TheVariants as cmd
use Rattle.desk_model.specs.histories.History.{History, Step, steps, said, first_of}
use Rattle.desk_model.specs.offers.Assigned.{is_assigned}

-- a command by which this person turns this vacancy down, after this history: they decline it or don't answer, or drop what
-- they have where it is assigned to them
abbrev pub turns_down : ℕ → ℕ → History → Cmd → Option ℕ
turns_down v p h (cmd.Decline vac person) = if nat_eq vac v && nat_eq person p then Some p else None
turns_down v p h (cmd.NoAnswer vac person) = if nat_eq vac v && nat_eq person p then Some p else None
turns_down v p h (cmd.Drop person) = if nat_eq person p && is_assigned h p v then Some p else None
turns_down v p h other = None

abbrev pub turned_by : ℕ → ℕ → Step → Option ℕ
turned_by v p s = said (turns_down v p s.before) s.entry

-- the person has turned the vacancy down
abbrev pub has_turned_down : History → ℕ → ℕ → Bool
has_turned_down h v p = is_some (first_of (turned_by v p) (steps h))
