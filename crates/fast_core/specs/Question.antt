-- Commands that only ask.
use Rattle.std.specs.Prelude.{⊤}
use Rattle.desk_model.specs.declared.command.Cmd.{Cmd}
use Rattle.desk_model.specs.declared.command.Cmd.TheVariants as cmd

-- the command asks for somebody's hours, who stands at a position of a board, what bars somebody, or how a vacancy stands
abbrev pub IsQuestion : Cmd → Type 0
IsQuestion (cmd.Hours person month) = ⊤
IsQuestion (cmd.At board position) = ⊤
IsQuestion (cmd.Explain vac person) = ⊤
IsQuestion (cmd.Vac vac) = ⊤
IsQuestion other = ⊥
