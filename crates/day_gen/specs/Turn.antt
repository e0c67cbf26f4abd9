-- A generator's turns.
use Rattle.desk_model.specs.declared.command.Cmd.{Cmd}
use Rattle.desk_model.specs.statements.Statement.{StatedValue, stated_of}
use Rattle.day_gen.specs.declared.course.Course.{Course}

-- how far the generator has come by then, and the command that it gives
pub record Turn : Type 0 where
  pub course : Course
  pub cmd : Cmd

abbrev pub turn_of : Course → Cmd → Turn
turn_of course cmd = record { course = course; cmd = cmd }

-- the command is stated at the generator's minute, as the turn leaves it
abbrev pub stated_by : Turn → StatedValue
stated_by turn = stated_of turn.course.minute turn.cmd
