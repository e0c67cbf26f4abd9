-- The day that is made from a number. The desk's own rule.
use Rattle.std.specs.Prelude.{ℕ, zero, suc, Option, None, Some, length, slice_get}
use Rattle.desk_base.specs.Month.{first_minute}
use Rattle.desk_base.specs.Window.{window_of}
use Rattle.desk_model.specs.declared.command.Cmd.{Cmd}
use Rattle.desk_model.specs.declared.edition.Edition.{Edition}
use Rattle.desk_model.specs.statements.Opening.{OpeningValue, opening_of}
use Rattle.desk_model.specs.statements.Job.{JobValue}
use Rattle.desk_model.specs.statements.Statement.{StatedValue}
use Rattle.desk_model.specs.histories.History.{History, opened, with_entry}
use Rattle.desk_model.specs.histories.Legal.{next}
use Rattle.day_gen.specs.declared.numbers.TheConstants.{FIRST_MONTH, MONTHS, ANSWER}
use Rattle.day_gen.specs.declared.course.Course.{Course}
use Rattle.day_gen.specs.declared.due.Due.{Due}
use Rattle.day_gen.specs.SetUp.{set_up}
use Rattle.day_gen.specs.Turn.{Turn, turn_of, stated_by}
use Rattle.day_gen.specs.Due.{last_entry, due_by, job_due}
use Rattle.day_gen.specs.Rules.{turn_by}

-- its first minute, which is that of January 2024
abbrev pub start : ℕ
start = first_minute FIRST_MONTH

-- how its desk is opened
abbrev pub day_opening : Edition → OpeningValue
day_opening edition = opening_of start (window_of FIRST_MONTH MONTHS) ANSWER edition

-- the generator before its first command
abbrev pub first_course : ℕ → Course
first_course number = record { number = number; minute = start; made = 0 }

-- how far the generator has come, and the desk's history so far
pub record Day : Type 0 where
  pub course : Course
  pub history : History

abbrev pub day_of : Course → History → Day
day_of course history = record { course = course; history = history }

-- a turn: a command that sets the desk up as long as there is one, and then what the rules give
abbrev pub turn_at : Edition → Course → Option Cmd → Option JobValue → Due → Turn
turn_at edition c (Some cmd) job due = turn_of c cmd
turn_at edition c None job due = turn_by edition c job due

-- what there is to do on a day
abbrev pub due_on : Day → Due
due_on day = due_by (last_entry day.history)

-- the command that sets the desk up and comes next
abbrev pub set_up_next : Day → Option Cmd
set_up_next day = slice_get set_up (length day.history.entries)

abbrev pub next_turn : Edition → Day → Turn
next_turn edition day = turn_at edition day.course (set_up_next day) (job_due day.history (due_on day)) (due_on day)

-- the desk answers what caller 0 states there
abbrev pub with_turn : Day → Turn → Day
with_turn day turn = day_of turn.course (with_entry day.history (next day.history 0 (stated_by turn)))

-- the day when so many commands were given
unfoldable pub day_after : Edition → ℕ → ℕ → Day
day_after edition number zero = day_of (first_course number) (opened (day_opening edition))
day_after edition number (suc n) = with_turn (day_after edition number n) (next_turn edition (day_after edition number n))

-- the history of the day that is made from a number, with so many entries
unfoldable pub generated_day : Edition → ℕ → ℕ → History
generated_day edition number n = (day_after edition number n).history

-- what is stated next, when so many commands were given
unfoldable pub day_statement : Edition → ℕ → ℕ → StatedValue
day_statement edition number n = stated_by (next_turn edition (day_after edition number n))
