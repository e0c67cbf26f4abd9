-- The one person whose bars, or whose boards, an entry may change.
use Rattle.std.specs.Prelude.{◌≡◌, ℕ, false, nat_eq, Option, None, Some, List}
use Rattle.desk_model.specs.declared.command.Cmd.{Cmd}
use Rattle.desk_model.specs.declared.command.Cmd.TheVariants as cmd
use Rattle.desk_model.specs.declared.reply.Reply.{Reply}
use Rattle.desk_model.specs.declared.reply.Reply.TheVariants as reply
use Rattle.desk_model.specs.statements.Job.{JobValue}
use Rattle.desk_model.specs.statements.Entry.{EntryValue}
use Rattle.desk_model.specs.histories.History.{History}
use Rattle.desk_model.specs.histories.Register.{vacancy_of}
use Rattle.desk_model.specs.boards.Boards.{is_on}
use Rattle.desk_model.specs.offers.Bars.{is_free}

-- the person whom a command names that may change something of theirs, and of nobody else
abbrev pub named : Cmd → Option ℕ
named (cmd.Enrol person craft home quals) = Some person
named (cmd.List person board) = Some person
named (cmd.Unlist person board) = Some person
named (cmd.MarkOff person) = Some person
named (cmd.MarkOn person) = Some person
named (cmd.Qualify person quals) = Some person
named (cmd.Past person event) = Some person
named (cmd.Happened person event) = Some person
named (cmd.Accept vac person) = Some person
named (cmd.Decline vac person) = Some person
named (cmd.NoAnswer vac person) = Some person
named (cmd.Withdraw vac person) = Some person
named (cmd.Drop person) = Some person
named other = None

-- and to whom a vacancy is offered
abbrev pub touched_by : Reply → Option ℕ → Option ℕ
touched_by (reply.Offered person board position) other = Some person
touched_by r other = other

abbrev pub touched : EntryValue → Option ℕ
touched e = touched_by e.reply (named e.stated.cmd)

-- the other history has the same vacancies, and all but this person on the same boards and barred from the same
pub record IsSameBut (p : ℕ) (h later : History) : Type 0 where
  pub vacancy : (v : ℕ) → vacancy_of later v ≡ vacancy_of h v
  pub on : (q : ℕ) (b : List ℕ) → nat_eq q p ≡ false → is_on later q b ≡ is_on h q b
  pub free : (m : ℕ) (job : JobValue) (q : ℕ) → nat_eq q p ≡ false → is_free later m job q ≡ is_free h m job q
