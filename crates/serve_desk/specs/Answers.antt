-- What one answer of a line, and what follows it, make of the line and of the seat.
use Rattle.std.specs.Prelude.{◌≡◌, ℕ, List, map}
use Rattle.std.specs.declared.option.Option.{Option}
use Rattle.desk_model.specs.statements.Entry.{EntryValue}
use Rattle.desk_model.specs.statements.Opening.{OpeningValue}
use Rattle.turn_gate.specs.Seats.{SeatValue}
use Rattle.caller_lines.specs.Given.{Given}
use Rattle.caller_lines.specs.Hears.{ReadsAs}
use Rattle.caller_lines.specs.LineCalls.{LineCall, PutText}
use Rattle.caller_lines.specs.declared.said.Said.{Said}
use Rattle.serve_desk.specs.declared.why.Why.{Why}
use Rattle.serve_desk.specs.Told.{with_all, LineValue}
use Rattle.serve_desk.specs.Follows.{Puts, Follows}
use Rattle.serve_desk.specs.Session.{asked_then_put}
use Rattle.serve_desk.specs.Seats.{Made}

-- a text was put on a line, where that tells what was put, or it wasn't
pub record PutsOn (text : List ℕ) (then : Option Why) (before now : Option (List LineCall)) (ends : Option Why) : Type 0 where
  pub texts : List (List ℕ)
  pub puts : Puts text then texts ends
  pub told : now ≡ with_all before (map PutText texts)

-- what was said of an answer of the line was replied to: whatever it gave that is said so, this follows
pub record Replies (o : OpeningValue) (heard left : ℕ) (before now : Option (List LineCall)) (s : Said) (seat after : SeatValue) (ends : Option Why) : Type 0 where
  pub entries : List EntryValue
  pub texts : List (List ℕ)
  pub follows : (gave : Given) → ReadsAs gave s → Follows heard left gave entries texts ends
  pub told : now ≡ with_all before (map PutText texts)
  pub made : Made o seat after entries

-- a line and a seat after one answer of the line and what followed it: the texts were put behind the answer
pub record Answers (o : OpeningValue) (heard left : ℕ) (line later : LineValue) (seat after : SeatValue) (ends : Option Why) : Type 0 where
  pub gave : Given
  pub entries : List EntryValue
  pub texts : List (List ℕ)
  pub follows : Follows heard left gave entries texts ends
  pub told : later.calls ≡ with_all line.calls (asked_then_put gave texts)
  pub made : Made o seat after entries
