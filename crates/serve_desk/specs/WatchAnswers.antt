-- What one answer of a line where looks are heard, and what follows it, make of the line, of the seat and of the view.
use Rattle.std.specs.Prelude.{◌≡◌, ℕ, List, [], ◌∷◌, ◌++◌, length, map}
use Rattle.std.specs.declared.option.Option.{Option}
use mathlib.Core.List.{IsPrefix}
use Rattle.board_window.specs.Shows.{spot_of}
use Rattle.board_window.specs.Walls.{FrontValue}
use Rattle.board_window.specs.declared.spot.Spot.{Spot}
use Rattle.caller_lines.specs.Given.{Given}
use Rattle.caller_lines.specs.LineCalls.{LineCall, PutText}
use Rattle.caller_lines.specs.Requests.{ReadsRequest}
use Rattle.caller_lines.specs.declared.request.Request.{Request}
use Rattle.desk_model.specs.statements.Entry.{EntryValue}
use Rattle.desk_model.specs.histories.History.{history_of}
use Rattle.desk_model.specs.statements.Opening.{OpeningValue}
use Rattle.desk_shared.specs.Shown.{IsViewOf}
use Rattle.turn_gate.specs.Seats.{GateValue, SeatValue, IsSeatOf}
use Rattle.turn_gate.specs.Told.{own}
use Rattle.serve_desk.specs.declared.why.Why.{Why}
use Rattle.serve_desk.specs.Seats.{Made}
use Rattle.serve_desk.specs.Session.{asked_then_put}
use Rattle.serve_desk.specs.Told.{with_all, LineValue}
use Rattle.serve_desk.specs.WatchFollows.{Act, Looked, PutsAll, FollowsWatched, shown, not_shown, TellsFault}

-- the seat and the view are of this desk, and know what its book began with
pub record IsCallerOf (desk : GateValue) (seat : SeatValue) (view : FrontValue) : Type 0 where
  pub sits : IsSeatOf desk seat
  pub knows : IsPrefix desk.start.book.entries seat.known
  pub looks : IsViewOf desk view
  pub saw : IsPrefix desk.start.book.entries view.entries

-- what the caller knew and knows now, of whose calls in between, one after another, these are the entries: each is the last of what was
-- known after it, and of theirs there were just those that they knew before it
abbrev pub KnowsByCalls : ℕ → List EntryValue → List EntryValue → List EntryValue → Type 0
KnowsByCalls number known [] now = now ≡ known
KnowsByCalls number known (e ∷ es) now =
    (before : List EntryValue) × (IsPrefix known before × ((own before number ≡ own known number)
    × ((own (before ++ e ∷ []) number ≡ own known number ++ e ∷ []) × KnowsByCalls number (before ++ e ∷ []) es now)))

-- what an answer makes of what a view has seen and of what the caller knows, by what it came to
pub data Sight (o : OpeningValue) (number : ℕ) (seen later known now : List EntryValue) : List Act → Type 0 where
  by_calls : (es : List EntryValue) → IsPrefix seen later → KnowsByCalls number known es now → IsPrefix now later → Sight o number seen later known now (shown es)
  by_calls_behind : (es : List EntryValue) → IsPrefix seen later → KnowsByCalls number known es now → Sight o number seen later known now (not_shown es)
  by_a_look : (board : List ℕ) (position n : ℕ) (what : Spot) → IsPrefix seen later → now ≡ known → n ≡ length later → what ≡ spot_of (history_of o later) board position
      → Sight o number seen later known now (Looked n board position what ∷ [])

-- texts were put on a line, one behind the other, where that tells what was put
pub record PutsAllOn (all : List (List ℕ)) (before now : Option (List LineCall)) (ends : Option Why) : Type 0 where
  pub texts : List (List ℕ)
  pub puts : PutsAll all texts ends
  pub told : now ≡ with_all before (map PutText texts)

-- a line was told that the journal had a fault, where it took that
pub record PutsFault (before now : Option (List LineCall)) : Type 0 where
  pub texts : List (List ℕ)
  pub tells : TellsFault texts
  pub told : now ≡ with_all before (map PutText texts)

-- what was said of an answer of the line was replied to: whatever it gave that is said so, this follows
pub record RepliesWatched (o : OpeningValue) (heard left : ℕ) (before now : Option (List LineCall)) (s : Request) (seat after : SeatValue) (view later : FrontValue) (ends : Option Why) : Type 0 where
  pub entries : List EntryValue
  pub texts : List (List ℕ)
  pub acts : List Act
  pub follows : (gave : Given) → ReadsRequest gave s → FollowsWatched heard left gave entries texts acts ends
  pub told : now ≡ with_all before (map PutText texts)
  pub made : Made o seat after entries
  pub sight : Sight o seat.number view.entries later.entries seat.known after.known acts

-- a line, a seat and a view after one answer of the line and what followed it: the texts were put behind the answer
pub record AnswersWatched (o : OpeningValue) (heard left : ℕ) (line next : LineValue) (seat after : SeatValue) (view later : FrontValue) (ends : Option Why) : Type 0 where
  pub gave : Given
  pub entries : List EntryValue
  pub texts : List (List ℕ)
  pub acts : List Act
  pub follows : FollowsWatched heard left gave entries texts acts ends
  pub told : next.calls ≡ with_all line.calls (asked_then_put gave texts)
  pub made : Made o seat after entries
  pub sight : Sight o seat.number view.entries later.entries seat.known after.known acts
