-- What serving all lines at one desk with looks makes of them.
use Rattle.std.specs.Prelude.{◌≡◌, ◌≢◌, Bool, true, ℕ, ◌-◌, ◌≤◌, Some, None, List, ◌++◌, length, take}
use mathlib.Core.List.{IsPrefix}
use Rattle.std.specs.declared.option.Option.{Option}
use Rattle.board_window.specs.Walls.{FrontValue}
use Rattle.caller_lines.specs.LineCalls.{LineCall}
use Rattle.desk_io.specs.Faults.{Rose}
use Rattle.desk_model.specs.statements.Entry.{EntryValue}
use Rattle.desk_model.specs.statements.Opening.{OpeningValue}
use Rattle.desk_shared.specs.Kept.{AreKept, KnowsOnlySure}
use Rattle.turn_gate.specs.Seats.{GateValue, SeatValue}
use Rattle.turn_gate.specs.Told.{own}
use Rattle.serve_desk.specs.declared.limits.TheConstants.{CALLS_PER_LINE}
use Rattle.serve_desk.specs.declared.why.Why.{Why}
use Rattle.serve_desk.specs.declared.why.Why.TheVariants.{LineFault, JournalFault}
use Rattle.serve_desk.specs.Sees.{Sees}
use Rattle.serve_desk.specs.Serve.{OneOfAll, ServesAllOfDay}
use Rattle.serve_desk.specs.Told.{with_all, LineValue}
use Rattle.serve_desk.specs.WatchAnswers.{IsCallerOf}
use Rattle.serve_desk.specs.WatchFollows.{Act}
use Rattle.serve_desk.specs.Watches.{Watches}
use Rattle.serve_desk.specs.WatchSession.{SessionWatched}

-- a line after its session with looks, of which these entries came, at a seat with so many calls of a desk whose entries are all these, the
-- first of which, so many, its windows were made with. There is a history of the desk, `seen`, by which its looks are right. The first of the entries, so
-- many as are sure, are kept, and have each of the caller's of which a line may have been put: where it is told what is found of the journal, it is this. It ended with a
-- fault of the line only where the line's faults rose, which never fall; and with one of the journal only where that isn't always kept
pub record IsWatched (always : Bool) (found : Option (List ℕ)) (left : ℕ) (o : OpeningValue) (made_with : ℕ) (all : List EntryValue) (number : ℕ) (entries : List EntryValue) (line later : LineValue) : Type 0 where
  pub calls : List LineCall
  pub acts : List Act
  pub why : Why
  pub put : List EntryValue
  pub session : SessionWatched left calls entries acts why put
  pub told : later.calls ≡ with_all line.calls calls
  pub seen : List EntryValue
  pub sees : Sees o made_with (take made_with all) seen all number (own (take made_with all) number) acts
  pub sure : ℕ
  pub are_kept : AreKept found o (take sure all)
  pub are_sure : IsPrefix (own (take made_with all) number ++ put) (own (take sure all) number)
  pub fault : why ≡ LineFault → Rose line.faults later.faults
  pub no_fault : why ≢ LineFault → why ≢ JournalFault → later.faults ≡ line.faults
  pub faults : line.faults ≤ later.faults
  pub kept : always ≡ true → why ≢ JournalFault

-- of a line that is served with so many calls, at windows that were made with so many entries, over a book that tells each entry as kept or doesn't, and
-- of whose journal this is found at the end, where that is told
abbrev pub watched_with : Bool → Option (List ℕ) → ℕ → OpeningValue → ℕ → OneOfAll
watched_with always found left o made_with all number entries line later = IsWatched always found left o made_with all number entries line later

-- of one that is served with 5,000 calls over a book in memory
abbrev pub watched : OpeningValue → ℕ → OneOfAll
watched = watched_with true None CALLS_PER_LINE

-- lines were served with looks behind a day file, as `serve` serves them without
abbrev pub WatchesDay : Option (List ℕ) → Option (List ℕ) → List LineValue → List LineValue → (List ℕ → Type 0) → Type 0
WatchesDay before after lines later Writes = ServesAllOfDay watched before after lines later Writes

-- a seat and a view at a post are of this desk, and the seat knows no entry that isn't sure
pub record IsManned (desk : GateValue) (seat : Option SeatValue) (view : Option FrontValue) : Type 0 where
  pub at_seat : SeatValue
  pub with_view : FrontValue
  pub has_seat : seat ≡ Some at_seat
  pub has_view : view ≡ Some with_view
  pub caller : IsCallerOf desk at_seat with_view
  pub sure : KnowsOnlySure at_seat

-- a post's line was served at its seat with its view, at a desk of this gate
pub record AttendsWatched (always : Bool) (desk : GateValue) (seat after : Option SeatValue) (view seen : Option FrontValue) (line later : LineValue) : Type 0 where
  pub before : SeatValue
  pub behind : SeatValue
  pub saw : FrontValue
  pub sees : FrontValue
  pub why : Why
  pub taken : ℕ
  pub had : seat ≡ Some before
  pub has : after ≡ Some behind
  pub viewed : view ≡ Some saw
  pub views : seen ≡ Some sees
  pub was_of_desk : IsCallerOf desk before saw
  pub watches : Watches desk.start.book.opening (desk.start.quota - before.calls) (length desk.start.book.entries) line later before behind saw sees why taken
  pub of_desk : IsCallerOf desk behind sees
  pub fault : why ≡ LineFault → Rose line.faults later.faults
  pub no_fault : why ≢ LineFault → why ≢ JournalFault → later.faults ≡ line.faults
  pub faults : line.faults ≤ later.faults
  pub kept : always ≡ true → why ≢ JournalFault
