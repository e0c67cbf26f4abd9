-- What serving a post's line at its seat makes of both.
use Rattle.std.specs.Prelude.{◌≡◌, ◌≢◌, ℕ, ◌-◌, ◌≤◌, Some}
use Rattle.std.specs.declared.option.Option.{Option}
use Rattle.desk_io.specs.Faults.{Rose}
use Rattle.turn_gate.specs.Seats.{GateValue, SeatValue, IsSeatOf}
use Rattle.serve_desk.specs.declared.why.Why.{Why}
use Rattle.serve_desk.specs.declared.why.Why.TheVariants.{LineFault}
use Rattle.serve_desk.specs.Told.{LineValue}
use Rattle.serve_desk.specs.Serves.{Serves}

-- a post's line was served at its seat, at a desk of this gate
pub record Attends (gate : GateValue) (seat after : Option SeatValue) (line later : LineValue) : Type 0 where
  pub before : SeatValue
  pub behind : SeatValue
  pub why : Why
  pub taken : ℕ
  pub had : seat ≡ Some before
  pub has : after ≡ Some behind
  pub serves : Serves gate.start.book.opening (gate.start.quota - before.calls) line later before behind why taken
  pub of_desk : IsSeatOf gate behind
  pub fault : why ≡ LineFault → Rose line.faults later.faults
  pub no_fault : why ≢ LineFault → later.faults ≡ line.faults
  pub faults : line.faults ≤ later.faults
