use Rattle.std.proofs.Common.{◌≡◌, ◌-◌, ◌≤◌}
use Rattle.turn_gate.specs.Seats.{IsSeatOf}
use Rattle.serve_desk.specs.declared.limits.TheConstants.{LINES_PER_CALLER}
use Rattle.serve_desk.specs.Told.{line_of}
use Rattle.serve_desk.proofs.SessionLemmas.{SoFar}
use Rattle.serve_desk.proofs.one_line.session.Given as goal

abbrev pub invariant-loop-heard : goal.invariant-loop-heard
invariant-loop-heard g l =
    let entry = goal.CallerLine-dyn g (l.fn.line.vtable, l.fn.line.value) in
    let now = goal.CallerLine-dyn g (l.line.vtable, l.line.value) in record {
      so_far : SoFar l.desk.start.book.opening (l.desk.start.quota - l.fn.seat.calls) l.heard (line_of (entry.faults l.fn.line.value) (entry.calls l.fn.line.value))
          (line_of (now.faults l.line.value) (now.calls l.line.value)) l.fn.seat l.seat;
      few : l.heard ≤ LINES_PER_CALLER;
      seat : IsSeatOf l.desk l.seat;
      faults : now.faults l.line.value ≡ entry.faults l.fn.line.value;
    }
