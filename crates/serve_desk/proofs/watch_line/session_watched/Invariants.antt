use Rattle.std.proofs.Common.{◌≡◌, ◌-◌, ◌≤◌, length}
use Rattle.serve_desk.specs.declared.limits.TheConstants.{LINES_PER_CALLER}
use Rattle.desk_shared.specs.Kept.{KnowsOnlySure}
use Rattle.serve_desk.specs.Told.{line_of}
use Rattle.serve_desk.specs.WatchAnswers.{IsCallerOf}
use Rattle.serve_desk.proofs.WatchLemmas.{WatchedSoFar}
use Rattle.serve_desk.proofs.watch_line.session_watched.Given as goal

abbrev pub invariant-loop-heard : goal.invariant-loop-heard
invariant-loop-heard g l =
    let entry = goal.CallerLine-dyn g (l.fn.line.vtable, l.fn.line.value) in
    let now = goal.CallerLine-dyn g (l.line.vtable, l.line.value) in record {
      so_far : WatchedSoFar l.desk.start.book.opening (l.desk.start.quota - l.fn.seat.calls) l.heard (length l.desk.start.book.entries)
          (line_of (entry.faults l.fn.line.value) (entry.calls l.fn.line.value)) (line_of (now.faults l.line.value) (now.calls l.line.value)) l.fn.seat l.seat l.fn.view l.view;
      few : l.heard ≤ LINES_PER_CALLER;
      caller : IsCallerOf l.desk l.seat l.view;
      sure : KnowsOnlySure l.seat;
      faults : now.faults l.line.value ≡ entry.faults l.fn.line.value;
    }
