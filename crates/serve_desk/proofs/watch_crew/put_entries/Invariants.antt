use Rattle.std.proofs.Common.{◌≡◌, None, map, take}
use Rattle.crew_call.specs.CrewCalls.{somes}
use Rattle.desk_model.specs.texts.Journal.{entry_line}
use Rattle.serve_desk.specs.WatchAnswers.{PutsAllOn}
use Rattle.serve_desk.proofs.watch_crew.put_entries.Given as goal

abbrev pub invariant-loop-entry : goal.invariant-loop-entry
invariant-loop-entry g l =
    let before = goal.CallerLine-dyn g (l.fn.line.vtable, l.fn.line.value) in
    let now = goal.CallerLine-dyn g (l.line.vtable, l.line.value) in record {
      put : PutsAllOn (map entry_line (somes (take l.entry-index l.entries))) (before.calls l.fn.line.value) (now.calls l.line.value) None;
      faults : now.faults l.line.value ≡ before.faults l.fn.line.value;
    }
