use Rattle.std.proofs.Common.{◌≡◌, take}
use Rattle.desk_model.specs.histories.History.{history_of}
use Rattle.desk_model.specs.texts.Journal.{journal}
use Rattle.journal_device.specs.Device.{Tells}
use Rattle.kept_book.proofs.kept_book.put_history.Given as goal

-- the journal of the first entries is written
abbrev pub invariant-loop-entry : goal.invariant-loop-entry
invariant-loop-entry g l = record {
  written : Tells (g.D.Device.written l.device) (journal (history_of l.opening (take l.entry-index l.entries)));
  faults : g.D.Device.faults l.device ≡ g.D.Device.faults l.fn.device;
}
