use Rattle.std.proofs.Common.{◌≡◌, is_some, drop}
use Rattle.desk_model.specs.histories.History.{said, first_of}
use Rattle.desk_model.specs.histories.Duty.{closes}
use Rattle.plain_core.proofs.duty.is_closed.Given as goal

abbrev pub invariant-loop-entry : goal.invariant-loop-entry
invariant-loop-entry l = is_some (first_of (said (closes l.person)) (drop l.entry-index l.entries)) ≡ is_some (first_of (said (closes l.person)) l.entries)
