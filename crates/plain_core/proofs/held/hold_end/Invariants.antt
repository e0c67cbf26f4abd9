use Rattle.std.proofs.Common.{◌≡◌, take}
use Rattle.desk_model.specs.statements.Opening.{OpeningValue}
use Rattle.desk_model.specs.histories.History.{history_of}
use Rattle.desk_model.specs.offers.Held.{hold_end}
use Rattle.plain_core.proofs.held.hold_end.Given as goal

abbrev pub invariant-loop-i : goal.invariant-loop-i
invariant-loop-i l = (o : OpeningValue) → l.end ≡ hold_end (history_of o (take l.i l.entries)) l.boards l.person
