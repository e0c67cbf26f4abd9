use Rattle.std.proofs.Common.{◌≡◌, take}
use Rattle.desk_model.specs.statements.Opening.{OpeningValue}
use Rattle.desk_model.specs.histories.History.{history_of}
use Rattle.desk_model.specs.offers.Assigned.{assigned}
use Rattle.desk_model.specs.offers.TurnedDown.{has_turned_down}
use Rattle.plain_core.proofs.turned_down.has_turned_down.Given as goal

abbrev pub invariant-loop-entry : goal.invariant-loop-entry
invariant-loop-entry l = record {
  assigned : (o : OpeningValue) → l.assigned ≡ assigned (history_of o (take l.entry-index l.entries)) l.person;
  turned_down : (o : OpeningValue) → l.turned_down ≡ has_turned_down (history_of o (take l.entry-index l.entries)) l.vac l.person;
}
