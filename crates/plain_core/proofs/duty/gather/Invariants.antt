use Rattle.std.proofs.Common.{◌≡◌, ◌≤◌, take, vec_len, vec_capacity}
use Rattle.duty_events.specs.Lists.{stage_of, latest}
use Rattle.desk_model.specs.statements.Opening.{OpeningValue}
use Rattle.desk_model.specs.histories.History.{history_of}
use Rattle.desk_model.specs.histories.Duty.{events}
use Rattle.plain_core.proofs.duty.gather.Given as goal

abbrev pub invariant-loop-entry : goal.invariant-loop-entry
invariant-loop-entry l = record {
  events : (o : OpeningValue) → l.list.items ≡ events (history_of o (take l.entry-index l.entries)) l.person;
  stage : l.stage ≡ stage_of l.list.items;
  last : l.last ≡ latest l.list.items;
  few : vec_len l.list ≤ l.entry-index;
  room : vec_capacity l.list ≡ vec_capacity l.fn.list;
}
