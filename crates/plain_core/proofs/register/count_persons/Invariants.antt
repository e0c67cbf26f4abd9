use Rattle.std.proofs.Common.{◌≡◌, ◌≤◌, ◌+◌, length, drop}
use Rattle.std.specs.List.{filter_map}
use Rattle.desk_model.specs.histories.History.{said}
use Rattle.desk_model.specs.histories.Register.{enrols_any}
use Rattle.plain_core.proofs.register.count_persons.Given as goal

abbrev pub invariant-loop-entry : goal.invariant-loop-entry
invariant-loop-entry l =
    (l.count ≤ l.entry-index) × (l.count + length (filter_map (said enrols_any) (drop l.entry-index l.entries)) ≡ length (filter_map (said enrols_any) l.entries))
