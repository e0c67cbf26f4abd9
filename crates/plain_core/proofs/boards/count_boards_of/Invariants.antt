use Rattle.std.proofs.Common.{◌≡◌, ◌≤◌, ◌+◌, false, unwrap_or, length, drop, filter}
use Rattle.std.specs.List.{filter_map}
use Rattle.desk_model.specs.histories.History.{said, last_of}
use Rattle.desk_model.specs.histories.Register.{sets_up_any}
use Rattle.desk_model.specs.boards.Boards.{puts}
use Rattle.plain_core.proofs.boards.count_boards_of.Given as goal

abbrev pub invariant-loop-entry : goal.invariant-loop-entry
invariant-loop-entry l = record {
  few : l.count ≤ l.entry-index;
  boards : l.count + length (filter (λ b. unwrap_or (last_of (said (puts b l.person)) l.entries) false) (filter_map (said sets_up_any) (drop l.entry-index l.entries)))
      ≡ length (filter (λ b. unwrap_or (last_of (said (puts b l.person)) l.entries) false) (filter_map (said sets_up_any) l.entries));
}
