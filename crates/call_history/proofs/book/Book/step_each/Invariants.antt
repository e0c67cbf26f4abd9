use Rattle.std.proofs.Common.{◌≡◌, ℕ, ◌+◌, ◌<◌, List, length, take, Some}
use Rattle.std.specs.List.{slice_get}
use Rattle.std.specs.Box.{box_value}
use Rattle.desk_model.specs.statements.Statement.{StatedValue}
use Rattle.desk_model.specs.histories.History.{history_of}
use Rattle.desk_model.specs.histories.Legal.{history_from}
use Rattle.call_history.proofs.book.Book.step_each.Given as goal

-- the book goes on with the first commands
abbrev pub invariant-loop-index : goal.invariant-loop-index
invariant-loop-index g l = record {
  room : length l.self.desk.past + g.C.DeskCore.room (box_value l.self.desk.core) ≡ length l.fn.self.desk.past + g.C.DeskCore.room (box_value l.fn.self.desk.core);
  many : length l.self.desk.past ≡ length l.fn.self.desk.past + l.index;
  history : (commands : List (ℕ × StatedValue)) → length commands ≡ l.count
      → ((index : ℕ) (command : _) → index < l.count → goal.F-post g l.command_at index command → slice_get commands index ≡ Some command)
      → history_of (g.C.DeskCore.opening (box_value l.self.desk.core)) l.self.desk.past
      ≡ history_from (history_of (g.C.DeskCore.opening (box_value l.fn.self.desk.core)) l.fn.self.desk.past) (take l.index commands);
}
