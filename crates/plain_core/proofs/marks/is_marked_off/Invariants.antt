use Rattle.std.proofs.Common.{◌≡◌, drop}
use Rattle.std.specs.Option.{option_or}
use Rattle.desk_model.specs.histories.History.{said, last_of}
use Rattle.desk_model.specs.boards.Marks.{marks}
use Rattle.plain_core.proofs.marks.is_marked_off.Given as goal

abbrev pub invariant-loop-entry : goal.invariant-loop-entry
invariant-loop-entry l = option_or (last_of (said (marks l.person)) (drop l.entry-index l.entries)) l.last ≡ last_of (said (marks l.person)) l.entries
