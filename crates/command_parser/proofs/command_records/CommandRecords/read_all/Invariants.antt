use Rattle.std.proofs.Common.{ℕ, List, []}
use Rattle.command_parser.specs.CommandRecords.{HasRead, records_left}
use Rattle.command_parser.proofs.command_records.CommandRecords.read_all.Given as goal

abbrev pub invariant-loop-commands : goal.invariant-loop-commands
invariant-loop-commands l = (first most : ℕ) (all : List (List (List ℕ))) → HasRead first most all [] l.fn.self → HasRead first most all l.commands.items l.self

abbrev pub decreases-loop-commands : goal.decreases-loop-commands
decreases-loop-commands l = records_left l.self
