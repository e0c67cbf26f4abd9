use Rattle.std.proofs.Common.{ℕ, List}
use Rattle.record_rows.specs.Rows.{HasLeft}
use Rattle.command_parser.proofs.RecordsLemmas.{HasPassed}
use Rattle.command_parser.proofs.command_records.has_more.Given as goal

abbrev pub invariant-loop-passed : goal.invariant-loop-passed
invariant-loop-passed l = (all : List (List (List ℕ))) → HasLeft l.initial.rows all → HasPassed all l.rows l._passed
