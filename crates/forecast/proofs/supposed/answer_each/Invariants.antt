use Rattle.std.proofs.Common.{◌≡◌, ◌≤◌, ◌+◌, length, map, take, vec_capacity}
use Rattle.desk_model.specs.histories.History.{History}
use Rattle.desk_model.specs.histories.Legal.{given}
use Rattle.forecast.specs.Supposed.{by_nobody, with_entries}
use Rattle.forecast.proofs.supposed.answer_each.Given as goal

-- the first commands are answered, and the core stands for the history with their entries
abbrev pub invariant-loop-stated : goal.invariant-loop-stated
invariant-loop-stated g l = record {
  room : g.C.DeskCore.room l.core + l.stated-index ≡ g.C.DeskCore.room l.fn.core;
  left : length l.commands ≤ l.stated-index + g.C.DeskCore.room l.core;
  memory : length l.commands ≤ vec_capacity l.entries;
  many : length l.entries.items ≡ l.stated-index;
  stands : (h : History) → g.C.DeskCore.stands l.fn.core h → g.C.DeskCore.stands l.core (with_entries h l.entries.items);
  stated : (h : History) → g.C.DeskCore.stands l.fn.core h → map given l.entries.items ≡ map by_nobody (take l.stated-index l.commands);
}
