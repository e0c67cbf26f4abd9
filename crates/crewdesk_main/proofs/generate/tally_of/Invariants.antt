use Rattle.std.proofs.Common.{◌≡◌, ◌≤◌, ◌+◌, ◌-◌}
use Rattle.line_writer.specs.Tally.{Counts}
use Rattle.day_gen.specs.Due.{due_by, last_entry}
use Rattle.day_gen.specs.Day.{generated_day}
use Rattle.crewdesk_main.proofs.generate.tally_of.Given as goal

-- the desk stands for the day as far as it was given, which the tally counts
abbrev pub invariant-loop-stated : goal.invariant-loop-stated
invariant-loop-stated g l = record {
  edition : l.day.edition ≡ l.fn.day.edition;
  number : l.day.number ≡ l.fn.day.number;
  commands : l.day.commands ≡ l.fn.day.commands;
  few : l.day.given ≤ l.day.commands;
  room : l.day.commands ≤ l.day.given + g.C.DeskCore.room l.core;
  due : l.due ≡ due_by (last_entry (generated_day l.day.edition l.day.number l.day.given));
  stands : g.C.DeskCore.stands l.core (generated_day l.day.edition l.day.number l.day.given);
  counts : Counts l.tally (generated_day l.day.edition l.day.number l.day.given);
}

abbrev pub decreases-loop-stated : goal.decreases-loop-stated
decreases-loop-stated g l = l.day.commands - l.day.given
