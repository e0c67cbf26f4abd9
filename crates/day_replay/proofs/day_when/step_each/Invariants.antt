use Rattle.std.proofs.Common.{◌≤◌, ◌+◌, length, take}
use Rattle.desk_model.specs.histories.History.{History}
use Rattle.day_replay.specs.Replay.{goes_on}
use Rattle.day_replay.proofs.day_when.step_each.Given as goal

-- the desk stands for the history that goes on with the commands so far
abbrev pub invariant-loop-stated : goal.invariant-loop-stated
invariant-loop-stated g l = record {
  left : length l.commands ≤ l.stated-index + g.C.DeskCore.room l.core;
  stands : (h : History) → g.C.DeskCore.stands l.fn.core h → g.C.DeskCore.stands l.core (goes_on h (take l.stated-index l.commands));
}
