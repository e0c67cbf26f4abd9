use Rattle.std.proofs.Common.{ℕ, ◌+◌, ◌-◌, ◌*◌, ◌≤◌, Option, take}
use Rattle.slot_tree.specs.declared.limits.TheConstants.{SLOT_LIMIT}
use Rattle.denial_rules.specs.declared.bar.Bar.{Bar}
use Rattle.slot_tree.specs.Slots.{filled}
use Rattle.vacancy_fill.specs.Chain.{BarsUnready, passed_over}
use Rattle.vacancy_fill.proofs.ChainLemmas.{AreBarred}
use Rattle.vacancy_fill.proofs.on_board.first_on.Given as goal

-- whoever fills a slot before one has a bar, and a search was made for each of them who is ready
abbrev pub invariant-loop-at : goal.invariant-loop-at
invariant-loop-at g l = record {
  within : l.from ≤ SLOT_LIMIT;
  barred : (bar : ℕ → Option Bar) → g.J.Judge.judges l.judge bar → BarsUnready bar l.m (filled l.slots) → AreBarred bar l.slots l.from;
  cost : (bar : ℕ → Option Bar) → g.J.Judge.judges l.judge bar → BarsUnready bar l.m (filled l.slots) → l.steps ≤ l.fn.steps + passed_over bar l.m (filled (take l.from l.slots)) * 44;
}

abbrev pub decreases-loop-at : goal.decreases-loop-at
decreases-loop-at g l = SLOT_LIMIT - l.from
