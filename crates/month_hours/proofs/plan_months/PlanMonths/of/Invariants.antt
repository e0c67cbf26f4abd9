use Rattle.std.proofs.Common.{◌≡◌, ◌-◌, ◌≤◌, max, length, take, map}
use Rattle.std.specs.List.{range_with_len}
use Rattle.month_hours.specs.declared.plan_months.TheConstants.{MOST_MONTHS}
use Rattle.month_hours.specs.Shares.{share_of}
use Rattle.month_hours.proofs.plan_months.PlanMonths.of.Given as goal

-- the months so far have their shares
abbrev pub invariant-loop-number : goal.invariant-loop-number
invariant-loop-number l = record {
  from : l.first ≤ l.number;
  to : l.number ≤ max l.first l.number-end;
  many : l.many ≡ l.number - l.first;
  room : length l.shares ≡ MOST_MONTHS;
  are : take l.many l.shares ≡ map (share_of l.plan) (range_with_len l.first l.many);
}
