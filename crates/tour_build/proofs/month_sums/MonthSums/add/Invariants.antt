use Rattle.std.proofs.Common.{◌≡◌, ℕ, ◌+◌, ◌<◌, get_or, length}
use Rattle.desk_base.specs.Month.{first_minute, minutes_of}
use Rattle.tour_build.specs.MonthSums.{AreSums, IsMore}
use Rattle.tour_build.proofs.SumLemmas.{passed}
use Rattle.tour_build.proofs.month_sums.MonthSums.add.Given as goal

-- the months that were passed have the minutes of the interval, and the others are as they were
abbrev pub invariant-loop-index : goal.invariant-loop-index
invariant-loop-index l = record {
  len : length l.self-inside.sums ≡ 24;
  sums : (was now : ℕ → ℕ → ℕ) → AreSums l.fn.window was l.fn.self → IsMore was now l.fn.interval.from l.fn.interval.to → (k : ℕ) → k < l.fn.window.months
      → get_or l.self-inside.sums k 0
      ≡ passed l.low l.index k (was (first_minute (l.fn.window.first + k)) (minutes_of (l.fn.window.first + k))) (now (first_minute (l.fn.window.first + k)) (minutes_of (l.fn.window.first + k)));
}
