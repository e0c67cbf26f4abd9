use Rattle.std.proofs.Common.{◌≡◌, ℕ, ◌+◌, ◌≤◌, Option, drop}
use Rattle.std.specs.List.{All}
use Rattle.denial_rules.specs.declared.bar.Bar.{Bar}
use Rattle.vacancy_fill.specs.Chain.{members_at, chain_from, first_free, BarsUnready, most_steps}
use Rattle.vacancy_fill.proofs.fill.first.Given as goal

-- the boards so far have nobody, and their searches were made
abbrev pub invariant-loop-link : goal.invariant-loop-link
invariant-loop-link g l = record {
  none : (bar : ℕ → Option Bar) → g.J.Judge.judges l.judge bar → All (λ index. BarsUnready bar l.m (members_at l.boards index)) l.chain
      → first_free bar (chain_from l.boards 0 l.chain) ≡ first_free bar (chain_from l.boards l.link (drop l.link l.chain));
  cost : (bar : ℕ → Option Bar) → g.J.Judge.judges l.judge bar → All (λ index. BarsUnready bar l.m (members_at l.boards index)) l.chain
      → l.steps + most_steps bar l.m l.boards (drop l.link l.chain) ≤ l.fn.steps + most_steps bar l.m l.boards l.chain;
}
