use Rattle.std.proofs.Common.{◌≡◌, ◌≤◌, ◌+◌, drop}
use Rattle.std.specs.List.{find}
use Rattle.desk_model.specs.histories.History.{History}
use Rattle.desk_model.specs.boards.Boards.{chain}
use Rattle.desk_model.specs.offers.Bars.{is_free}
use Rattle.fast_core.specs.KeptDesk.{Tells}
use Rattle.fast_core.specs.Candidates.{IsJobAsked}
use Rattle.fast_core.specs.Search.{HasSearched, chain_steps}
use Rattle.fast_core.proofs.kept_desk.KeptDesk.first_free.Given as goal

-- the boards so far have nobody, and each was searched
abbrev pub invariant-loop-board : goal.invariant-loop-board
invariant-loop-board g l = record {
  first : (h : History) → Tells l.self h → IsJobAsked l.asked h
      → find (λ link. is_free h l.asked.moment l.asked.job.now link.person) (chain h (drop l.board-index l.board-items))
      ≡ find (λ link. is_free h l.asked.moment l.asked.job.now link.person) (chain h l.board-items);
  searched : (h : History) → Tells l.self h → IsJobAsked l.asked h → HasSearched h l.asked.moment l.asked.job.now l.searched;
  steps : (h : History) → Tells l.self h → IsJobAsked l.asked h
      → l.steps + chain_steps h l.asked.moment l.asked.job.now (drop l.board-index l.board-items)
      ≤ l.fn.steps + chain_steps h l.asked.moment l.asked.job.now l.board-items;
}
