use Rattle.std.proofs.Common.{◌≡◌, drop, vec_capacity}
use Rattle.std.specs.List.{find}
use Rattle.desk_model.specs.offers.Bars.{is_free}
use Rattle.desk_model.specs.histories.History.{History}
use Rattle.desk_model.specs.boards.Boards.{chain}
use Rattle.plain_core.specs.Kept.{IsKept}
use Rattle.plain_core.specs.Room.{HasRoom}
use Rattle.plain_core.proofs.kept.Kept.first_free_in.Given as goal

abbrev pub invariant-loop-board : goal.invariant-loop-board
invariant-loop-board l = record {
  first : (h : History) → IsKept l.self.opening l.self.entries.items h
      → find (λ link. is_free h l.moment l.job link.person) (chain h (drop l.board-index l.board-items))
      ≡ find (λ link. is_free h l.moment l.job link.person) (chain h l.board-items);
  room : HasRoom (vec_capacity l.self.entries) l.lists;
}
