use Rattle.std.proofs.Common.{◌≡◌, ◌+◌, drop, vec_capacity}
use Rattle.std.specs.List.{find}
use Rattle.desk_model.specs.histories.History.{History}
use Rattle.desk_model.specs.boards.Boards.{links}
use Rattle.desk_model.specs.offers.Bars.{is_free}
use Rattle.plain_core.specs.Kept.{IsKept}
use Rattle.plain_core.proofs.kept.Kept.first_free_on.Given as goal

abbrev pub invariant-loop-person : goal.invariant-loop-person
invariant-loop-person l = record {
  position : l.position ≡ l.person-index + 1;
  first : (h : History) → IsKept l.self.opening l.self.entries.items h
      → find (λ link. is_free h l.moment l.job link.person) (links l.board l.position (drop l.person-index l.members))
      ≡ find (λ link. is_free h l.moment l.job link.person) (links l.board 1 l.members);
  room : vec_capacity l.events ≡ vec_capacity l.fn.events;
}
