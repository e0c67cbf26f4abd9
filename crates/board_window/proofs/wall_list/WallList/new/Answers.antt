use Rattle.std.proofs.Common.{List, nat_eq, sym, subst}
use Rattle.indexmap.specs.IndexMap.{get, keys}
use Rattle.desk_model.specs.statements.Entry.{EntryValue}
use Rattle.desk_model.specs.histories.History.{history_of}
use Rattle.board_window.specs.Shows.{AreOffers}
use Rattle.board_window.proofs.wall_list.WallList.new.Goals as goal

pub invariant_of-result : goal.invariant_of-result
invariant_of-result c =
    let boards = c.in_ok-offers.offers.boards in
    let opening = c.open-head.result.1.wall.opening in (
      c.open-head.ensures.head,
      subst (λ (es : List EntryValue). AreOffers (get nat_eq boards) (keys boards) (history_of opening es)) (sym c.open-head.ensures.none) (c.in_ok-offers.ensures opening),
    )
