use Rattle.std.proofs.Common.{sym, subst}
use Rattle.left_right.specs.Register.{TurnsAt}
use Rattle.left_right.specs.Sides.{view}
use Rattle.board_window.specs.Shelves.{Publishes, IsPublished}
use Rattle.board_window.specs.declared.shelf.Shelf.{Shelf}
use Rattle.board_window.proofs.PublishedLemmas.{publishes}
use Rattle.board_window.proofs.copies.published.Goals as goal

pub publish_as-copies-requires : goal.publish_as-copies-requires
publish_as-copies-requires g c next is =
    let desk = c.args.copies.desk in
    subst (λ (later : Shelf). TurnsAt IsPublished desk.place.id (view desk.place) desk.shown.value later Publishes) (sym is)
    (publishes desk.place.id (view desk.place) desk.shown.value _ c.requires.right c.requires.wall)
