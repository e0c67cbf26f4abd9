use Rattle.std.proofs.Common.{◌∙◌, [], ◌∷◌, ap, arith, length, length-append}
use Rattle.std.specs.Box.{box_value}
use Rattle.desk_model.specs.histories.History.{history_of}
use Rattle.call_history.proofs.BookLemmas.{goes-on}
use Rattle.call_history.proofs.book.Book.step_each.Goals as goal

pub loop-index-preserved : goal.loop-index-preserved
loop-index-preserved g c =
    let so = c.loop-index.invariant in
    let book = c.loop-index.self in
    let first = c.args.self.now in
    let answered = c.in-Ok.ensures in
    record {
      room = c.step.ensures.room ∙ so.room;
      many = omega (arith, so.many, ap (λ h. length h.entries) answered.kept, length-append book.desk.past (c.in-Ok._entry ∷ []));
      history = λ commands long told.
          goes-on c.a_history_goes_on_with_commands.ensures.next (history_of (g.C.DeskCore.opening (box_value first.desk.core)) first.desk.past) (history_of (g.C.DeskCore.opening (box_value book.desk.core)) book.desk.past) _ commands
          c.loop-index.index _ _ c.in-Ok._entry (told c.loop-index.index c.command_at-caller.result c.loop-index-test.true c.command_at-caller.ensures) (so.history commands long told) answered.answer answered.kept;
    }
