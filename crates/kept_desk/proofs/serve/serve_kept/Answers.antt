use Rattle.std.proofs.Common.{false, subst}
use Rattle.std.specs.Bool.{OnTrue}
use Rattle.std.specs.Box.{box_value}
use Rattle.desk_model.specs.histories.History.{history_of}
use Rattle.desk_model.specs.texts.Journal.{journal}
use Rattle.desk_shared.proofs.KeptLemmas.{kept-still}
use Rattle.journal_device.specs.Device.{Tells}
use Rattle.kept_desk.proofs.ServedLemmas.{served-still}
use Rattle.kept_desk.proofs.serve.serve_kept.Goals as goal

pub returns-clause-served : goal.returns-clause-served
returns-clause-served g c =
    let start = c.args.opened.book.book in
    let after = c.in_ok-book.book in
    let o = (box_value start.core).desk.opening in
    let all = after.book.past in
    let was = g.D.Device.kept after.device in
    let found = g.D.Device.kept c.keep.new.self.device in
    let tells = rw (c.keep.ensures.book) at c.keep.ensures.kept in
    let by_opening = subst (λ x. OnTrue c.keep.result (Tells found (journal (history_of x all)))) c.in_ok-book.ensures.opening tells in
    let served = served-still false was found c.args.opened.quota o _ start.past all _ _ (kept-still c.keep.result was found (history_of o all) by_opening c.keep.ensures.unkept) c.in_ok-book.ensures.watched in
    rw (c.requires.opened.opening, c.keep.ensures.book) served
