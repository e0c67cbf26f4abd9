use Rattle.std.proofs.Common.{length, ap, arith}
use Rattle.desk_model.specs.histories.History.{opened}
use Rattle.day_replay.proofs.EndsLemmas.{EndsWriting-done}
use Rattle.day_replay.proofs.HistoryLemmas.{IsReplay-day, goes_on-length}
use Rattle.serve_desk.specs.ServeBy.{served_by}
use Rattle.serve_desk.proofs.ServeLemmas.{ServesHistory-served}
use Rattle.serve_desk.proofs.serving.serve_day.Goals as goal

pub serve_book-requires-clause-room : goal.serve_book-requires-clause-room
serve_book-requires-clause-room g c =
    omega (arith, c.in-Ok-book_of_day.ensures.room, ap (λ h. length h.entries) c.in-Ok-book_of_day.ensures.history, goes_on-length (opened c.args.day.opening) c.args.day.commands.items)

pub returns-in-Ok-book_of_day-clause-ends : goal.returns-in-Ok-book_of_day-clause-ends
returns-in-Ok-book_of_day-clause-ends g c =
    let law = c.one_history_is_legal.ensures in
    let replay = IsReplay-day law.opening law.legal law.given _ _ c.requires.opening c.requires.stated in
    EndsWriting-done _ _ _ _ _ _ _ (λ Writes behind. ServesHistory-served (served_by c.args.sessions) _ _ _ _ _ Writes c.in-Ok-book_of_day.ensures.history replay behind) c.serve_book.ensures.ends
