use Rattle.std.proofs.Common.{◌∙◌, arith, ap, sym}
use Rattle.desk_model.specs.histories.History.{History}
use Rattle.kept_desk.proofs.OpenedLemmas.{IsOpened-day}
use Rattle.day_replay.proofs.HistoryLemmas.{IsReplay-day}
use Rattle.kept_desk.proofs.open.begin.Goals as goal

pub returns-in-Ok-begin-clause-opened : goal.returns-in-Ok-begin-clause-opened
returns-in-Ok-begin-clause-opened g c =
    let law = c.one_history_is_legal.ensures in
    let replay = IsReplay-day law.opening law.legal law.given _ _ c.in-Ok.ensures.opening c.in-Ok.ensures.stated in
    let counted = c.into_parts-book.ensures in
    rw (c.in-Ok-begin.ensures.book.0, c.in-Ok-begin.ensures.book.1) (IsOpened-day _ _ _ _ _ _ _ (counted.history ∙ c.in-Ok-book_of_day.ensures.history) replay
    (omega (arith, counted.room, c.in-Ok-book_of_day.ensures.room, c.from.ensures)) c.in-Ok-begin.ensures.kept c.in-Ok-with_entries.ensures.opening
    (c.in-Ok-with_entries.ensures.entries ∙ c.entries.ensures ∙ sym (ap (λ (h : History). h.entries) counted.history)))
