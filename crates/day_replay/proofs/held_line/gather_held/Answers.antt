use Rattle.std.proofs.Common.{sym}
use Rattle.day_replay.proofs.JournalLemmas.{held_line-done, some-bytes, no-bytes}
use Rattle.day_replay.proofs.held_line.gather_held.Goals as goal

pub returns-in-Some-clause-all : goal.returns-in-Some-clause-all
returns-in-Some-clause-all g c =
    rw (held_line-done c.args.stated.now c.args.text.now c.in-Some.minute.now (some-bytes _ c.if-is_empty.ensures) (no-bytes _ c.if-is_empty-2.ensures) c.in-Some.ensures.cases.enough c.in-Some.ensures.cases.same, sym c.done_at.ensures)
    c.gather_line.ensures.all

pub returns-in-Some-clause-front : goal.returns-in-Some-clause-front
returns-in-Some-clause-front g c =
    rw (held_line-done c.args.stated.now c.args.text.now c.in-Some.minute.now (some-bytes _ c.if-is_empty.ensures) (no-bytes _ c.if-is_empty-2.ensures) c.in-Some.ensures.cases.enough c.in-Some.ensures.cases.same, sym c.done_at.ensures)
    c.gather_line.ensures.front
