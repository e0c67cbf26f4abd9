use Rattle.std.proofs.Common.{subst}
use Rattle.std.proofs.lemmas.Bool.{OnFalse_at, OnFalse_from}
use Rattle.desk_io.specs.Giving.{AddsFront}
use Rattle.day_replay.specs.Held.{held_lines, held_text}
use Rattle.day_replay.proofs.JournalLemmas.{Gathers-first, Gathers-more, AddsFront-gathered, AddsFront-more}
use Rattle.day_replay.proofs.held_journal.HeldJournal.write.Goals as goal

pub returns-then-not-gather_all_held-clause-front : goal.returns-then-not-gather_all_held-clause-front
returns-then-not-gather_all_held-clause-front g c =
    let held = c.args.self.now in
    let first = Gathers-first _ _ c.args.buffer.now.items _ held.opening.items _ c.requires.empty c.as_slice.ensures.value c.if-not-gather.ensures.all in
    let put = rw (c.deref.ensures.value, c.deref-2.ensures.value) at c.if-not-gather_all_held.ensures.front in
    AddsFront-more _ _ _ held.opening.items _ (held_lines held.lines.items held.texts.items) first put

pub returns-clause-front : goal.returns-clause-front
returns-clause-front g c =
    let held = c.args.self.now in
    let first = Gathers-first _ _ c.args.buffer.now.items _ held.opening.items _ c.requires.empty c.as_slice.ensures.value c.if-not-gather.ensures.all in
    let lines = rw (c.deref.ensures.value, c.deref-2.ensures.value) at c.if-not-gather_all_held.ensures.all in
    OnFalse_from c.put_all.result (AddsFront (g.K.Sink.held c.args.sink.now) (g.K.Sink.held c.put_all.new.sink) (held_text held)) (λ failed.
    AddsFront-gathered _ _ _ (held_text held) _ (Gathers-more _ _ _ held.opening.items _ (held_lines held.lines.items held.texts.items) _ first lines)
    (subst (AddsFront _ _) c.deref-3.ensures.value (OnFalse_at failed c.put_all.ensures.front)))
