use Rattle.std.proofs.Common.{◌∙◌}
use Rattle.std.proofs.lemmas.Bool.{OnTrue_at, OnTrue_from, OnFalse_at, OnFalse_from}
use Rattle.desk_io.specs.Giving.{AddsFront}
use Rattle.desk_model.specs.histories.History.{history_of}
use Rattle.desk_model.specs.texts.Journal.{journal}
use Rattle.day_replay.specs.Gathered.{Gathers}
use Rattle.day_replay.proofs.JournalLemmas.{Gathers-history, AddsFront-history}
use Rattle.day_replay.proofs.journal.gather_history.Goals as goal

pub returns-then-gather-clause-all : goal.returns-then-gather-clause-all
returns-then-gather-clause-all g c = OnTrue_from c.gather_lines.result (Gathers (g.K.Sink.held c.args.sink.now) (g.K.Sink.held c.gather_lines.new.sink) (journal (history_of c.args.opening.now c.args.entries.now)) c.gather_lines.new.buffer.items) (λ whole.
    Gathers-history _ _ _ c.args.buffer.now.items _ _ _ c.args.opening.now c.args.entries.now c.requires.empty (c.as_slice.ensures.value ∙ c.write_opening.ensures)
    c.if-gather.ensures.all (OnTrue_at whole c.gather_lines.ensures.all))

pub returns-then-gather-clause-front : goal.returns-then-gather-clause-front
returns-then-gather-clause-front g c = OnFalse_from c.gather_lines.result (AddsFront (g.K.Sink.held c.args.sink.now) (g.K.Sink.held c.gather_lines.new.sink) (journal (history_of c.args.opening.now c.args.entries.now))) (λ failed.
    AddsFront-history _ _ _ c.args.buffer.now.items _ _ c.args.opening.now c.args.entries.now c.requires.empty (c.as_slice.ensures.value ∙ c.write_opening.ensures)
    c.if-gather.ensures.all (OnFalse_at failed c.gather_lines.ensures.front))
