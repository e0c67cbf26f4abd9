use Rattle.std.proofs.Common.{subst}
use Rattle.std.proofs.lemmas.Bool.{OnFalse_at, OnFalse_from}
use Rattle.desk_io.specs.Giving.{AddsFront}
use Rattle.desk_model.specs.histories.History.{history_of}
use Rattle.desk_model.specs.texts.Journal.{journal}
use Rattle.day_replay.proofs.JournalLemmas.{AddsFront-gathered}
use Rattle.day_replay.proofs.journal.write_history.Goals as goal

pub returns-then-gather_history-clause-front : goal.returns-then-gather_history-clause-front
returns-then-gather_history-clause-front g c = OnFalse_from c.put_all.result (AddsFront (g.K.Sink.held c.args.sink.now) (g.K.Sink.held c.put_all.new.sink) (journal (history_of c.args.opening.now c.args.entries.now))) (λ failed.
    AddsFront-gathered _ _ _ _ _ c.if-gather_history.ensures.all (subst (AddsFront _ _) c.deref.ensures.value (OnFalse_at failed c.put_all.ensures.front)))
