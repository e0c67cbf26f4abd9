use Rattle.std.proofs.Common.{◌++◌, subst}
use Rattle.std.specs.Io.KnownBytes.{Appends}
use Rattle.std.proofs.lemmas.Bool.{OnTrue_at, OnTrue_from, OnFalse_at, OnFalse_from}
use Rattle.desk_io.specs.Giving.{AddsFront}
use Rattle.day_replay.specs.Gathered.{Gathers}
use Rattle.day_replay.proofs.JournalLemmas.{Gathers-put, AddsFront-after}
use Rattle.day_replay.proofs.lines.gather_text.Goals as goal

pub returns-clause-all : goal.returns-clause-all
returns-clause-all g c = OnTrue_from c.put_all-2.result (Gathers (g.K.Sink.held c.args.sink.now) (g.K.Sink.held c.put_all-2.new.sink) (c.args.buffer.now.items ++ c.args.text.now) c.clear.new.self.items) (λ whole.
    Gathers-put _ _ _ c.args.buffer.now.items c.args.text.now c.clear.new.self.items c.clear.ensures.items (subst (Appends _ _) c.deref.ensures.value c.if-not-put_all.ensures.all) (OnTrue_at whole c.put_all-2.ensures.all))

pub returns-clause-front : goal.returns-clause-front
returns-clause-front g c = OnFalse_from c.put_all-2.result (AddsFront (g.K.Sink.held c.args.sink.now) (g.K.Sink.held c.put_all-2.new.sink) (c.args.buffer.now.items ++ c.args.text.now)) (λ failed.
    AddsFront-after _ _ _ c.args.buffer.now.items c.args.text.now (subst (Appends _ _) c.deref.ensures.value c.if-not-put_all.ensures.all) (OnFalse_at failed c.put_all-2.ensures.front))
