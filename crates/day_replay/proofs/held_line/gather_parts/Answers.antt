use Rattle.std.proofs.Common.{◌++◌, codes}
use Rattle.std.proofs.lemmas.Bool.{OnTrue_at, OnTrue_from, OnFalse_at, OnFalse_from}
use Rattle.desk_io.specs.Giving.{AddsFront}
use Rattle.day_replay.specs.Gathered.{Gathers}
use Rattle.day_replay.proofs.JournalLemmas.{Gathers-three, AddsFront-second, AddsFront-third}
use Rattle.day_replay.proofs.held_line.gather_parts.Goals as goal

pub returns-then-not-gather_text-2-clause-front : goal.returns-then-not-gather_text-2-clause-front
returns-then-not-gather_text-2-clause-front g c =
    AddsFront-second _ _ _ c.args.buffer.now.items (codes "0|") c.args.stated.now c.args.text.now _ c.if-not-gather_text.ensures.all c.if-not-gather_text-2.ensures.front

pub returns-clause-all : goal.returns-clause-all
returns-clause-all g c = OnTrue_from c.gather_text-3.result (Gathers (g.K.Sink.held c.args.sink.now) (g.K.Sink.held c.gather_text-3.new.sink) (c.args.buffer.now.items ++ (codes "0|" ++ c.args.stated.now ++ c.args.text.now)) c.gather_text-3.new.buffer.items) (λ whole.
    Gathers-three _ _ _ _ c.args.buffer.now.items (codes "0|") c.args.stated.now c.args.text.now _ _ _ c.if-not-gather_text.ensures.all c.if-not-gather_text-2.ensures.all (OnTrue_at whole c.gather_text-3.ensures.all))

pub returns-clause-front : goal.returns-clause-front
returns-clause-front g c = OnFalse_from c.gather_text-3.result (AddsFront (g.K.Sink.held c.args.sink.now) (g.K.Sink.held c.gather_text-3.new.sink) (c.args.buffer.now.items ++ (codes "0|" ++ c.args.stated.now ++ c.args.text.now))) (λ failed.
    AddsFront-third _ _ _ _ c.args.buffer.now.items (codes "0|") c.args.stated.now c.args.text.now _ _ c.if-not-gather_text.ensures.all c.if-not-gather_text-2.ensures.all (OnFalse_at failed c.gather_text-3.ensures.front))
