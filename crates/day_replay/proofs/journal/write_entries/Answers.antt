use Rattle.std.proofs.Common.{◌∙◌, ℕ, List, Option, refl, sym, subst, arith}
use Rattle.std.proofs.lemmas.Bool.{OnTrue_at, OnTrue_from, OnFalse_at, OnFalse_from}
use Rattle.std.proofs.lemmas.List.{take_all}
use Rattle.day_replay.specs.Replay.{goes_on}
use Rattle.desk_io.specs.Giving.{AddsFront}
use Rattle.desk_model.specs.histories.History.{History}
use Rattle.desk_model.specs.texts.Journal.{journal}
use Rattle.std.specs.Io.KnownBytes.{Appends}
use Rattle.day_replay.specs.Gathered.{Gathers}
use Rattle.day_replay.proofs.HistoryLemmas.{goes_on-none, goes_on-next}
use Rattle.day_replay.proofs.JournalLemmas.{Gathers-journal, Appends-gathered, AddsFront-gathered, AddsFront-journal}
use Rattle.day_replay.proofs.journal.write_entries.Goals as goal

pub loop-stated-init : goal.loop-stated-init
loop-stated-init g c = record {
  left = omega (arith, c.requires.left);
  written = λ before h stands gathered.
      let start = sym (goes_on-none h) in
      record {
        stands = subst (g.C.DeskCore.stands c.args.core.now) start stands;
        gathered = subst (λ t. Gathers before (g.K.Sink.held c.args.sink.now) (journal t) c.args.buffer.now.items) start gathered;
      };
  room = omega (arith, c.requires.room);
  unfaulted = refl;
}

pub loop-stated-preserved : goal.loop-stated-preserved
loop-stated-preserved g c = record {
  left = omega (arith, c.step-entry.ensures.room, c.loop-stated.invariant.left);
  written = λ before h stands gathered.
      let so = c.loop-stated.invariant.written before h stands gathered in
      let next = goes_on-next h c.args.commands.now c.loop-stated.stated-index c.stated-item.result c.step-entry.result
      c.loop-stated-test.true c.stated-item.is (c.step-entry.ensures.answer _ so.stands) in
      record {
        stands = subst (g.C.DeskCore.stands c.step-entry.new.self) next (c.step-entry.ensures.stands _ so.stands);
        gathered = Gathers-journal _ _ _ _ _ c.step-entry.result _ _ _ next (c.as_slice.ensures.value ∙ c.fill_with_entry.ensures) so.gathered c.if-not-gather.ensures.all;
      };
  room = omega (arith, c.loop-stated.invariant.room, c.if-not-gather.ensures.capacity);
  unfaulted = c.if-not-gather.ensures.no_fault ∙ c.loop-stated.invariant.unfaulted;
}

pub returns-then-not-gather-clause-front : goal.returns-then-not-gather-clause-front
returns-then-not-gather-clause-front g c = λ before h stands gathered.
    AddsFront-journal before _ h c.args.commands.now c.loop-stated.stated-index
    (AddsFront-gathered before _ _ _ _ (c.loop-stated.invariant.written before h stands gathered).gathered c.if-not-gather.ensures.front)

pub returns-clause-all : goal.returns-clause-all
returns-clause-all g c = OnTrue_from c.put_all.result ((before : Option (List ℕ)) (h : History) → g.C.DeskCore.stands c.args.core.now h
    → Gathers before (g.K.Sink.held c.args.sink.now) (journal h) c.args.buffer.now.items
    → Appends before (g.K.Sink.held c.put_all.new.sink) (journal (goes_on h c.args.commands.now))) (λ whole before h stands gathered.
    let all = take_all c.loop-stated.stated-index c.args.commands.now (omega (arith, c.loop-stated-test.false)) in
    subst (λ cs. Appends before (g.K.Sink.held c.put_all.new.sink) (journal (goes_on h cs))) all
    (Appends-gathered before _ _ _ _ (c.loop-stated.invariant.written before h stands gathered).gathered
    (subst (Appends _ _) c.deref.ensures.value (OnTrue_at whole c.put_all.ensures.all))))

pub returns-clause-front : goal.returns-clause-front
returns-clause-front g c = OnFalse_from c.put_all.result ((before : Option (List ℕ)) (h : History) → g.C.DeskCore.stands c.args.core.now h
    → Gathers before (g.K.Sink.held c.args.sink.now) (journal h) c.args.buffer.now.items
    → AddsFront before (g.K.Sink.held c.put_all.new.sink) (journal (goes_on h c.args.commands.now))) (λ failed before h stands gathered.
    AddsFront-journal before _ h c.args.commands.now c.loop-stated.stated-index
    (AddsFront-gathered before _ _ _ _ (c.loop-stated.invariant.written before h stands gathered).gathered
    (subst (AddsFront _ _) c.deref.ensures.value (OnFalse_at failed c.put_all.ensures.front))))
