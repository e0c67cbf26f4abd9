use Rattle.std.proofs.Common.{◌∙◌, refl, arith}
use Rattle.day_replay.proofs.JournalLemmas.{Gathers-no_lines, Gathers-line, AddsFront-gathered, AddsFront-lines}
use Rattle.day_replay.proofs.lines.gather_lines.Goals as goal

pub loop-entry-init : goal.loop-entry-init
loop-entry-init g c = record {
  gathered = Gathers-no_lines (g.K.Sink.held c.args.sink.now) c.args.buffer.now.items c.args.entries.now;
  room = c.requires.room;
  capacity = omega arith;
  unfaulted = refl;
}

pub loop-entry-preserved : goal.loop-entry-preserved
loop-entry-preserved g c =
    let so = c.loop-entry.invariant in
    record {
      gathered = Gathers-line _ _ _ c.args.buffer.now.items c.args.entries.now c.loop-entry.entry-index c.entry-item.result _ _ _
          c.loop-entry-test.true c.entry-item.is (c.as_slice.ensures.value ∙ c.fill_with_entry.ensures) so.gathered c.if-not-gather.ensures.all;
      room = omega (arith, so.room, c.if-not-gather.ensures.capacity);
      capacity = omega (arith, so.capacity, c.if-not-gather.ensures.capacity);
      unfaulted = c.if-not-gather.ensures.no_fault ∙ so.unfaulted;
    }

pub returns-then-not-gather-clause-front : goal.returns-then-not-gather-clause-front
returns-then-not-gather-clause-front g c =
    AddsFront-lines _ _ c.args.buffer.now.items c.args.entries.now c.loop-entry.entry-index
    (AddsFront-gathered _ _ _ _ _ c.loop-entry.invariant.gathered c.if-not-gather.ensures.front)
