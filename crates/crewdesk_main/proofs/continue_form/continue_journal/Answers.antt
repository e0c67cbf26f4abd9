use Rattle.std.proofs.Common.{inl, inr, arith}
use Rattle.day_replay.specs.Ends.{WritesOrFails}
use Rattle.crewdesk_main.proofs.ContinueLemmas.{FindsVerdict-TookAll, FindsWrongCommand-TookAll, EndsByTheText-TookAll}
use Rattle.crewdesk_main.proofs.continue_form.continue_journal.Goals as goal

pub returns-clause-unreadable : goal.returns-clause-unreadable
returns-clause-unreadable g c = λ told. elim (c.continue_text.ensures.unreadable told) [
  | inl finds ↦ inl (FindsVerdict-TookAll _ _ c.in-Ok.text.items _ _
      (WritesOrFails (g.K.Sink.held c.args.sink.now) (g.K.Sink.held c.continue_text.new.sink) (g.K.Sink.faults c.args.sink.now) (g.K.Sink.faults c.continue_text.new.sink))
      c.in-Ok.ensures.whole (omega (arith, c.in-Ok.ensures.bounded, c.in-Ok.text.ok.0)) c.deref.ensures.value finds)
  | inr finds ↦ inr (FindsWrongCommand-TookAll _ _ c.in-Ok.text.items _
      (WritesOrFails (g.K.Sink.held c.args.sink.now) (g.K.Sink.held c.continue_text.new.sink) (g.K.Sink.faults c.args.sink.now) (g.K.Sink.faults c.continue_text.new.sink))
      c.in-Ok.ensures.whole (omega (arith, c.in-Ok.ensures.bounded, c.in-Ok.text.ok.0)) c.deref.ensures.value finds)
]

pub returns-clause-by_the_text : goal.returns-clause-by_the_text
returns-clause-by_the_text g c =
    EndsByTheText-TookAll c.continue_text.result _ _ c.in-Ok.text.items _ c.in-Ok.ensures.whole c.deref.ensures.value c.continue_text.ensures.by_the_text
