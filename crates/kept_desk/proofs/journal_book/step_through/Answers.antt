use Rattle.std.proofs.Common.{◌∙◌}
use Rattle.audit_desk.proofs.FoundLemmas.{next-statement, some-left}
use Rattle.desk_text.proofs.SpelledEntryLemmas.{IsEntryLine-begins}
use Rattle.kept_desk.proofs.ThroughLemmas.{Through-more, Through-all, HasAll-legal, HasAll-next, comes-next, none-left}
use Rattle.kept_desk.proofs.journal_book.step_through.Goals as goal

pub unreachable-requires : goal.unreachable-requires
unreachable-requires g c =
    let through = c.loop-statement.invariant.through c.requires.lines.entries c.requires.lines.fits c.requires.lines.text_is in
    let comes = comes-next c.each_line_ends_once.ensures.entry _ _ _ _ _ _ through (some-left c.loop-statement.left.now c.loop-statement-test.ensures) c.first_line.ensures.line in
    rw (c.in_default.is) at (c.put_statement.ensures.only _ _ (IsEntryLine-begins _ comes.entry (record { valid = comes.fit; line_is = comes.line_is })))

pub loop-statement-preserved : goal.loop-statement-preserved
loop-statement-preserved g c = record {
  through = λ entries fits is.
      let through = c.loop-statement.invariant.through entries fits is in
      let comes = comes-next c.each_line_ends_once.ensures.entry _ _ _ _ _ _ through (some-left c.loop-statement.left.now c.loop-statement-test.ensures) c.first_line.ensures.line in
      let read = rw (c.in-Some.is) at (c.put_statement.ensures.only _ _ (IsEntryLine-begins _ comes.entry (record { valid = comes.fit; line_is = comes.line_is }))) in
      Through-more c.a_history_goes_on_with_commands.ensures.next _ _ _ _ _ _ c.in-Ok.entry comes
      (next-statement _ comes.entry c.in-Ok.entry c.put_statement.new.statement read.0 c.in-Ok.ensures.answer) c.in-Ok.ensures.history;
  wall = HasAll-next _ _ _ _ _ c.loop-statement.invariant.wall c.in-Ok.ensures.history c.in_ok-add.ensures.next;
  room = c.step.ensures.room ∙ c.loop-statement.invariant.room;
}

pub add-requires-clause-legal : goal.add-requires-clause-legal
add-requires-clause-legal g c = HasAll-legal _ _ _ _ c.loop-statement.invariant.wall c.in-Ok.ensures.history c.is_legal.ensures.legal

pub returns-clause-history : goal.returns-clause-history
returns-clause-history g c = λ later fits is.
    Through-all _ _ later c.loop-statement.left.now c.each_line_ends_once.ensures.entry (c.loop-statement.invariant.through later fits is)
    (none-left c.loop-statement.left.now c.loop-statement-test.ensures)
