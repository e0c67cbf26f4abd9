use Rattle.std.proofs.Common.{◌≡◌, ◌∙◌, ◌++◌, ◌∷◌, [], sym, ap, arith, length-append}
use Rattle.desk_model.specs.histories.History.{with_entry}
use Rattle.desk_model.specs.texts.Journal.{journal}
use Rattle.desk_text.specs.SpelledEntry.{IsEntryLine, BeginsEntry, statement_of}
use Rattle.line_writer.specs.Line.{outcome_line}
use Rattle.desk_text.proofs.SpelledEntryLemmas.{IsEntryLine-begins, entry_line-outcome}
use Rattle.audit_desk.specs.Found.{outcome_of}
use Rattle.audit_desk.proofs.FoundLemmas.{journal-goes_on, next-statement, statement-next, some-left, HasUnreadable-line}
use Rattle.audit_desk.proofs.audit_entries.audit_entries.Goals as goal

pub returns-in_default-clause-found : goal.returns-in_default-clause-found
returns-in_default-clause-found g c = λ h stands none.
    let so = c.loop-left.invariant.read h stands none in
    HasUnreadable-line _ c.loop-left.left.now c.first_line.result.0.now c.first_line.result.1.now so.history _ (g.met.C.DeskCore.legal _ _ so.stands) so.read
    (some-left c.loop-left.left.now c.loop-left-test.ensures) c.each_line_ends_once.ensures.entry c.first_line.ensures.line
    (λ e is. rw (c.in_default.is) at (c.put_statement.ensures.only _ _ (IsEntryLine-begins _ e is))) (omega (arith, so.count_is))

pub returns-in_default-read_entry-clause-found : goal.returns-in_default-read_entry-clause-found
returns-in_default-read_entry-clause-found g c = λ h stands none.
    let so = c.loop-left.invariant.read h stands none in
    HasUnreadable-line _ c.loop-left.left.now c.first_line.result.0.now c.first_line.result.1.now so.history _ (g.met.C.DeskCore.legal _ _ so.stands) so.read
    (some-left c.loop-left.left.now c.loop-left-test.ensures) c.each_line_ends_once.ensures.entry c.first_line.ensures.line
    (λ e is. let found = c.read_entry.ensures.only e is in let missing = c.in_default-read_entry.is in cc) (omega (arith, so.count_is))

pub returns-then-not-is_outcome-clause-found : goal.returns-then-not-is_outcome-clause-found
returns-then-not-is_outcome-clause-found g c = λ h stands none.
    let so = c.loop-left.invariant.read h stands none in
    let line : IsEntryLine c.first_line.result.0.now c.in-Some-read_entry.entry = rw (c.in-Some-read_entry.is) at c.read_entry.ensures.some in
    let read : (c.put_statement.new.statement ≡ statement_of c.in-Some-read_entry.entry) × (c.in-Some.outcome.now ≡ outcome_line c.in-Some-read_entry.entry.moment c.in-Some-read_entry.entry.reply) =
    rw (c.in-Some.is) at (c.put_statement.ensures.only _ _ (IsEntryLine-begins _ c.in-Some-read_entry.entry line)) in
    let answer = next-statement so.history c.in-Some-read_entry.entry c.answer-right.result c.put_statement.new.statement read.0 (c.answer-right.ensures.answer _ so.stands) in
    record {
      history = so.history;
      entry = c.in-Some-read_entry.entry;
      rest = c.first_line.result.1.now;
      begins = record {
        legal = g.met.C.DeskCore.legal _ _ so.stands;
        parts = so.read ∙ ap (λ t. journal so.history ++ t) (c.first_line.ensures.parts ∙ ap (λ l. l ++ c.first_line.result.1.now) line.line_is);
      };
      fits = line.valid;
      line_is = omega (arith, so.count_is);
      written_is = c.outcome_of.ensures;
      right_is = c.outcome_of-then-not-is_outcome.ensures ∙ ap outcome_of (c.to_entry.ensures ∙ answer);
      differ = λ same. c.if-not-is_outcome.ensures.other (
          read.1 ∙ ap (λ o. outcome_line o.moment o.reply) (sym c.outcome_of.ensures ∙ same ∙ c.outcome_of-then-not-is_outcome.ensures ∙ ap outcome_of c.to_entry.ensures));
    }

pub loop-left-preserved : goal.loop-left-preserved
loop-left-preserved g c =
    let shorter = c.first_line.ensures.shorter (some-left c.loop-left.left.now c.loop-left-test.ensures) in
    record {
      left = omega (arith, c.answer-right.ensures.room, c.loop-left.invariant.left, shorter);
      few = omega (arith, c.loop-left.invariant.few, shorter);
      room = omega (arith, c.answer-right.ensures.room, c.loop-left.invariant.room, shorter);
      read = λ h stands none.
          let so = c.loop-left.invariant.read h stands none in
          let begins : BeginsEntry c.first_line.result.0.now c.in-Some.outcome.now c.put_statement.new.statement = rw (c.in-Some.is) at c.put_statement.ensures.some in
          record {
            history = with_entry so.history c.answer-right.result;
            stands = c.answer-right.ensures.stands _ so.stands;
            read = journal-goes_on so.history c.answer-right.result _ c.loop-left.left.now c.first_line.result.0.now c.first_line.result.1.now so.read c.first_line.ensures.parts
                (entry_line-outcome _ _ c.put_statement.new.statement c.answer-right.result begins
                (statement-next so.history c.answer-right.result c.put_statement.new.statement (c.answer-right.ensures.answer _ so.stands))
                c.if-not-is_outcome.ensures.same);
            count_is = omega (arith, so.count_is, length-append so.history.entries (c.answer-right.result ∷ []));
          };
    }
