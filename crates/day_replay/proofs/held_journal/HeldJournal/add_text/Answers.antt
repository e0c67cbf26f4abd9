use Rattle.std.proofs.Common.{arith}
use Rattle.std.proofs.lemmas.Result.{IfOk-weaker}
use Rattle.day_replay.proofs.JournalLemmas.{AddsLine-done, AddsLine-outcome}
use Rattle.day_replay.proofs.held_journal.HeldJournal.add_text.Goals as goal

pub returns-then-is_done_when_stated-clause-added : goal.returns-then-is_done_when_stated-clause-added
returns-then-is_done_when_stated-clause-added c = AddsLine-done _ _ c.args.entry.now (λ none. absurd (grind (arith, c.is_empty.ensures, c.if-is_empty.false, none))) (c.is_done_when_stated.ensures.done c.if-is_done_when_stated.true) (c.is_done_when_stated.ensures.when c.if-is_done_when_stated.true)

pub returns-else-is_done_when_stated-clause-added : goal.returns-else-is_done_when_stated-clause-added
returns-else-is_done_when_stated-clause-added c = IfOk-weaker c.add_outcome.result _ _ (λ done added. AddsLine-outcome _ _ _ c.args.entry.now (λ none. absurd (grind (arith, c.is_empty.ensures, c.if-is_empty.false, none))) added) c.add_outcome.ensures
