use Rattle.std.proofs.Common.{◌≡◌, ◌⊎◌, inl, inr, subst, arith}
use Rattle.std.specs.Io.KnownBytes.{Appends}
use Rattle.desk_io.specs.declared.status.Status.{Status}
use Rattle.desk_io.specs.declared.status.Status.TheVariants as status
use Rattle.desk_io.specs.Giving.{AddsFront}
use Rattle.audit_desk.specs.Found.{Finds}
use Rattle.day_replay.specs.Ends.{WritesOrFails}
use Rattle.crewdesk_main.specs.Lines.{HasFewLines}
use Rattle.crewdesk_main.proofs.ContinueLemmas.{IsAudited-Resumes, Continues-Resumes, FindsWrongCommand-at, EndsByTheText-legal, EndsByTheText-found}
use Rattle.crewdesk_main.proofs.continue_text.continue_text.Goals as goal

pub returns-in-Ok-clause-fine : goal.returns-in-Ok-clause-fine
returns-in-Ok-clause-fine g c = λ fine.
    Continues-Resumes c.one_history_is_legal.ensures.grows _ c.args.text.now _ _ _ (Appends (g.K.Sink.held c.args.sink.now) (g.K.Sink.held c.go_on.new.sink))
    c.cut_at_plus.ensures.journal c.cut_at_plus.ensures.more (omega (arith, c.count_lines.ensures, c.if-count_lines-gt-JOURNAL_LINES.false)) c.in-Ok.ensures.legal (c.go_on.ensures.fine fine)

pub returns-in-Ok-clause-write_fault : goal.returns-in-Ok-clause-write_fault
returns-in-Ok-clause-write_fault g c = λ fault.
    Continues-Resumes c.one_history_is_legal.ensures.grows _ c.args.text.now _ _ _ (AddsFront (g.K.Sink.held c.args.sink.now) (g.K.Sink.held c.go_on.new.sink))
    c.cut_at_plus.ensures.journal c.cut_at_plus.ensures.more (omega (arith, c.count_lines.ensures, c.if-count_lines-gt-JOURNAL_LINES.false)) c.in-Ok.ensures.legal (c.go_on.ensures.write_fault fault)

pub returns-in-Ok-clause-no_opening : goal.returns-in-Ok-clause-no_opening
returns-in-Ok-clause-no_opening g c = λ none. elim c.go_on.ensures.only [
  | inl is ↦ absurd cc
  | inr (inl is) ↦ absurd cc
  | inr (inr (inl is)) ↦ absurd cc
  | inr (inr (inr (inl is))) ↦ absurd cc
  | inr (inr (inr (inr is))) ↦ absurd cc
]

-- a command line that goes on with commands is neither wrong nor ends by a fault of the input
no_form : (s : Status) → (s ≡ status.Fine) ⊎ ((s ≡ status.WriteFault) ⊎ ((s ≡ status.TooLong) ⊎ ((s ≡ status.Unreadable) ⊎ (s ≡ status.NoMemory))))
    → (s ≡ status.Usage → ⊥) × (s ≡ status.ReadFault → ⊥)
no_form s (inl is) = (λ usage. cc, λ fault. cc)
no_form s (inr (inl is)) = (λ usage. cc, λ fault. cc)
no_form s (inr (inr (inl is))) = (λ usage. cc, λ fault. cc)
no_form s (inr (inr (inr (inl is)))) = (λ usage. cc, λ fault. cc)
no_form s (inr (inr (inr (inr is)))) = (λ usage. cc, λ fault. cc)

pub returns-in-Ok-clause-form : goal.returns-in-Ok-clause-form
returns-in-Ok-clause-form g c = no_form c.go_on.result c.go_on.ensures.only

pub returns-in-Ok-clause-unreadable : goal.returns-in-Ok-clause-unreadable
returns-in-Ok-clause-unreadable g c = λ told.
    let audited = IsAudited-Resumes _ c.args.text.now _ _ c.cut_at_plus.ensures.journal (omega (arith, c.count_lines.ensures, c.if-count_lines-gt-JOURNAL_LINES.false)) c.in-Ok.ensures.legal in
    inr (FindsWrongCommand-at c.args.text.now _ _ (WritesOrFails (g.K.Sink.held c.args.sink.now) (g.K.Sink.held c.go_on.new.sink) (g.K.Sink.faults c.args.sink.now) (g.K.Sink.faults c.go_on.new.sink))
    c.cut_at_plus.ensures.more audited (c.go_on.ensures.unreadable told))

pub returns-in-Ok-clause-by_the_text : goal.returns-in-Ok-clause-by_the_text
returns-in-Ok-clause-by_the_text g c =
    let audited = IsAudited-Resumes _ c.args.text.now _ _ c.cut_at_plus.ensures.journal (omega (arith, c.count_lines.ensures, c.if-count_lines-gt-JOURNAL_LINES.false)) c.in-Ok.ensures.legal in
    EndsByTheText-legal c.an_audit_finds_one_verdict.ensures c.go_on.result c.args.text.now _ _ c.cut_at_plus.ensures.more audited c.go_on.ensures.by_the_commands

pub returns-in-Err-clause-by_the_text : goal.returns-in-Err-clause-by_the_text
returns-in-Err-clause-by_the_text g c =
    EndsByTheText-found c.an_audit_finds_one_verdict.ensures c.tell.result c.args.text.now c.in-Err.verdict
    (subst HasFewLines c.cut_at_plus.ensures.journal (omega (arith, c.count_lines.ensures, c.if-count_lines-gt-JOURNAL_LINES.false)))
    (λ some. subst (λ j. Finds j c.in-Err.verdict) c.cut_at_plus.ensures.journal (c.in-Err.ensures.found some))
    c.in-Err.ensures.wrong c.tell.ensures.only
