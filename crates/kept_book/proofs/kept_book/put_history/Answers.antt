use Rattle.std.proofs.Common.{◌∙◌}
use Rattle.kept_book.proofs.KeptLemmas.{tells-opening, tells-one-more}
use Rattle.kept_book.proofs.kept_book.put_history.Goals as goal

pub loop-entry-init : goal.loop-entry-init
loop-entry-init g c = record {
  written = tells-opening _ _ c.args.opening.now _ c.requires c.if-not-append.ensures.all (c.as_slice.ensures.value ∙ c.write_opening.ensures);
  faults = c.if-not-append.ensures.no_fault;
}

pub loop-entry-preserved : goal.loop-entry-preserved
loop-entry-preserved g c = record {
  written = tells-one-more _ _ c.args.opening.now c.args.entries.now c.loop-entry.entry-index c.entry-item.result _ c.loop-entry-test.true c.entry-item.is c.loop-entry.invariant.written
      c.if-not-append-2.ensures.all (c.as_slice-in-loop-entry.ensures.value ∙ c.fill_with_entry.ensures);
  faults = c.if-not-append-2.ensures.no_fault ∙ c.loop-entry.invariant.faults;
}
