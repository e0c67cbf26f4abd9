use Rattle.std.proofs.Common.{refl, ◌∙◌, sym, subst, arith}
use Rattle.serve_desk.specs.WatchAnswers.{PutsAllOn}
use Rattle.serve_desk.proofs.PutLemmas.{PutsAllOn-none, entries-next, entries-stop, none-of, no-fault-of}
use Rattle.serve_desk.proofs.watch_crew.put_entries.Goals as goal

pub loop-entry-init : goal.loop-entry-init
loop-entry-init g c = record { put = PutsAllOn-none _; faults = refl }

pub returns-then-is_some-clause-puts : goal.returns-then-is_some-clause-puts
returns-then-is_some-clause-puts g c =
    entries-stop c.args.entries.now _ _ _ _ (sym c.is_some.ensures ∙ c.if-is_some.true)
    (entries-next c.args.entries.now c.loop-entry.entry-index c.entry-item.result _ _ _ _ (omega (arith, c.loop-entry-test.true, c.type_inv.entries)) c.loop-entry.invariant.put
    c.put_some-ends.ensures.puts)

pub loop-entry-preserved : goal.loop-entry-preserved
loop-entry-preserved g c =
    let on = none-of _ (sym c.is_some.ensures ∙ c.if-is_some.false) in record {
      put = subst (PutsAllOn _ _ _) on
          (entries-next c.args.entries.now c.loop-entry.entry-index c.entry-item.result _ _ _ _ (omega (arith, c.loop-entry-test.true, c.type_inv.entries)) c.loop-entry.invariant.put
          c.put_some-ends.ensures.puts);
      faults = c.put_some-ends.ensures.no_fault (no-fault-of _ on) ∙ c.loop-entry.invariant.faults;
    }
