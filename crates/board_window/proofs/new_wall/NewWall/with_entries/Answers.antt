use Rattle.std.proofs.Common.{[], ◌∷◌, ◌++◌, length, take, ap, sym, ◌∙◌, arith, length-append}
use Rattle.board_window.proofs.WallLemmas.{take-next, next-begins}
use Rattle.board_window.proofs.new_wall.NewWall.with_entries.Goals as goal

pub add-requires-clause-few : goal.add-requires-clause-few
add-requires-clause-few c =
    let es = c.args.entries.now in
    let i = c.loop-entry.entry-index in
    let e = c.entry-item.result in
    let begins = next-begins es i e c.loop-entry-test.true c.entry-item.is in
    omega (arith, c.requires.few, ap length c.loop-entry.invariant.entries, ap length begins.1, length-append (take i es ++ e ∷ []) begins.0, length-append (take i es) (e ∷ []))

pub add-requires-clause-legal : goal.add-requires-clause-legal
add-requires-clause-legal c =
    let e = c.entry-item.result in
    let begins = next-begins c.args.entries.now c.loop-entry.entry-index e c.loop-entry-test.true c.entry-item.is in
    rw (c.loop-entry.invariant.entries, c.loop-entry.invariant.opening) (c.the_first_entries_are_legal.ensures.begins _ _ c.args.entries.now begins c.requires.legal)

pub loop-entry-preserved : goal.loop-entry-preserved
loop-entry-preserved c =
    let es = c.args.entries.now in
    let i = c.loop-entry.entry-index in
    let e = c.entry-item.result in
    record {
      entries = ap (λ f. f.entries) c.in_ok-add.ensures.next ∙ (ap (λ xs. xs ++ e ∷ []) c.loop-entry.invariant.entries ∙ sym (take-next es i e c.loop-entry-test.true c.entry-item.is));
      opening = ap (λ f. f.wall.opening) c.in_ok-add.ensures.next ∙ c.loop-entry.invariant.opening;
    }
