use Rattle.desk_model.specs.histories.History.{with_entry}
use Rattle.fast_core.proofs.CoreLemmas.{answered-next, some-later}
use Rattle.fast_core.proofs.fast_core.FastCore.answer_counted.Goals as goal

pub returns-clause-stands : goal.returns-clause-stands
returns-clause-stands g c h tells =
    c.keep.ensures.tells h tells
    (answered-next h c.args.caller c.args.stated.now c.next_entry-entry.result c.requires.caller c.next_entry-entry.ensures.stated (c.next_entry-entry.ensures.entry h tells))

pub invariant_of-self : goal.invariant_of-self
invariant_of-self g c = record {
  some = some-later c.args.self.now.desk c.keep.new.self c.args.self.now.some (λ h tells. (
    with_entry h c.next_entry-entry.result,
    c.keep.ensures.tells h tells
        (answered-next h c.args.caller c.args.stated.now c.next_entry-entry.result c.requires.caller c.next_entry-entry.ensures.stated (c.next_entry-entry.ensures.entry h tells)),
  ));
}
