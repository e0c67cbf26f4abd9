use Rattle.std.proofs.Common.{subst}
use Rattle.std.specs.List.{All}
use Rattle.std.proofs.lemmas.List.{take_all}
use Rattle.std.proofs.lemmas.List.Elements.{All-more}
use Rattle.fast_core.specs.Unfilled.{IsOutOrBarred}
use Rattle.fast_core.proofs.kept_desk.KeptDesk.are_barred.Goals as goal

pub loop-person-preserved : goal.loop-person-preserved
loop-person-preserved c h tells asked =
    let so = IsOutOrBarred h c.args.moment c.args.job.now in
    All-more so c.args.persons.now c.loop-person.person-index c.person-item.result c.loop-person-test.true (c.loop-person.invariant h tells asked)
    (subst so c.person-item.is (c.may_be_called.ensures h tells asked c.if-may_be_called.false))

pub returns : goal.returns
returns c h tells asked is =
    subst (All (IsOutOrBarred h c.args.moment c.args.job.now)) (take_all c.loop-person.person-index c.args.persons.now c.loop-person-test.false) (c.loop-person.invariant h tells asked)
