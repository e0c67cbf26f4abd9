use Rattle.std.proofs.Common.{subst}
use Rattle.fast_core.specs.Unfilled.{IsUnfilledBut}
use Rattle.fast_core.proofs.UnfilledLemmas.{made-as, still-unfilled}
use Rattle.fast_core.proofs.kept_desk.KeptDesk.is_unfilled.Goals as goal

pub returns-in-Some : goal.returns-in-Some
returns-in-Some c h tells asked is =
    let job = c.args.job.now in
    let persons = c.in-Some.persons.now in
    still-unfilled h c.args.moment job.vac job persons (λ b p. (c.order_is_by_rank.ensures.by_rank h b).those p) (made-as h asked.made.0 job asked.made.1)
    (subst (λ v. IsUnfilledBut h v c.args.moment persons) c.vac.ensures (c.in-Some.ensures h tells.unfilled)) (c.are_barred.ensures h tells asked is)
