use Rattle.std.proofs.Common.{sym}
use Rattle.fast_core.proofs.kept_desk.KeptDesk.bar_of.Goals as goal

pub returns-in-Some : goal.returns-in-Some
returns-in-Some c h p who tells asked is known =
    let a = c.args.asked.now in
    sym (c.busy_bar.ensures h p who a.moment a.job.now c.in-Some.bar tells.legal is known c.in-Some.is)
