use Rattle.std.proofs.Common.{◌∙◌}
use Rattle.month_hours.proofs.ShareLemmas.{over_share-with, added-few}
use Rattle.month_hours.proofs.limit.Limit.over_with.Goals as goal

pub returns : goal.returns
returns c =
    let l = c.args.self.now in
    let p = c.args.plan.now in
    let m = c.args.month in
    (rw c.of.ensures at c.over_share.ensures) (added-few l c.args.so_far p m c.requires) ∙ over_share-with l c.args.so_far p m
