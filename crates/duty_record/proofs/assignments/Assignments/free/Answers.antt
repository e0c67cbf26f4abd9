use Rattle.indexmap.specs.IndexMap.{get}
use Rattle.std.proofs.Common.{nat_eq}
use Rattle.duty_record.specs.Kept.{annulments}
use Rattle.duty_record.proofs.AssignmentLemmas.{held-free}
use Rattle.duty_record.proofs.assignments.Assignments.free.Goals as goal

pub returns : goal.returns
returns c has held =
    let a = c.args.self.now in
    held-free (annulments a) (get nat_eq a.accepted) (get nat_eq c.swap_remove.new.self) has c.args.person c.swap_remove.ensures.updates.0 held
