use Rattle.indexmap.specs.IndexMap.{get}
use Rattle.std.proofs.Common.{nat_eq, sym}
use Rattle.duty_record.specs.Kept.{annulments}
use Rattle.duty_record.proofs.AssignmentLemmas.{held-accept}
use Rattle.duty_record.proofs.assignments.Assignments.accept.Goals as goal

pub returns : goal.returns
returns c has held =
    let a = c.args.self.now in
    let counted = c.annulments-annulled.ensures in
    held-accept (annulments a) (get nat_eq a.accepted) (get nat_eq c.insert.new.self) has c.args.vac c.args.person
    (λ p. rw (sym counted) (c.in_ok-insert.ensures.updates.0 p)) held
