use Rattle.indexmap.specs.IndexMap.{get}
use Rattle.std.proofs.Common.{◌≡◌, ◌+◌, nat_eq, arith}
use Rattle.std.proofs.lemmas.Grind.{common_steps}
use Rattle.duty_record.specs.Kept.{annulments}
use Rattle.duty_record.proofs.AssignmentLemmas.{held-annul, counted-once}
use Rattle.duty_record.proofs.assignments.Assignments.annul.Goals as goal

pub returns : goal.returns
returns c has held =
    let a = c.args.self.now in
    let one_more : c.in_ok-times.times ≡ annulments a c.args.vac + 1 = grind (arith, common_steps) in
    held-annul (annulments a) _ (get nat_eq a.accepted) has c.args.vac
    (counted-once (get nat_eq a.annulled) (get nat_eq c.insert.new.self) c.args.vac c.in_ok-times.times one_more c.in_ok-insert.ensures.updates.0) held
