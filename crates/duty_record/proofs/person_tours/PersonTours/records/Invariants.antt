use Rattle.std.proofs.Common.{◌≡◌, ℕ, Option, List, map, take}
use Rattle.desk_model.specs.statements.Job.{JobValue}
use Rattle.duty_record.specs.Deeds.{Deed}
use Rattle.duty_record.specs.EndedTours.{ended_tours}
use Rattle.duty_record.specs.Kept.{marked_record, IsOf, AreMarks}
use Rattle.duty_record.proofs.person_tours.PersonTours.records.Given as goal

abbrev pub invariant-loop-tour : goal.invariant-loop-tour
invariant-loop-tour l = (ds : List Deed) (made : ℕ → Option JobValue) → IsOf l.self ds → AreMarks l.relief made
    → l.list.items ≡ map (marked_record l.person made) (take l.tour-index (ended_tours ds))
