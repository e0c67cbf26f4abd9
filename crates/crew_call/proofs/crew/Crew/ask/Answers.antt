use Rattle.std.proofs.Common.{rules, ◌≡◌, Option, None, Some, IsNone, IfSome, refl, sym, ◌∙◌}
use Rattle.desk_model.specs.statements.Statement.{StatedValue}
use Rattle.crew_call.specs.declared.crew_outcome.CrewOutcome.{CrewOutcome}
use Rattle.crew_call.specs.CrewCalls.{CrewValue, AsksNext, IsOver}
use Rattle.crew_call.specs.Course.{IsFront, stated_after}
use Rattle.crew_call.proofs.CourseLemmas.{asks-of, over-of, silent-of}
use Rattle.crew_call.proofs.crew.Crew.ask.Goals as goal

asks : (c : CrewValue) (next : Option StatedValue) → IsFront c.minute c.first c.second c.heard → next ≡ stated_after c.minute c.first c.second c.heard → IfSome next (λ s. AsksNext c s)
asks c None front is = search rules
asks c (Some s) front is = asks-of c.minute c.first c.second c.heard s front (sym is)

ends : (c : CrewValue) (next : Option StatedValue) → IsFront c.minute c.first c.second c.heard → next ≡ stated_after c.minute c.first c.second c.heard
    → (IsNone next → (told : CrewOutcome) × IsOver c told) × (((told : CrewOutcome) × IsOver c told) → IsNone next)
ends c None front is = ((λ none. over-of c.minute c.first c.second c.heard front (sym is)), (λ over. search rules))
ends c (Some s) front is = ((λ none. absurd (search rules)), (λ over. absurd (some-none (is ∙ silent-of c.minute c.first c.second c.heard over.0 over.1))))
  where
    some-none : {x : StatedValue} → Some x ≡ None → ⊥
    some-none same = cc

pub returns-clause-next : goal.returns-clause-next
returns-clause-next c = asks c.args.self.now c.next.result c.next.ensures.front c.next.ensures.value

pub returns-clause-over : goal.returns-clause-over
returns-clause-over c = ends c.args.self.now c.next.result c.next.ensures.front c.next.ensures.value
