use Rattle.std.proofs.Common.{◌≡◌, ℕ, List, Some, subst, sym}
use Rattle.desk_model.specs.statements.Entry.{EntryValue}
use Rattle.crew_call.specs.CrewCalls.{CrewValue, AsksNext, crew_of}
use Rattle.crew_call.specs.Course.{IsFront, entries_of, stated_after}
use Rattle.crew_call.proofs.CourseLemmas.{asked, few-of, front-more}
use Rattle.crew_call.proofs.crew.Crew.hear.Goals as goal

next : (t v w : ℕ) (heard : List EntryValue) (now : CrewValue) (e : EntryValue) → crew_of t v w heard ≡ now → AsksNext now e.stated → stated_after t v w heard ≡ Some e.stated
next t v w heard now e is asks = asked t v w heard e (subst (λ (x : CrewValue). AsksNext x e.stated) (sym is) asks)

pub with-self-inside-requires : goal.with-self-inside-requires
with-self-inside-requires c =
    let call = c.self.inside in
    few-of call.minute call.first call.second (entries_of call.heard) c.args.entry.now.stated (next call.minute call.first call.second (entries_of call.heard) c.args.self.now c.args.entry.now c.self.view_is c.requires)

pub invariant_of-self : goal.invariant_of-self
invariant_of-self c =
    let call = c.self.inside in (
      c.self.invariant.0,
      subst (IsFront call.minute call.first call.second) (sym c.with-self-inside.ensures)
          (front-more call.minute call.first call.second (entries_of call.heard) c.args.entry.now c.self.invariant.1
          (next call.minute call.first call.second (entries_of call.heard) c.args.self.now c.args.entry.now c.self.view_is c.requires)),
    )
