use Rattle.std.proofs.Common.{◌≡◌, ◌≤◌, ◌≢◌, ◌∙◌, ℕ, Bool, true, ◌&&◌, is_some, IfSome, IfNone, refl, Option, None, Some, [], ◌∷◌, ◌++◌, length, ap, subst, sym, arith, length-append}
use Rattle.board_window.specs.declared.showing.Showing.{Showing}
use Rattle.crew_call.specs.CrewCalls.{CrewValue, crew_of}
use Rattle.desk_model.specs.statements.Entry.{EntryValue}
use Rattle.turn_gate.specs.Seats.{GateValue, SeatValue, IsSeatOf}
use Rattle.desk_shared.specs.Crews.{IsCall, MakesCalls}
use Rattle.desk_shared.specs.Kept.{KnowsOnlySure}
use Rattle.desk_shared.specs.Shown.{ShowsTo}
use Rattle.desk_shared.proofs.CrewLemmas.{MakesCalls-more, CallsCrew-over}
use Rattle.desk_shared.proofs.shown_desk.ShownDesk.crew.Invariants.{GoesOn}
use Rattle.desk_shared.proofs.shown_desk.ShownDesk.crew.Goals as goal

never-none : (P : Type 0) (then : Option Showing) (always : Bool) → IfNone then (always ≢ true) → always ≡ true → IfNone then P
never-none P None always unshown is = absurd (unshown is)
never-none P (Some showing) always unshown is = tt

both-kept : (kept : Bool) (then : Option Showing) (always : Bool) → IfNone then (always ≢ true) → always ≡ true → kept ≡ true → (kept && is_some then) ≡ true
both-kept kept None always unshown is all = absurd (unshown is)
both-kept kept (Some showing) always unshown is all = rw all refl

-- with the entry that was asked for, a call more
goes-on : (always : Bool) (desk : GateValue) (seat now later : SeatValue) (t v w : ℕ) (crew next : CrewValue) (shown then : Option Showing) (kept : Bool) (e : EntryValue)
    → GoesOn always desk seat now t v w crew shown kept → next ≡ crew_of crew.minute crew.first crew.second (crew.heard ++ e ∷ []) → IsCall desk.start.book.opening now later e → IsSeatOf desk later
    → IfSome then (λ showing. ShowsTo desk showing.note showing.behind later.known) → IfNone then (always ≢ true) → IfSome then (λ showing. KnowsOnlySure later) → now.sure ≤ later.sure → (told : Bool) → told ≡ is_some then
    → GoesOn always desk seat later t v w next then (kept && told)
goes-on always desk seat now later t v w crew next shown then kept e was is call sits shows unshown sure no_fewer told same = record {
  sits = sits;
  minute = ap (λ x. x.minute) is ∙ was.minute;
  first = ap (λ x. x.first) is ∙ was.first;
  second = ap (λ x. x.second) is ∙ was.second;
  made = subst (λ x. MakesCalls desk.start.book.opening seat x.heard later) (sym is) (MakesCalls-more desk.start.book.opening seat now later crew.heard e was.made call);
  calls = omega (arith, call.1.calls, was.calls, ap (λ x. length x.heard) is, length-append crew.heard (e ∷ []));
  shows = shows;
  begun = λ is. never-none _ then always unshown is;
  all = λ is. ap (λ t. kept && t) same ∙ both-kept kept then always unshown is (was.all is);
  sure = sure;
  no_fewer = omega (arith, was.no_fewer, no_fewer);
}

pub loop-stated-preserved : goal.loop-stated-preserved
loop-stated-preserved g c = (
  goes-on _ c.args.self.now c.args.seat c.loop-stated.seat c.called-after.result.0 c.args.minute c.args.first c.args.second c.loop-stated.crew c.hear.new.self c.loop-stated.shown
      c.called-after.result.2 c.loop-stated.kept c.called-after.result.1 c.loop-stated.invariant.0 c.hear.ensures c.called-after.ensures.call c.called-after.ensures.seat c.called-after.ensures.shown
      c.called-after.ensures.showing c.called-after.ensures.sure c.called-after.ensures.no_fewer c.is_some.result c.is_some.ensures,
  c.loop-stated.invariant.1,
)

pub returns-clause-calls : goal.returns-clause-calls
returns-clause-calls g c =
    let was = c.loop-stated.invariant.0 in
    CallsCrew-over c.what_an_outcome_says.ensures c.args.self.now.start.book.opening c.args.seat c.loop-stated.seat c.args.minute c.args.first c.args.second c.loop-stated.crew _
    c.in-Some-outcome.outcome was.minute was.first was.second c.entries.ensures.some was.made ((c.outcome.ensures c.in-Some-outcome.outcome).1 c.in-Some-outcome.is)
