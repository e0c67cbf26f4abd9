-- Calls that a seat makes one after another, as a crew call does.
use Rattle.std.proofs.Common.{◌≡◌, ◌∙◌, ℕ, List, [], ◌∷◌, ◌++◌, refl, sym, ap, subst, append-nil, append_assoc, arith}
use mathlib.Core.List.{IsPrefix}
use Rattle.crew_call.specs.declared.crew_outcome.CrewOutcome.{CrewOutcome}
use Rattle.crew_call.specs.CrewCalls.{CrewCall, CrewValue, IsOver}
use Rattle.crew_call.specs.Outcomes.{StandIn, OutcomesInWords}
use Rattle.desk_model.specs.statements.Entry.{EntryValue}
use Rattle.desk_model.specs.histories.History.{History, history_of}
use Rattle.desk_model.specs.histories.Legal.{IsLegal, next}
use Rattle.desk_model.specs.statements.Opening.{OpeningValue}
use Rattle.desk_model.specs.statements.Statement.{StatedValue}
use Rattle.turn_gate.specs.Seats.{SeatValue}
use Rattle.turn_gate.specs.Told.{own}
use Rattle.desk_shared.specs.Calls.{Calls}
use Rattle.desk_shared.specs.Crews.{IsCall, MakesCalls, HasCalled, CallsCrew}
use Rattle.desk_shared.specs.declared.receipt.Receipt.{Receipt}

next-stated : (h : History) (caller : ℕ) (s : StatedValue) (e : EntryValue) → e ≡ next h caller s → e.stated ≡ s
unfolding next
next-stated h caller s e is = ap (λ x. x.stated) is

-- a call's entry has what was stated, and is one of a call
pub Calls-stated : (o : OpeningValue) (seat later : SeatValue) (s : StatedValue) (receipt : Receipt) → Calls o seat later s receipt → receipt.entry.stated ≡ s
Calls-stated o seat later s receipt call = next-stated (history_of o call.before) seat.number s receipt.entry call.entry

pub Calls-is : (o : OpeningValue) (seat later : SeatValue) (s : StatedValue) (receipt : Receipt) → Calls o seat later s receipt → IsCall o seat later receipt.entry
Calls-is o seat later s receipt call = (receipt.place, subst (λ x. Calls o seat later x receipt) (sym (Calls-stated o seat later s receipt call)) call)

-- one call more
pub MakesCalls-more : (o : OpeningValue) (seat between later : SeatValue) (es : List EntryValue) (e : EntryValue) → MakesCalls o seat es between → IsCall o between later e
    → MakesCalls o seat (es ++ e ∷ []) later
MakesCalls-more o seat between later [] e made call = (later, (subst (λ x. IsCall o x later e) made call, refl))
MakesCalls-more o seat between later (x ∷ es) e made call = (made.0, (made.1.0, MakesCalls-more o made.0 between later es e made.1.1 call))

-- what the seat knows after the last is legal
pub MakesCalls-legal : (o : OpeningValue) (seat later : SeatValue) (e : EntryValue) (es : List EntryValue) → MakesCalls o seat (e ∷ es) later → IsLegal (history_of o later.known)
MakesCalls-legal o seat later e [] made = subst (λ (x : SeatValue). IsLegal (history_of o x.known)) (sym made.1.1) made.1.0.1.legal
MakesCalls-legal o seat later e (f ∷ es) made = MakesCalls-legal o made.0 later f es made.1.1

prefix-trans : (xs ys zs : List EntryValue) → IsPrefix xs ys → IsPrefix ys zs → IsPrefix xs zs
prefix-trans xs ys zs one two = (one.0 ++ two.0, sym (append_assoc xs one.0 two.0) ∙ ap (λ l. l ++ two.0) one.1 ∙ two.1)

pub MakesCalls-has : (o : OpeningValue) (seat later : SeatValue) (es : List EntryValue) → MakesCalls o seat es later → HasCalled seat later es
MakesCalls-has o seat later [] made = record {
  number = ap (λ (x : SeatValue). x.number) made;
  calls = omega (arith, ap (λ (x : SeatValue). x.calls) made);
  begins = ([], append-nil seat.known ∙ sym (ap (λ (x : SeatValue). x.known) made));
  own_calls = ap (λ (x : SeatValue). own x.known seat.number) made ∙ sym (append-nil (own seat.known seat.number));
  stand = ap (λ (x : SeatValue). x.known) made;
}
MakesCalls-has o seat later (e ∷ es) made =
    let between = made.0 in
    let call = made.1.0.1 in
    let rest = MakesCalls-has o between later es made.1.1 in
    record {
      number = rest.number ∙ call.number;
      calls = omega (arith, rest.calls, call.calls);
      begins = prefix-trans seat.known between.known later.known call.begins rest.begins;
      own_calls = subst (λ n. own later.known n ≡ own between.known n ++ es) call.number rest.own_calls ∙ ap (λ l. l ++ es) call.own_calls ∙ append_assoc (own seat.known seat.number) (e ∷ []) es;
      stand = (call.knew.0, subst (λ l. StandIn l es later.known) (call.known ∙ ap (λ l. l ++ e ∷ []) (sym call.knew.1)) rest.stand);
    }

-- a crew call has an entry
crew-legal : (o : OpeningValue) (seat later : SeatValue) (t v w : ℕ) (es : List EntryValue) (told : CrewOutcome) → CrewCall t v w es told → MakesCalls o seat es later
    → IsLegal (history_of o later.known)
crew-legal o seat later t v w [] told call made = elim call [ ]
crew-legal o seat later t v w (e ∷ es) told call made = MakesCalls-legal o seat later e es made

pub CallsCrew-over : OutcomesInWords → (o : OpeningValue) (seat later : SeatValue) (t v w : ℕ) (crew : CrewValue) (es : List EntryValue) (told : CrewOutcome) → crew.minute ≡ t → crew.first ≡ v
    → crew.second ≡ w → es ≡ crew.heard → MakesCalls o seat crew.heard later → IsOver crew told → CallsCrew o seat later t v w es told
CallsCrew-over says o seat later t v w crew es told minute first second entries made over =
    let call : CrewCall t v w es told = rw (sym minute, sym first, sym second, entries) over in
    let each : MakesCalls o seat es later = rw entries made in
    let has = MakesCalls-has o seat later es each in
    let legal = crew-legal o seat later t v w es told call each in
    record {
      each = each;
      called = has;
      legal = legal;
      call = call;
      says = says o seat.known es later.known t v w told legal has.stand call;
    }
