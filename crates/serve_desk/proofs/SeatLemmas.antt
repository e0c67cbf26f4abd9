-- The calls of a seat, one after another.
use Rattle.std.proofs.Common.{◌≡◌, ℕ, ◌<◌, List, [], ◌∷◌, ◌++◌, length, refl, sym, ap, ◌∙◌, subst, append-nil, append_assoc, length-append, arith}
use mathlib.Core.List.{IsPrefix}
use Rattle.desk_model.specs.statements.Entry.{EntryValue}
use Rattle.desk_model.specs.histories.History.{history_of}
use Rattle.desk_model.specs.histories.Legal.{IsLegal}
use Rattle.desk_model.specs.statements.Opening.{OpeningValue}
use Rattle.desk_model.specs.statements.Statement.{StatedValue}
use Rattle.turn_gate.specs.Seats.{SeatValue}
use Rattle.turn_gate.specs.Told.{own}
use Rattle.crew_call.specs.declared.crew_outcome.CrewOutcome.{CrewOutcome}
use Rattle.desk_shared.specs.Calls.{Calls}
use Rattle.desk_shared.specs.Crews.{MakesCalls, CallsCrew}
use Rattle.desk_shared.specs.declared.receipt.Receipt.{Receipt}
use Rattle.serve_desk.specs.Seats.{Made}

-- none
pub Made-none : (o : OpeningValue) (seat : SeatValue) → Made o seat seat []
Made-none o seat = record {
  number = refl;
  calls = omega arith;
  own_calls = sym (append-nil (own seat.known seat.number));
  begins = ([], append-nil seat.known);
  legal = λ some. absurd (omega arith);
  none = λ is. refl;
}

-- one, by its receipt
pub Made-one : (o : OpeningValue) (seat later : SeatValue) (s : StatedValue) (receipt : Receipt) → Calls o seat later s receipt → Made o seat later (receipt.entry ∷ [])
Made-one o seat later s receipt call = record {
  number = call.number;
  calls = call.calls;
  own_calls = call.own_calls;
  begins = call.begins;
  legal = λ some. call.legal;
  none = λ is. absurd (omega arith);
}

-- those of a crew call
pub Made-crew : (o : OpeningValue) (seat later : SeatValue) (t v w : ℕ) (es : List EntryValue) (told : CrewOutcome) → CallsCrew o seat later t v w es told → Made o seat later es
Made-crew o seat later t v w es told crew = record {
  number = crew.called.number;
  calls = crew.called.calls;
  own_calls = crew.called.own_calls;
  begins = crew.called.begins;
  legal = λ some. crew.legal;
  none = λ is. none es crew.each is;
}
  where
    none : (es : List EntryValue) → MakesCalls o seat es later → length es ≡ 0 → later ≡ seat
    none [] made is = made
    none (e ∷ es) made is = absurd (omega (arith, is))

-- what begins a list that begins another begins that
prefix-further : {A : Type 0} (xs ys zs : List A) → IsPrefix xs ys → IsPrefix ys zs → IsPrefix xs zs
prefix-further xs ys zs p q = (p.0 ++ q.0, sym (append_assoc xs p.0 q.0) ∙ ap (λ l. l ++ q.0) p.1 ∙ q.1)

legal-then : (o : OpeningValue) (seat later last : SeatValue) (es more : List EntryValue) → Made o seat later es → Made o later last more → 0 < length (es ++ more)
    → IsLegal (history_of o last.known)
legal-then o seat later last es [] made then some =
    subst (λ s. IsLegal (history_of o s.known)) (sym (then.none refl)) (made.legal (subst (λ l. 0 < length l) (append-nil es) some))
legal-then o seat later last es (e ∷ more) made then some = then.legal (omega arith)

-- some, and then more
pub Made-then : (o : OpeningValue) (seat later last : SeatValue) (es more : List EntryValue) → Made o seat later es → Made o later last more → Made o seat last (es ++ more)
Made-then o seat later last es more made then = record {
  number = then.number ∙ made.number;
  calls = omega (arith, made.calls, then.calls, length-append es more);
  own_calls = subst (λ n. own last.known n ≡ own later.known n ++ more) made.number then.own_calls ∙ ap (λ l. l ++ more) made.own_calls ∙ append_assoc (own seat.known seat.number) es more;
  begins = prefix-further seat.known later.known last.known made.begins then.begins;
  legal = legal-then o seat later last es more made then;
  none = λ is. then.none (omega (arith, length-append es more, is)) ∙ made.none (omega (arith, length-append es more, is));
}
