-- A call, from the turn that it takes to the one that it gives back.
use Rattle.std.proofs.Common.{◌≡◌, ◌≤◌, ◌<◌, ◌∙◌, arith, length, length-append, ℕ, List, [], ◌∷◌, ◌++◌, sym, ap, subst}
use mathlib.Core.List.{IsPrefix}
use Rattle.desk_model.specs.statements.Entry.{EntryValue}
use Rattle.desk_model.specs.histories.History.{history_of}
use Rattle.desk_model.specs.histories.Legal.{IsLegal, next}
use Rattle.desk_model.specs.statements.Opening.{OpeningValue}
use Rattle.desk_model.specs.statements.Statement.{StatedValue}
use Rattle.turn_gate.specs.declared.told.Told.{Told}
use Rattle.turn_gate.specs.Seats.{SeatValue, TurnValue}
use Rattle.turn_gate.specs.Told.{own}
use Rattle.turn_gate.specs.Turns.{Took, MayGive, Gave}
use Rattle.desk_shared.specs.Calls.{Calls}
use Rattle.desk_shared.specs.Kept.{KnowsOnlySure}
use Rattle.desk_shared.specs.declared.receipt.Receipt.{Receipt}

-- an entry that comes next is of who states it
next-caller : (o : OpeningValue) (es : List EntryValue) (caller : ℕ) (s : StatedValue) (e : EntryValue) → e ≡ next (history_of o es) caller s → e.caller ≡ caller
unfolding next
next-caller o es caller s e is = ap (λ x. x.caller) is

-- a book with the entry of the turn's seat beside, and no fewer that are sure, may be given back
pub MayGive-next : (seat : SeatValue) (turn : TurnValue) (book later : Told) (caller : ℕ) (s : StatedValue) (e : EntryValue) → Took seat turn book → caller ≡ turn.number
    → e ≡ next (history_of book.opening book.entries) caller s → history_of later.opening later.entries ≡ history_of book.opening (book.entries ++ e ∷ [])
    → later.room ≡ book.room → later.wall ≡ book.wall → book.sure ≤ later.sure → MayGive turn later
MayGive-next seat turn book later caller s e took who is more room wall sure = record {
  entry = e;
  more = ap (λ h. h.entries) more ∙ ap (λ (t : Told). t.entries ++ e ∷ []) took.taken;
  caller = next-caller book.opening book.entries caller s e is ∙ who;
  opening = ap (λ h. h.opening) more ∙ took.of_gate.opening ∙ ap (λ k. k.book.opening) (sym took.start);
  room = room ∙ took.of_gate.room ∙ ap (λ k. k.book.room) (sym took.start);
  wall = wall ∙ took.of_gate.wall ∙ ap (λ k. k.book.wall) (sym took.start);
  sure = omega (arith, sure, ap (λ (t : Told). t.sure) took.taken);
}

-- a seat that took a turn, and gave it back with the entry of its call, made that call
pub Calls-gave : ((entries : List EntryValue) (e : EntryValue) (number : ℕ) → e.caller ≡ number → own (entries ++ e ∷ []) number ≡ own entries number ++ e ∷ [])
    → ((known entries : List EntryValue) (e : EntryValue) → IsPrefix known entries → IsPrefix known (entries ++ e ∷ []))
    → (seat later : SeatValue) (turn : TurnValue) (book given : Told) (caller place : ℕ) (s : StatedValue) (e : EntryValue) → Took seat turn book → Gave turn given later
    → caller ≡ turn.number → place ≡ turn.place → e ≡ next (history_of book.opening book.entries) caller s
    → history_of given.opening given.entries ≡ history_of book.opening (book.entries ++ e ∷ []) → IsLegal (history_of given.opening given.entries)
    → Calls seat.start.book.opening seat later s (record { place = place; entry = e })
Calls-gave mine begins seat later turn book given caller place s e took gave who at is more legal =
    let opening : given.opening ≡ seat.start.book.opening = ap (λ h. h.opening) more ∙ took.of_gate.opening in
    let entries : given.entries ≡ book.entries ++ e ∷ [] = ap (λ h. h.entries) more in
    let known : later.known ≡ book.entries ++ e ∷ [] = gave.known ∙ entries in
    let number : caller ≡ seat.number = who ∙ took.number in
    record {
      before = book.entries;
      place = at ∙ sym took.place;
      entry = is ∙ ap (λ o. next (history_of o book.entries) caller s) took.of_gate.opening ∙ ap (λ n. next (history_of seat.start.book.opening book.entries) n s) number;
      known = known;
      knew = took.knows.known;
      begins = subst (λ l. IsPrefix seat.known l) (sym known) (begins seat.known book.entries e took.knows.known);
      own_calls = ap (λ l. own l seat.number) known ∙ mine book.entries e seat.number (next-caller book.opening book.entries caller s e is ∙ number)
          ∙ ap (λ l. l ++ e ∷ []) took.knows.own;
      legal = subst (λ l. IsLegal (history_of seat.start.book.opening l)) (sym gave.known) (subst (λ o. IsLegal (history_of o given.entries)) opening legal);
      number = gave.number ∙ took.number;
      calls = gave.calls ∙ took.calls;
    }

-- a seat that knows more as sure made the same call
pub Calls-sure : (o : OpeningValue) (seat later now : SeatValue) (s : StatedValue) (receipt : Receipt) → Calls o seat later s receipt → now ≡ record later { sure = now.sure } → Calls o seat now s receipt
Calls-sure o seat later now s receipt call same = subst (λ (l : SeatValue). Calls o seat l s receipt) (sym same) (record {
  before = call.before;
  place = call.place;
  entry = call.entry;
  known = call.known;
  knew = call.knew;
  begins = call.begins;
  own_calls = call.own_calls;
  legal = call.legal;
  number = call.number;
  calls = call.calls;
})

-- where its call's entry is sure, it knows no other
pub Calls-knows : (o : OpeningValue) (seat later : SeatValue) (s : StatedValue) (receipt : Receipt) → Calls o seat later s receipt → receipt.place < later.sure → KnowsOnlySure later
Calls-knows o seat later s receipt call sure = omega (arith, sure, call.place, ap length call.known, length-append call.before (receipt.entry ∷ []))
