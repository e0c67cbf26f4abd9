-- Entries that are sure.
use Rattle.std.proofs.Common.{◌≡◌, ◌≢◌, ◌≤◌, ◌==◌, ℕ, zero, suc, List, [], ◌∷◌, ◌++◌, length, take, refl, sym, ap, ◌∙◌, subst, arith}
use mathlib.Core.List.{IsPrefix}
use Rattle.std.proofs.lemmas.List.{take_all}
use Rattle.std.proofs.lemmas.List.Elements.{filter-append}
use Rattle.desk_model.specs.statements.Entry.{EntryValue}
use Rattle.turn_gate.specs.Seats.{SeatValue}
use Rattle.turn_gate.specs.Told.{own}
use Rattle.serve_desk.specs.declared.why.Why.{Why}
use Rattle.serve_desk.specs.declared.why.Why.TheVariants as why
use Rattle.serve_desk.specs.WatchSession.{put_of}
use Rattle.serve_desk.specs.Watches.{HasSure}
use Rattle.serve_desk.proofs.SightLemmas.{prefix-self}

-- where a list begins another, a caller's entries of it begin those of the other
pub own-begins : (es later : List EntryValue) (number : ℕ) → IsPrefix es later → IsPrefix (own es number) (own later number)
own-begins es later number begins = (own begins.0 number, sym (filter-append (λ e. e.caller == number) es begins.0) ∙ ap (λ l. own l number) begins.1)

-- and so many of its first those of the other
pub take-begins : (n : ℕ) (es later : List EntryValue) → IsPrefix es later → IsPrefix (take n es) (take n later)
take-begins zero es later begins = ([], refl)
take-begins (suc n) [] later begins = (take (suc n) later, refl)
take-begins (suc n) (e ∷ es) later begins =
    subst (λ (l : List EntryValue). IsPrefix (take (suc n) (e ∷ es)) (take (suc n) l)) begins.1
    (let rest = take-begins n es (es ++ begins.0) (begins.0, refl) in (rest.0, ap (λ l. e ∷ l) rest.1))

-- of what a seat knows, a beginning that isn't longer than what is sure is
HasSure-by : (seat next : SeatValue) (known put : List EntryValue) → IsPrefix known next.known → length known ≤ next.sure → own known seat.number ≡ own seat.known seat.number ++ put
    → HasSure seat next put
HasSure-by seat next known put begins few mine =
    subst (λ l. IsPrefix l (own (take next.sure next.known) seat.number)) mine
    (own-begins known (take next.sure next.known) seat.number (subst (λ l. IsPrefix l (take next.sure next.known)) (take_all next.sure known few) (take-begins next.sure known next.known begins)))

-- at the end of a session each entry of which a line may have been put is
pub HasSure-ends : (seat after next : SeatValue) (before last : List EntryValue) (ends : Why) → length after.known ≤ after.sure → after.sure ≤ next.sure
    → (ends ≢ why.JournalFault → length next.known ≤ next.sure) → IsPrefix after.known next.known → own after.known seat.number ≡ own seat.known seat.number ++ before
    → own next.known seat.number ≡ own seat.known seat.number ++ (before ++ last) → HasSure seat next (put_of ends before last)
HasSure-ends seat after next before last why.JournalFault sure grows all begins had has = HasSure-by seat next after.known before begins (omega (arith, sure, grows)) had
HasSure-ends seat after next before last why.End sure grows all begins had has = HasSure-by seat next next.known (before ++ last) (prefix-self next.known) (all (λ is. cc)) has
HasSure-ends seat after next before last why.LineFault sure grows all begins had has = HasSure-by seat next next.known (before ++ last) (prefix-self next.known) (all (λ is. cc)) has
HasSure-ends seat after next before last why.Spent sure grows all begins had has = HasSure-by seat next next.known (before ++ last) (prefix-self next.known) (all (λ is. cc)) has
HasSure-ends seat after next before last why.TooManyLines sure grows all begins had has = HasSure-by seat next next.known (before ++ last) (prefix-self next.known) (all (λ is. cc)) has
