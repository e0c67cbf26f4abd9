-- Beginnings of one list, the entries of one caller, phases, and the notes of a new gate.
use Rattle.std.proofs.Common.{◌≡◌, ◌≢◌, ℕ, zero, suc, ◌+◌, ◌<◌, ◌≤◌, ◌==◌, List, [], ◌∷◌, ◌++◌, length, filter, refl, sym, ap, ◌∙◌, subst, append_assoc, append-nil, arith}
use mathlib.Core.List.{IsPrefix}
use mathlib.Core.Option.{some, some-injective, some-ne-none}
use lib.ListN.{get_elem?}
use Rattle.std.proofs.lemmas.Bool.Decides.{nat_tests}
use Rattle.std.proofs.lemmas.List.Elements.{filter-append}
use Rattle.desk_model.specs.statements.Entry.{EntryValue}
use Rattle.turn_gate.specs.declared.note.Note.{Note}
use Rattle.turn_gate.specs.declared.phase.Phase.{Phase}
use Rattle.turn_gate.specs.declared.phase.Phase.TheVariants.{Idle, Waiting, Turn}
use Rattle.turn_gate.specs.declared.told.Told.{Told}
use Rattle.turn_gate.specs.Told.{own, IsNumber}
use Rattle.turn_gate.specs.Notes.{total, is_numbered, HasTicket, IsTurn, IsNote, IsPhase}
use Rattle.turn_gate.specs.Steps.{note_of, notes_from, knows}

pub prefix_self : {A : Type 0} (xs : List A) → IsPrefix xs xs
prefix_self xs = ([], append-nil xs)

pub prefix_longer : {A : Type 0} (xs ys more : List A) → IsPrefix xs ys → IsPrefix xs (ys ++ more)
prefix_longer xs ys more p = (p.0 ++ more, sym (append_assoc xs p.0 more) ∙ ap (λ w. w ++ more) p.1)

-- an entry of another caller is none of one's own
not_own : (e : EntryValue) (number : ℕ) → e.caller ≢ number → filter (λ x. x.caller == number) (e ∷ []) ≡ []
not_own e number other = grind (arith, nat_tests, other)

pub own-other : (entries : List EntryValue) (e : EntryValue) (number : ℕ) → e.caller ≢ number → own (entries ++ e ∷ []) number ≡ own entries number
own-other entries e number other = filter-append (λ x. x.caller == number) entries (e ∷ []) ∙ (ap (λ z. own entries number ++ z) (not_own e number other) ∙ append-nil (own entries number))

-- one entry of one's own more
is_own : (e : EntryValue) (number : ℕ) → e.caller ≡ number → filter (λ x. x.caller == number) (e ∷ []) ≡ e ∷ []
is_own e number mine = grind (arith, nat_tests, mine)

pub own-mine : (entries : List EntryValue) (e : EntryValue) (number : ℕ) → e.caller ≡ number → own (entries ++ e ∷ []) number ≡ own entries number ++ e ∷ []
own-mine entries e number mine = filter-append (λ x. x.caller == number) entries (e ∷ []) ∙ ap (λ z. own entries number ++ z) (is_own e number mine)

-- where another seat's entry comes last
pub note-later : (seats : ℕ) (now later : Told) (e : EntryValue) (a : Note) → later.entries ≡ now.entries ++ e ∷ [] → now.sure ≤ later.sure → e.caller ≢ a.number → IsNote seats now a → IsNote seats later a
note-later seats now later e a more grows other is = record {
  number = is.number;
  known = subst (IsPrefix a.known) (sym more) (prefix_longer a.known now.entries (e ∷ []) is.known);
  own = ap (λ es. own es a.number) more ∙ own-other now.entries e a.number other ∙ is.own;
  sure = let was = is.sure in omega arith;
}

-- a note that knows all
pub note-all : (seats : ℕ) (now : Told) (a : Note) → IsNumber seats a.number → IsNote seats now (knows now a)
note-all seats now a number = record { number = number; known = prefix_self now.entries; own = refl; sure = omega arith }

-- two notes of one number count twice
pub is_numbered-self : (a : Note) → is_numbered a.number a ≡ 1
is_numbered-self a = grind (arith, nat_tests)

pub is_numbered-as : (a b : Note) → a.number ≡ b.number → is_numbered a.number b ≡ 1
is_numbered-as a b same = grind (arith, nat_tests, same)

-- a drawn ticket is not before the one that is served
pub ticket-in : (next serving count ticket : ℕ) (now : Told) (p : Phase) → IsPhase next serving now count p → HasTicket p ticket → (serving ≤ ticket) × (ticket < next) × (count ≡ 1)
ticket-in next serving count ticket now Idle is has = absurd has
ticket-in next serving count ticket now (Waiting mine) is has = (omega arith, omega arith, is.0)
ticket-in next serving count ticket now (Turn mine taken) is has = (omega arith, omega arith, is.0)

-- whoever has the turn has the ticket that is served
pub turn-ticket : (next serving count : ℕ) (now : Told) (p : Phase) → IsPhase next serving now count p → IsTurn p → HasTicket p serving
turn-ticket next serving count now Idle is turn = absurd turn
turn-ticket next serving count now (Waiting mine) is turn = absurd turn
turn-ticket next serving count now (Turn mine taken) is turn = is.1

pub turn-one : (next serving count : ℕ) (now : Told) (p : Phase) → IsPhase next serving now count p → IsTurn p → count ≡ 1
turn-one next serving count now Idle is turn = absurd turn
turn-one next serving count now (Waiting mine) is turn = absurd turn
turn-one next serving count now (Turn mine taken) is turn = is.0

-- another's phase stays right where a ticket is drawn, and where the next one is served that is not its own
pub phase-drawn : (next serving count : ℕ) (now : Told) (p : Phase) → IsPhase next serving now count p → IsPhase (next + 1) serving now count p
phase-drawn next serving count now Idle is = tt
phase-drawn next serving count now (Waiting mine) is = (is.0, is.1, omega arith)
phase-drawn next serving count now (Turn mine taken) is = (is.0, is.1, omega arith, is.3)

pub phase-passed : (next serving count : ℕ) (now later : Told) (p : Phase) → IsPhase next serving now count p → ¬ HasTicket p serving → IsPhase next (serving + 1) later count p
phase-passed next serving count now later Idle is other = tt
phase-passed next serving count now later (Waiting mine) is other = (is.0, omega arith, is.2)
phase-passed next serving count now later (Turn mine taken) is other = absurd (other is.1)

-- the notes of a new gate: so many, each number once, and each knows the list
pub length-notes_from : (number count : ℕ) (book : Told) → length (notes_from number count book) ≡ count
length-notes_from number zero book = refl
length-notes_from number (suc count) book = ap suc (length-notes_from (number + 1) count book)

none_numbered : (asked number count : ℕ) (book : Told) → asked < number → total (is_numbered asked) (notes_from number count book) ≡ 0
none_numbered asked number zero book before = refl
none_numbered asked number (suc count) book before = let rest = none_numbered asked (number + 1) count book (omega arith) in grind (arith, nat_tests, rest, before)

pub once_numbered : (asked number count : ℕ) (book : Told) → number ≤ asked → asked < number + count → total (is_numbered asked) (notes_from number count book) ≡ 1
once_numbered asked number zero book low high = absurd (omega arith)
once_numbered asked number (suc count) book low high =
    let here : asked ≡ number → total (is_numbered asked) (notes_from (number + 1) count book) ≡ 0 = λ same. none_numbered asked (number + 1) count book (omega arith) in
    let there : asked ≢ number → total (is_numbered asked) (notes_from (number + 1) count book) ≡ 1 = λ other. once_numbered asked (number + 1) count book (omega arith) (omega arith) in
    grind (arith, nat_tests, here, there)

pub note-new : (seats : ℕ) (book : Told) (number count m : ℕ) (a : Note) → 1 ≤ number → number + count ≤ seats + 1 → get_elem? (notes_from number count book) m ≡ some a → IsNote seats book a
note-new seats book number zero m a low high at = absurd (some-ne-none a (sym at))
note-new seats book number (suc count) zero a low high at =
    subst (IsNote seats book) (some-injective (note_of number book.entries book.sure) a at) (record { number = (low, omega arith); known = prefix_self book.entries; own = refl; sure = omega arith })
note-new seats book number (suc count) (suc m) a low high at = note-new seats book (number + 1) count m a (omega arith) (omega arith) at
