-- Entries that are kept.
use Rattle.std.proofs.Common.{◌≡◌, ◌∙◌, ℕ, ◌+◌, ◌-◌, ◌≤◌, true, false, Bool, List, [], ◌∷◌, ◌++◌, length, take, drop, sym, ap, subst, arith, append_assoc, Option, None, Some}
use Rattle.std.specs.Prelude.{slice_index_or}
use Rattle.std.specs.List.{All}
use Rattle.std.specs.Bool.{OnTrue, OnFalse}
use Rattle.std.proofs.Math.Seq.{take-append_seam, take-add, take-length}
use Rattle.std.proofs.lemmas.Grind.{flat_map-append}
use Rattle.std.proofs.lemmas.List.{take-append-drop, take-append-le, take_all}
use Rattle.desk_model.specs.histories.History.{History, history_of, with_entry}
use Rattle.desk_model.specs.statements.Entry.{EntryValue}
use Rattle.desk_model.specs.statements.Opening.{OpeningValue}
use Rattle.desk_model.specs.texts.Journal.{opening_line, entry_line, entry_lines, journal}
use Rattle.journal_device.specs.Device.{Tells}
use Rattle.turn_gate.specs.Seats.{SeatValue}
use Rattle.desk_shared.specs.Kept.{AreKept}

-- where a whole journal is kept, its entries are
pub whole-kept : (found : Option (List ℕ)) (h : History) → Tells found (journal h) → AreKept found h.opening h.entries
whole-kept None h tells = tt
whole-kept (Some found) h tells = rw tells (sym (take-length (journal h)))

pub first-kept : (found : Option (List ℕ)) (h : History) (n : ℕ) → Tells found (journal h) → n ≡ length h.entries → AreKept found h.opening (take n h.entries)
first-kept found h n tells all = subst (AreKept found h.opening) (sym (take_all n h.entries (omega (arith, all)))) (whole-kept found h tells)

-- the journal of entries behind others
journal-behind : (o : OpeningValue) (es more : List EntryValue) → journal (history_of o (es ++ more)) ≡ journal (history_of o es) ++ entry_lines more
journal-behind o es more = ap (λ t. opening_line o ++ t) (flat_map-append entry_line es more) ∙ sym (append_assoc (opening_line o) (entry_lines es) (entry_lines more))

-- where entries are kept, the first of them are
front-kept : (found : Option (List ℕ)) (o : OpeningValue) (es more : List EntryValue) → AreKept found o (es ++ more) → AreKept found o es
front-kept None o es more kept = tt
front-kept (Some found) o es more kept =
    let front = journal (history_of o es) in
    let whole = journal (history_of o (es ++ more)) in
    let parts : whole ≡ front ++ entry_lines more = journal-behind o es more in
    let all : whole ++ drop (length whole) found ≡ found = ap (λ t. t ++ drop (length whole) found) kept ∙ take-append-drop (length whole) found in
    let split : front ++ (entry_lines more ++ drop (length whole) found) ≡ found =
    sym (append_assoc front (entry_lines more) (drop (length whole) found)) ∙ ap (λ t. t ++ drop (length whole) found) (sym parts) ∙ all in
    sym (take-append_seam front (entry_lines more ++ drop (length whole) found)) ∙ ap (take (length front)) split

pub fewer-kept : (found : Option (List ℕ)) (o : OpeningValue) (es : List EntryValue) (m n : ℕ) → m ≤ n → AreKept found o (take n es) → AreKept found o (take m es)
fewer-kept found o es m n fewer kept =
    let parts : take n es ≡ take m es ++ take (n - m) (drop m es) = ap (λ k. take k es) (omega (arith, fewer)) ∙ take-add m (n - m) es in
    front-kept found o (take m es) (take (n - m) (drop m es)) (subst (AreKept found o) parts kept)

-- they stay so as the history goes on
pub still-kept : (was found : Option (List ℕ)) (h later : History) (e : EntryValue) (n : ℕ) → found ≡ was → later ≡ with_entry h e → n ≤ length h.entries
    → AreKept was h.opening (take n h.entries) → AreKept found later.opening (take n later.entries)
still-kept was found h later e n same next within kept =
    subst (λ (x : History). AreKept found x.opening (take n x.entries)) (sym next)
    (subst (AreKept found h.opening) (sym (take-append-le n h.entries (e ∷ []) within)) (subst (λ f. AreKept f h.opening (take n h.entries)) (sym same) kept))

-- what each seat knows as sure is kept, where so many entries are that none knows more
pub each-kept : (found : Option (List ℕ)) (h later : History) (n : ℕ) (seats : List SeatValue) → later ≡ h → AreKept found h.opening (take n h.entries) → All (λ seat. seat.sure ≤ n) seats
    → All (λ seat. AreKept found later.opening (take seat.sure later.entries)) seats
each-kept found h later n seats same kept each = λ i d within.
    subst (λ (x : History). AreKept found x.opening (take (slice_index_or seats i d).sure x.entries)) (sym same) (fewer-kept found h.opening h.entries (slice_index_or seats i d).sure n (each i d within) kept)

-- ---- after all sessions

-- where entries are kept, so many of the first are
taken-kept : (found : Option (List ℕ)) (o : OpeningValue) (es : List EntryValue) (m : ℕ) → AreKept found o es → AreKept found o (take m es)
taken-kept found o es m kept = front-kept found o (take m es) (drop m es) (subst (AreKept found o) (sym (take-append-drop m es)) kept)

-- the first entries that were kept are, whatever came of another try to keep all
pub kept-still : (done : Bool) (was found : Option (List ℕ)) (h : History) → OnTrue done (Tells found (journal h)) → OnFalse done (found ≡ was) → (m : ℕ) → AreKept was h.opening (take m h.entries)
    → AreKept found h.opening (take m h.entries)
kept-still true was found h tells same m kept = taken-kept found h.opening h.entries m (whole-kept found h tells)
kept-still false was found h tells same m kept = subst (λ f. AreKept f h.opening (take m h.entries)) (sym same) kept
