-- A journal's lines, entry by entry.
use Rattle.std.proofs.Common.{◌≡◌, ◌≢◌, ◌∙◌, ℕ, ◌+◌, ◌<◌, ◌==◌, true, List, [], ◌∷◌, ◌++◌, length, map, refl, sym, ap, subst, arith, length-append, append-nil, append_assoc, Option, Some}
use Rattle.std.specs.List.{All}
use Rattle.std.proofs.lemmas.Bool.Decides.{nat_tests}
use Rattle.std.proofs.lemmas.List.{map-append, length-map}
use Rattle.std.proofs.lemmas.List.Elements.{All-head, All-tail}
use Rattle.desk_model.specs.statements.Entry.{EntryValue}
use Rattle.desk_model.specs.statements.Fits.{Fits}
use Rattle.desk_model.specs.statements.Statement.{StatedValue}
use Rattle.desk_model.specs.statements.Opening.{OpeningValue, IsOpening}
use Rattle.desk_model.specs.histories.History.{History, history_of, opened, with_entry}
use Rattle.desk_model.specs.histories.Legal.{IsLegal, next, given, history_from, history}
use Rattle.desk_model.specs.texts.Journal.{opening_line, entry_line, entry_lines, journal}
use Rattle.board_window.specs.Walls.{FrontValue, history_in, longer_by}
use Rattle.kept_desk.specs.Walls.{HasAll}
use Rattle.command_parser.specs.OpeningRecord.{IsOpeningLine}
use Rattle.line_writer.specs.Line.{IsLine}

-- a desk that stood behind a history has answered what the first of these entries state, and these are the lines of the others
pub record Through (start now : History) (entries : List EntryValue) (left : List ℕ) : Type 0 where
  pub done : List EntryValue
  pub later : List EntryValue
  pub parts : done ++ later ≡ entries
  pub fits : All Fits later
  pub now_is : now ≡ history_from start (map given done)
  pub left_is : left ≡ entry_lines later

-- the next of them, and the lines behind its own
pub record ComesNext (start now : History) (entries : List EntryValue) (line behind : List ℕ) : Type 0 where
  pub done : List EntryValue
  pub entry : EntryValue
  pub later : List EntryValue
  pub parts : done ++ entry ∷ later ≡ entries
  pub fit : Fits entry
  pub fits : All Fits later
  pub now_is : now ≡ history_from start (map given done)
  pub line_is : line ≡ entry_line entry
  pub behind_is : behind ≡ entry_lines later

pub comes-next : ((e : EntryValue) → Fits e → IsLine (entry_line e)) → (start now : History) (entries : List EntryValue) (left line behind : List ℕ) → Through start now entries left → left ≢ []
    → ((front rest : List ℕ) → IsLine front → left ≡ front ++ rest → (line ≡ front) × (behind ≡ rest)) → ComesNext start now entries line behind
comes-next ends start now entries left line behind through some first = go through.later through.parts through.fits through.left_is
  where
    go : (later : List EntryValue) → through.done ++ later ≡ entries → All Fits later → left ≡ entry_lines later → ComesNext start now entries line behind
    go [] parts fits is = absurd (some is)
    go (e ∷ later) parts fits is =
        let cut = first (entry_line e) (entry_lines later) (ends e (All-head Fits e later fits)) is in
        record {
          done = through.done;
          entry = e;
          later = later;
          parts = parts;
          fit = All-head Fits e later fits;
          fits = All-tail Fits e later fits;
          now_is = through.now_is;
          line_is = cut.0;
          behind_is = cut.1;
        }

-- with its answer one more is done
pub Through-more : ((h : History) (commands : List (ℕ × StatedValue)) (caller : ℕ) (s : StatedValue)
    → history_from h (commands ++ (caller, s) ∷ []) ≡ with_entry (history_from h commands) (next (history_from h commands) caller s))
    → (start now after : History) (entries : List EntryValue) (line behind : List ℕ) (e : EntryValue) → (comes : ComesNext start now entries line behind)
    → e ≡ next now comes.entry.caller comes.entry.stated → after ≡ with_entry now e → Through start after entries behind
Through-more law start now after entries line behind e comes answer kept = record {
  done = comes.done ++ comes.entry ∷ [];
  later = comes.later;
  parts = append_assoc comes.done (comes.entry ∷ []) comes.later ∙ comes.parts;
  fits = comes.fits;
  now_is = kept ∙ ap (with_entry now) answer ∙ ap (λ h. with_entry h (next h comes.entry.caller comes.entry.stated)) comes.now_is
      ∙ sym (law start (map given comes.done) comes.entry.caller comes.entry.stated) ∙ ap (history_from start) (sym (map-append given comes.done (comes.entry ∷ [])));
  left_is = comes.behind_is;
}

-- it is not full before
pub has-room : ((h : History) (commands : List (ℕ × StatedValue)) → length (history_from h commands).entries ≡ length h.entries + length commands)
    → (start now : History) (entries : List EntryValue) (line behind : List ℕ) → (comes : ComesNext start now entries line behind) → length now.entries < length start.entries + length entries
has-room law start now entries line behind comes =
    omega (arith, ap (λ h. length h.entries) comes.now_is, law start (map given comes.done), length-map comes.done given, length-append comes.done (comes.entry ∷ comes.later), ap length comes.parts)

-- what is empty has nothing left
pub none-left : (left : List ℕ) → true ≡ (length left == 0) → left ≡ []
none-left [] e = refl
none-left (b ∷ left) e = absurd (grind (arith, nat_tests, e))

-- with no line left all are done
pub Through-all : (start now : History) (entries : List EntryValue) (left : List ℕ) → ((e : EntryValue) → Fits e → IsLine (entry_line e)) → Through start now entries left → left ≡ []
    → now ≡ history_from start (map given entries)
Through-all start now entries left ends through none = go through.later through.parts through.fits through.left_is
  where
    go : (later : List EntryValue) → through.done ++ later ≡ entries → All Fits later → left ≡ entry_lines later → now ≡ history_from start (map given entries)
    go [] parts fits is = through.now_is ∙ ap (λ es. history_from start (map given es)) (sym (append-nil through.done) ∙ parts)
    go (e ∷ later) parts fits is =
        let line = ends e (All-head Fits e later fits) in
        absurd (omega (arith, ap length (sym none ∙ is), length-append (entry_line e) (entry_lines later), ap length line.is, length-append line.text (10 ∷ [])))

-- ---- a whole journal

-- the first line of a journal is its opening's, and those of the entries are behind it
pub cut-opening : ((o : OpeningValue) → IsOpening o → IsLine (opening_line o)) → (text line behind : List ℕ) (h : History) → IsLegal h → text ≡ journal h ++ []
    → ((front rest : List ℕ) → IsLine front → text ≡ front ++ rest → (line ≡ front) × (behind ≡ rest)) → (line ≡ opening_line h.opening) × (behind ≡ entry_lines h.entries)
cut-opening ends text line behind h legal is first = first (opening_line h.opening) (entry_lines h.entries) (ends h.opening legal.opening) (is ∙ append-nil (journal h))

-- the opening that was read is the journal's
pub opening-is : (line : List ℕ) (h : History) (read : Option OpeningValue) (found : OpeningValue) → IsLegal h → line ≡ opening_line h.opening
    → ((o : OpeningValue) → IsOpeningLine line o → read ≡ Some o) → read ≡ Some found → found ≡ h.opening
opening-is line h read found legal is only has =
    let same = only h.opening (record { valid = legal.opening; line_is = is }) in cc

-- a desk that was opened so and answered what a legal history states stands behind it
pub stands-behind : (h start now : History) (o core : OpeningValue) → now ≡ history_from start (map given h.entries) → start ≡ opened core → core ≡ o → o ≡ h.opening
    → h ≡ history h.opening (map given h.entries) → now ≡ h
stands-behind h start now o core answered new opening is only =
    answered ∙ ap (λ x. history_from x (map given h.entries)) (new ∙ ap opened (opening ∙ is)) ∙ sym only

-- ---- the wall beside the book

-- its next entry is one of a legal history
pub HasAll-legal : (wall : FrontValue) (h after : History) (e : EntryValue) → HasAll wall h → after ≡ with_entry h e → IsLegal after → IsLegal (history_in (longer_by wall e))
HasAll-legal wall h after e has next legal =
    subst IsLegal (next ∙ ap (λ es. history_of h.opening (es ++ e ∷ [])) (sym has.entries) ∙ ap (λ o. history_of o (wall.entries ++ e ∷ [])) (sym has.opening)) legal

-- and then it has that too
pub HasAll-next : (wall later : FrontValue) (h after : History) (e : EntryValue) → HasAll wall h → after ≡ with_entry h e → later ≡ longer_by wall e → HasAll later after
HasAll-next wall later h after e has next longer = record {
  opening = ap (λ (f : FrontValue). f.wall.opening) longer ∙ has.opening ∙ sym (ap (λ (x : History). x.opening) next);
  entries = ap (λ (f : FrontValue). f.entries) longer ∙ ap (λ es. es ++ e ∷ []) has.entries ∙ sym (ap (λ (x : History). x.entries) next);
}
