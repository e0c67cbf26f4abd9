-- The journal of a legal history is the journal part of a text, whether commands are behind it or not.
use Rattle.std.proofs.Common.{◌≡◌, ℕ, ◌≤◌, ◌==◌, Bool, true, false, ◌&&◌, nat_le, if◌then◌else◌, List, [], ◌∷◌, ◌++◌, length, decimal, codes, refl, sym, ap, ◌∙◌, append-nil, append_assoc, length-append, arith}
use Rattle.std.specs.List.{All, list_all, join_with_byte}
use Rattle.std.proofs.Math.Bool.{and-false}
use Rattle.std.proofs.lemmas.Bool.{false≢true}
use Rattle.std.proofs.lemmas.Bool.Decides.{nat_tests}
use Rattle.std.proofs.lemmas.List.Elements.{All-head, All-tail}
use Rattle.desk_base.specs.Minute.{minute_text}
use Rattle.desk_base.specs.Month.{month_text}
use Rattle.desk_model.specs.statements.Opening.{OpeningValue, IsOpening, edition_fields}
use Rattle.desk_model.specs.statements.Entry.{EntryValue}
use Rattle.desk_model.specs.statements.Fits.{Fits}
use Rattle.desk_model.specs.histories.History.{History}
use Rattle.desk_model.specs.texts.StatedTexts.{stated_fields}
use Rattle.desk_model.specs.texts.ReplyTexts.{reply_text}
use Rattle.desk_model.specs.histories.Legal.{IsLegal}
use Rattle.desk_model.specs.texts.Journal.{opening_line, entry_line, entry_lines, journal}
use Rattle.line_writer.specs.Line.{IsLine}
use Rattle.crewdesk_main.specs.Parts.{before_plus, behind_plus, journal_of, more_of}

-- where a line begins, this belongs to the journal part, and a line begins behind it
record Passes (front : List ℕ) : Type 0 where
  pub before : (later : List ℕ) → before_plus true (front ++ later) ≡ front ++ before_plus true later
  pub behind : (later : List ℕ) → behind_plus true (front ++ later) ≡ behind_plus true later

Passes-nil : Passes []
Passes-nil = record { before = λ later. refl; behind = λ later. refl }

Passes-append : (a b : List ℕ) → Passes a → Passes b → Passes (a ++ b)
Passes-append a b first next = record {
  before = λ later. ap (before_plus true) (append_assoc a b later) ∙ first.before (b ++ later) ∙ ap (λ t. a ++ t) (next.before later) ∙ sym (append_assoc a b (before_plus true later));
  behind = λ later. ap (behind_plus true) (append_assoc a b later) ∙ first.behind (b ++ later) ∙ next.behind later;
}

-- ---- a line

abbrev IsAbove : List ℕ → Type 0
IsAbove text = list_all (λ b. nat_le 32 b) text ≡ true

both : (a b : Bool) → (a && b) ≡ true → (a ≡ true) × (b ≡ true)
both true b e = (refl, e)
both false b e = absurd (false≢true e)

no_feed : (b : ℕ) → nat_le 32 b ≡ true → (b == 10) ≡ false
no_feed b above = grind (arith, nat_tests, above)

before-rest : (text later : List ℕ) → IsAbove text → before_plus false (text ++ 10 ∷ later) ≡ text ++ 10 ∷ before_plus true later
unfolding before_plus
before-rest [] later above = refl
before-rest (b ∷ text) later above =
    let parts = both (nat_le 32 b) (list_all (λ x. nat_le 32 x) text) above in
    ap (λ x. b ∷ before_plus x (text ++ 10 ∷ later)) (no_feed b parts.0) ∙ ap (λ t. b ∷ t) (before-rest text later parts.1)

behind-rest : (text later : List ℕ) → IsAbove text → behind_plus false (text ++ 10 ∷ later) ≡ behind_plus true later
unfolding behind_plus
behind-rest [] later above = refl
behind-rest (b ∷ text) later above =
    let parts = both (nat_le 32 b) (list_all (λ x. nat_le 32 x) text) above in
    ap (λ x. behind_plus x (text ++ 10 ∷ later)) (no_feed b parts.0) ∙ behind-rest text later parts.1

no_plus : (b c : ℕ) → (c == 10) ≡ false → (b == 43 && c == 10) ≡ false
no_plus b c not = ap (λ x. b == 43 && x) not ∙ and-false (b == 43)

before-line : (b c : ℕ) (text later : List ℕ) → IsAbove (b ∷ c ∷ text) → before_plus true (b ∷ c ∷ text ++ 10 ∷ later) ≡ b ∷ c ∷ text ++ 10 ∷ before_plus true later
unfolding before_plus
before-line b c text later above =
    let parts = both (nat_le 32 b) (list_all (λ x. nat_le 32 x) (c ∷ text)) above in
    let second = both (nat_le 32 c) (list_all (λ x. nat_le 32 x) text) parts.1 in
    ap (λ x. if x then [] else b ∷ before_plus (b == 10) (c ∷ text ++ 10 ∷ later)) (no_plus b c (no_feed c second.0))
    ∙ ap (λ x. b ∷ before_plus x (c ∷ text ++ 10 ∷ later)) (no_feed b parts.0)
    ∙ ap (λ t. b ∷ t) (before-rest (c ∷ text) later parts.1)

behind-line : (b c : ℕ) (text later : List ℕ) → IsAbove (b ∷ c ∷ text) → behind_plus true (b ∷ c ∷ text ++ 10 ∷ later) ≡ behind_plus true later
unfolding behind_plus
behind-line b c text later above =
    let parts = both (nat_le 32 b) (list_all (λ x. nat_le 32 x) (c ∷ text)) above in
    let second = both (nat_le 32 c) (list_all (λ x. nat_le 32 x) text) parts.1 in
    ap (λ x. if x then text ++ 10 ∷ later else behind_plus (b == 10) (c ∷ text ++ 10 ∷ later)) (no_plus b c (no_feed c second.0))
    ∙ ap (λ x. behind_plus x (c ∷ text ++ 10 ∷ later)) (no_feed b parts.0)
    ∙ behind-rest (c ∷ text) later parts.1

-- a line of two bytes and a line feed is not just a plus
Passes-line : (line : List ℕ) → IsLine line → 3 ≤ length line → Passes line
Passes-line line is long = go is.text is.is is.plain.above
  where
    go : (text : List ℕ) → line ≡ text ++ 10 ∷ [] → IsAbove text → Passes line
    go [] e above = absurd (omega (arith, long, ap length e))
    go (b ∷ []) e above = absurd (omega (arith, long, ap length e))
    go (b ∷ c ∷ text) e above = record {
      before = λ later.
          ap (λ l. before_plus true (l ++ later)) e
          ∙ ap (λ t. before_plus true (b ∷ c ∷ t)) (append_assoc text (10 ∷ []) later)
          ∙ before-line b c text later above
          ∙ sym (ap (λ t. b ∷ c ∷ t) (append_assoc text (10 ∷ []) (before_plus true later)))
          ∙ sym (ap (λ l. l ++ before_plus true later) e);
      behind = λ later.
          ap (λ l. behind_plus true (l ++ later)) e
          ∙ ap (λ t. behind_plus true (b ∷ c ∷ t)) (append_assoc text (10 ∷ []) later)
          ∙ behind-line b c text later above;
    }

-- ---- a journal

long-bars : (a s m r : List ℕ) → 3 ≤ length (a ++ 124 ∷ s ++ 124 ∷ m ++ 124 ∷ r ++ 10 ∷ [])
long-bars a s m r =
    omega (arith, length-append (a ++ 124 ∷ s ++ 124 ∷ m ++ 124 ∷ r) (10 ∷ []), length-append (a ++ 124 ∷ s ++ 124 ∷ m) (124 ∷ r), length-append (a ++ 124 ∷ s) (124 ∷ m))

entry-long : (e : EntryValue) → 3 ≤ length (entry_line e)
unfolding entry_line
entry-long e = long-bars (decimal e.caller) (join_with_byte 44 (stated_fields e.stated)) (minute_text e.moment) (reply_text e.reply)

long-commas : (a b c : List ℕ) (rest : List (List ℕ)) → 3 ≤ length (join_with_byte 44 (a ∷ b ∷ c ∷ rest) ++ 10 ∷ [])
long-commas a b c rest =
    omega (arith, length-append (join_with_byte 44 (a ∷ b ∷ c ∷ rest)) (10 ∷ []), length-append a (44 ∷ join_with_byte 44 (b ∷ c ∷ rest)), length-append b (44 ∷ join_with_byte 44 (c ∷ rest)))

opening-long : (o : OpeningValue) → 3 ≤ length (opening_line o)
unfolding opening_line
opening-long o = long-commas (minute_text o.start) (codes "open") (month_text o.window.first) (decimal o.window.months ∷ decimal o.answer ∷ edition_fields o.edition)

Passes-entries : ((e : EntryValue) → Fits e → IsLine (entry_line e)) → (es : List EntryValue) → All Fits es → Passes (entry_lines es)
Passes-entries lines [] all = Passes-nil
Passes-entries lines (e ∷ es) all =
    Passes-append (entry_line e) (entry_lines es) (Passes-line (entry_line e) (lines e (All-head Fits e es all)) (entry-long e)) (Passes-entries lines es (All-tail Fits e es all))

Passes-journal : ((o : OpeningValue) → IsOpening o → IsLine (opening_line o)) → ((e : EntryValue) → Fits e → IsLine (entry_line e)) → ((h : History) → IsLegal h → All Fits h.entries)
    → (h : History) → IsLegal h → Passes (journal h)
Passes-journal first lines fits h legal =
    Passes-append (opening_line h.opening) (entry_lines h.entries) (Passes-line (opening_line h.opening) (first h.opening legal.opening) (opening-long h.opening)) (Passes-entries lines h.entries (fits h legal))

-- with nothing behind it, and with a plus and commands
pub alone-journal : ((o : OpeningValue) → IsOpening o → IsLine (opening_line o)) → ((e : EntryValue) → Fits e → IsLine (entry_line e)) → ((h : History) → IsLegal h → All Fits h.entries)
    → (h : History) → IsLegal h → journal_of (journal h) ≡ journal h
unfolding before_plus
alone-journal first lines fits h legal =
    sym (ap (before_plus true) (append-nil (journal h))) ∙ (Passes-journal first lines fits h legal).before [] ∙ append-nil (journal h)

pub alone-more : ((o : OpeningValue) → IsOpening o → IsLine (opening_line o)) → ((e : EntryValue) → Fits e → IsLine (entry_line e)) → ((h : History) → IsLegal h → All Fits h.entries)
    → (h : History) → IsLegal h → more_of (journal h) ≡ []
unfolding behind_plus
alone-more first lines fits h legal =
    sym (ap (behind_plus true) (append-nil (journal h))) ∙ (Passes-journal first lines fits h legal).behind []

pub behind-journal : ((o : OpeningValue) → IsOpening o → IsLine (opening_line o)) → ((e : EntryValue) → Fits e → IsLine (entry_line e)) → ((h : History) → IsLegal h → All Fits h.entries)
    → (h : History) (more : List ℕ) → IsLegal h → journal_of (journal h ++ 43 ∷ 10 ∷ more) ≡ journal h
unfolding before_plus
behind-journal first lines fits h more legal =
    (Passes-journal first lines fits h legal).before (43 ∷ 10 ∷ more) ∙ append-nil (journal h)

pub behind-more : ((o : OpeningValue) → IsOpening o → IsLine (opening_line o)) → ((e : EntryValue) → Fits e → IsLine (entry_line e)) → ((h : History) → IsLegal h → All Fits h.entries)
    → (h : History) (more : List ℕ) → IsLegal h → more_of (journal h ++ 43 ∷ 10 ∷ more) ≡ more
unfolding behind_plus
behind-more first lines fits h more legal =
    (Passes-journal first lines fits h legal).behind (43 ∷ 10 ∷ more)
