-- What is found, as lines are read one after another.
use Rattle.std.proofs.Common.{◌≡◌, ◌≢◌, ◌∙◌, ℕ, ◌==◌, Bool, true, false, not, nat_eq, List, [], ◌∷◌, ◌++◌, length, refl, sym, ap, subst, arith, append_assoc}
use Rattle.std.proofs.lemmas.Bool.{false≢true}
use Rattle.desk_model.specs.statements.Entry.{EntryValue}
use Rattle.desk_model.specs.histories.History.{History, with_entry}
use Rattle.desk_model.specs.statements.Fits.{Fits}
use Rattle.desk_model.specs.histories.Legal.{IsLegal, next}
use Rattle.desk_model.specs.texts.Journal.{entry_line, journal}
use Rattle.line_writer.specs.Line.{IsLine}
use Rattle.line_writer.proofs.JournalLemmas.{journal-next}
use Rattle.desk_text.specs.SpelledEntry.{IsEntryLine, statement_of}
use Rattle.desk_text.specs.declared.statement.Statement.{Statement}
use Rattle.audit_desk.specs.Found.{HasUnreadable, line_behind}

-- what was read goes on with the line of the entry that comes next
pub journal-goes_on : (h : History) (e : EntryValue) (text left line behind : List ℕ) → text ≡ journal h ++ left → left ≡ line ++ behind → line ≡ entry_line e
    → text ≡ journal (with_entry h e) ++ behind
journal-goes_on h e text left line behind read parts is =
    read ∙ ap (λ t. journal h ++ t) (parts ∙ ap (λ l. l ++ behind) is)
    ∙ sym (append_assoc (journal h) (entry_line e) behind) ∙ ap (λ t. t ++ behind) (sym (journal-next h e))

-- what comes next to who stated what by an entry
pub next-statement : (h : History) (e right : EntryValue) (s : Statement) → s ≡ statement_of e → right ≡ next h s.caller s.stated → right ≡ next h e.caller e.stated
next-statement h e right s same is = subst (λ t. right ≡ next h t.caller t.stated) same is

-- by it they stated that
pub statement-next : (h : History) (right : EntryValue) (s : Statement) → right ≡ next h s.caller s.stated → s ≡ statement_of right
unfolding next
statement-next h right s is = sym (ap statement_of is)

-- what isn't empty has a byte
pub some-left : (left : List ℕ) → false ≡ (length left == 0) → left ≢ []
some-left [] e none = false≢true e
some-left (b ∷ left) e none = omega (arith, ap length none)

-- the text is the journal of a history that a desk stands for, which has so many entries, and what is left
pub record Reached (Stands : History → Type 0) (text left : List ℕ) (count : ℕ) : Type 0 where
  pub history : History
  pub stands : Stands history
  pub read : text ≡ journal history ++ left
  pub count_is : count ≡ length history.entries

-- what is behind the journal of a legal history that was read, and isn't the line of an entry
pub HasUnreadable-line : (text left line behind : List ℕ) (h : History) (number : ℕ) → IsLegal h → text ≡ journal h ++ left → left ≢ []
    → ((e : EntryValue) → Fits e → IsLine (entry_line e)) → ((front later : List ℕ) → IsLine front → left ≡ front ++ later → (line ≡ front) × (behind ≡ later))
    → ((e : EntryValue) → IsEntryLine line e → ⊥) → number ≡ line_behind h → HasUnreadable text number
HasUnreadable-line text left line behind h number legal read some ends first none is = record {
  history = h;
  rest = left;
  begins = record { legal = legal; parts = read };
  some = some;
  none = λ e later fits begins. none e (record { valid = fits; line_is = (first (entry_line e) later (ends e fits) begins).0 });
  line_is = is;
}
