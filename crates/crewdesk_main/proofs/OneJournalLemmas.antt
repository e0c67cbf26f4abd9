-- A text is read in one way, as it stands.
use Rattle.std.proofs.Common.{◌≡◌, ◌≢◌, ◌∙◌, ℕ, List, [], ◌++◌, sym, ap, append_assoc, inl, inr}
use Rattle.std.specs.Prelude.{◌⊎◌}
use Rattle.desk_model.specs.statements.Entry.{EntryValue}
use Rattle.desk_model.specs.statements.Fits.{Fits}
use Rattle.desk_model.specs.histories.History.{History}
use Rattle.desk_model.specs.texts.Journal.{opening_line, entry_line, entry_lines}
use Rattle.desk_text.proofs.LineLemmas.{entry_line-IsLine}
use Rattle.audit_desk.specs.Found.{HasNoOpening, line_behind}
use Rattle.audit_desk.proofs.OneLemmas.{GoesOn, some-line, journals-two}
use Rattle.crewdesk_main.specs.Records.{StartsWith, HasNoEntry}

-- a text begins with the journal of a history, and with the line of no entry behind it
record Stops (text : List ℕ) (h : History) (rest : List ℕ) : Type 0 where
  starts : StartsWith text h rest
  none : (e : EntryValue) (later : List ℕ) → Fits e → rest ≢ entry_line e ++ later

stops-one : (text : List ℕ) (h i : History) (x y : List ℕ) → Stops text h x → Stops text i y → (h ≡ i) × (x ≡ y)
stops-one text h i x y one other =
    go (journals-two h i x y one.starts.valid other.starts.valid one.starts.fits other.starts.fits (sym one.starts.parts ∙ other.starts.parts))
  where
    go : ((h ≡ i) × (x ≡ y)) ⊎ ((h.opening ≡ i.opening) × (GoesOn h.entries i.entries x ⊎ GoesOn i.entries h.entries y)) → (h ≡ i) × (x ≡ y)
    go (inl is) = is
    go (inr (opening, inl on)) = absurd (one.none on.entry on.rest on.fits on.line)
    go (inr (opening, inr on)) = absurd (other.none on.entry on.rest on.fits on.line)

all-stops : (text : List ℕ) (h : History) → StartsWith text h [] → Stops text h []
all-stops text h starts = record { starts = starts; none = λ e later fits is. some-line (entry_line e) later (entry_line-IsLine e fits) is }

line-stops : (text : List ℕ) (line : ℕ) (has : HasNoEntry text line) → Stops text has.history has.rest
line-stops text line has = record { starts = has.starts; none = has.none }

-- a text is the journal of one history at most
pub StartsWith-one : (text : List ℕ) (h i : History) → StartsWith text h [] → StartsWith text i [] → h ≡ i
StartsWith-one text h i one other = (stops-one text h i [] [] (all-stops text h one) (all-stops text i other)).0

-- one line of it at most is the first that is no entry's
pub HasNoEntry-one : (text : List ℕ) (l m : ℕ) → HasNoEntry text l → HasNoEntry text m → l ≡ m
HasNoEntry-one text l m one other =
    one.line_is ∙ ap line_behind (stops-one text _ _ _ _ (line-stops text l one) (line-stops text m other)).0 ∙ sym other.line_is

-- a journal has no such line
pub StartsWith-no_line : (text : List ℕ) (h : History) (l : ℕ) → StartsWith text h [] → ¬ HasNoEntry text l
StartsWith-no_line text h l one other = other.some (sym (stops-one text _ _ _ _ (all-stops text h one) (line-stops text l other)).1)

-- and what begins with one has an opening
pub StartsWith-opening : (text rest : List ℕ) (h : History) → StartsWith text h rest → ¬ HasNoOpening text
StartsWith-opening text rest h starts none =
    none h.opening (entry_lines h.entries ++ rest) starts.valid (starts.parts ∙ append_assoc (opening_line h.opening) (entry_lines h.entries) rest)
