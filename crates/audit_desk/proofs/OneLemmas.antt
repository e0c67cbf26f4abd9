-- Of a text an audit finds one verdict at most.
use Rattle.std.proofs.Common.{◌≡◌, ◌≢◌, ◌∙◌, ℕ, ◌+◌, List, [], ◌∷◌, ◌++◌, length, refl, sym, ap, subst, arith, append_assoc, append-nil, length-append, inl, inr}
use Rattle.std.specs.Prelude.{◌⊎◌}
use Rattle.std.specs.List.{All}
use Rattle.std.proofs.lemmas.List.Elements.{All-head, All-tail}
use Rattle.desk_model.specs.statements.Entry.{EntryValue}
use Rattle.desk_model.specs.statements.Fits.{Fits}
use Rattle.desk_model.specs.histories.History.{History, history_of, opened, with_entry, step_of, steps_from, steps}
use Rattle.desk_model.specs.histories.Legal.{IsLegal, IsNext, next}
use Rattle.desk_model.specs.texts.Journal.{opening_line, entry_line, entry_lines, journal}
use Rattle.desk_model.specs.statements.Opening.{IsOpening}
use Rattle.line_writer.specs.Line.{IsLine}
use Rattle.desk_text.proofs.LineLemmas.{entry_line-IsLine, opening_line-IsLine}
use Rattle.desk_text.proofs.BeginningLemmas.{lines-two, entry_line-one, opening_line-one}
use Rattle.audit_desk.specs.Found.{Begins, IsJournal, HasWrong, HasUnreadable, HasNoOpening, Finds, outcome_of}
use Rattle.audit_desk.specs.declared.outcome.Outcome.{Outcome}
use Rattle.audit_desk.specs.declared.verdict.Verdict.{Verdict}
use Rattle.audit_desk.specs.declared.verdict.Verdict.TheVariants as verdict

-- a line has a byte
pub some-line : (line rest : List ℕ) → IsLine line → [] ≢ line ++ rest
some-line line rest is e = omega (arith, ap length e, length-append line rest, ap length is.is, length-append is.text (10 ∷ []))

-- two texts that begin with the lines of entries are one: so are the entries
entries-two : (a b : EntryValue) (x y : List ℕ) → Fits a → Fits b → entry_line a ++ x ≡ entry_line b ++ y → (a ≡ b) × (x ≡ y)
entries-two a b x y ha hb e =
    let both = lines-two (entry_line a) (entry_line b) x y (entry_line-IsLine a ha) (entry_line-IsLine b hb) e in
    (entry_line-one a b ha hb both.0, both.1)

-- ---- histories that a text begins with

-- the second entries go on behind the first with one whose line is behind theirs
pub record GoesOn (es fs : List EntryValue) (x : List ℕ) : Type 0 where
  pub entry : EntryValue
  pub later : List EntryValue
  pub parts : fs ≡ es ++ entry ∷ later
  pub fits : Fits entry
  pub rest : List ℕ
  pub line : x ≡ entry_line entry ++ rest

-- they do so with one entry more in front of both
goes_on-more : (g f : EntryValue) (es fs : List EntryValue) (x : List ℕ) → g ≡ f → GoesOn es fs x → GoesOn (g ∷ es) (f ∷ fs) x
goes_on-more g f es fs x same goes = record {
  entry = goes.entry;
  later = goes.later;
  parts = ap (λ e. e ∷ fs) (sym same) ∙ ap (λ l. g ∷ l) goes.parts;
  fits = goes.fits;
  rest = goes.rest;
  line = goes.line;
}

-- entries whose lines a text begins with are the same, or one of them go on
lists-two : (es fs : List EntryValue) (x y : List ℕ) → All Fits es → All Fits fs → entry_lines es ++ x ≡ entry_lines fs ++ y
    → ((es ≡ fs) × (x ≡ y)) ⊎ (GoesOn es fs x ⊎ GoesOn fs es y)
lists-two [] [] x y he hf e = inl (refl, e)
lists-two [] (f ∷ fs) x y he hf e =
    inr (inl (record { entry = f; later = fs; parts = refl; fits = All-head Fits f fs hf; rest = entry_lines fs ++ y; line = e ∙ append_assoc (entry_line f) (entry_lines fs) y }))
lists-two (g ∷ es) [] x y he hf e =
    inr (inr (record { entry = g; later = es; parts = refl; fits = All-head Fits g es he; rest = entry_lines es ++ x; line = sym e ∙ append_assoc (entry_line g) (entry_lines es) x }))
lists-two (g ∷ es) (f ∷ fs) x y he hf e =
    let both = entries-two g f (entry_lines es ++ x) (entry_lines fs ++ y) (All-head Fits g es he) (All-head Fits f fs hf)
    (sym (append_assoc (entry_line g) (entry_lines es) x) ∙ e ∙ append_assoc (entry_line f) (entry_lines fs) y) in
    go both.0 (lists-two es fs x y (All-tail Fits g es he) (All-tail Fits f fs hf) both.1)
  where
    go : g ≡ f → ((es ≡ fs) × (x ≡ y)) ⊎ (GoesOn es fs x ⊎ GoesOn fs es y) → (((g ∷ es) ≡ (f ∷ fs)) × (x ≡ y)) ⊎ (GoesOn (g ∷ es) (f ∷ fs) x ⊎ GoesOn (f ∷ fs) (g ∷ es) y)
    go same (inl is) = inl (ap (λ l. g ∷ l) is.0 ∙ ap (λ e. e ∷ fs) same, is.1)
    go same (inr (inl on)) = inr (inl (goes_on-more g f es fs x same on))
    go same (inr (inr on)) = inr (inr (goes_on-more f g fs es y (sym same) on))

-- the entry that comes next in a legal history, whose line is behind the journal so far
record Next (h : History) (x : List ℕ) : Type 0 where
  entry : EntryValue
  next_is : IsNext h entry
  fits : Fits entry
  rest : List ℕ
  line : x ≡ entry_line entry ++ rest

-- each entry of a legal history comes next
step-next : (k : History) (es : List EntryValue) (e : EntryValue) (later : List EntryValue) → All (λ s. IsNext s.before s.entry) (steps_from k (es ++ e ∷ later))
    → IsNext (history_of k.opening (k.entries ++ es)) e
step-next k [] e later all =
    subst (λ l. IsNext (history_of k.opening l) e) (sym (append-nil k.entries)) (All-head (λ s. IsNext s.before s.entry) (step_of k e) (steps_from (with_entry k e) later) all)
step-next k (f ∷ es) e later all =
    subst (λ l. IsNext (history_of k.opening l) e) (append_assoc k.entries (f ∷ []) es)
    (step-next (with_entry k f) es e later (All-tail (λ s. IsNext s.before s.entry) (step_of k f) (steps_from (with_entry k f) (es ++ e ∷ later)) all))

legal-next : (h i : History) (x : List ℕ) → IsLegal i → h.opening ≡ i.opening → GoesOn h.entries i.entries x → Next h x
unfolding steps
legal-next h i x legal same on = record {
  entry = on.entry;
  next_is = subst (λ o. IsNext (history_of o h.entries) on.entry) (sym same)
      (step-next (opened i.opening) h.entries on.entry on.later (subst (λ l. All (λ s. IsNext s.before s.entry) (steps_from (opened i.opening) l)) on.parts legal.each));
  fits = on.fits;
  rest = on.rest;
  line = on.line;
}

-- two histories whose journals a text begins with, legal or not, are the same, with the same behind them, or one of them goes on
pub journals-two : (h i : History) (x y : List ℕ) → IsOpening h.opening → IsOpening i.opening → All Fits h.entries → All Fits i.entries → journal h ++ x ≡ journal i ++ y
    → ((h ≡ i) × (x ≡ y)) ⊎ ((h.opening ≡ i.opening) × (GoesOn h.entries i.entries x ⊎ GoesOn i.entries h.entries y))
journals-two h i x y ho io hf if e =
    let parts : opening_line h.opening ++ (entry_lines h.entries ++ x) ≡ opening_line i.opening ++ (entry_lines i.entries ++ y) =
    sym (append_assoc (opening_line h.opening) (entry_lines h.entries) x) ∙ e ∙ append_assoc (opening_line i.opening) (entry_lines i.entries) y in
    let both = lines-two (opening_line h.opening) (opening_line i.opening) _ _ (opening_line-IsLine h.opening ho) (opening_line-IsLine i.opening io) parts in
    go (opening_line-one h.opening i.opening ho io both.0) (lists-two h.entries i.entries x y hf if both.1)
  where
    go : h.opening ≡ i.opening → ((h.entries ≡ i.entries) × (x ≡ y)) ⊎ (GoesOn h.entries i.entries x ⊎ GoesOn i.entries h.entries y)
        → ((h ≡ i) × (x ≡ y)) ⊎ ((h.opening ≡ i.opening) × (GoesOn h.entries i.entries x ⊎ GoesOn i.entries h.entries y))
    go opening (inl is) = inl (ap (λ o. history_of o h.entries) opening ∙ ap (history_of i.opening) is.0, is.1)
    go opening (inr on) = inr (opening, on)

-- and of two that are legal the next entry of one comes next
begins-two : ((h : History) → IsLegal h → All Fits h.entries) → (text : List ℕ) (h i : History) (x y : List ℕ) → Begins text h x → Begins text i y
    → ((h ≡ i) × (x ≡ y)) ⊎ (Next h x ⊎ Next i y)
begins-two fit text h i x y one other =
    go (journals-two h i x y one.legal.opening other.legal.opening (fit h one.legal) (fit i other.legal) (sym one.parts ∙ other.parts))
  where
    go : ((h ≡ i) × (x ≡ y)) ⊎ ((h.opening ≡ i.opening) × (GoesOn h.entries i.entries x ⊎ GoesOn i.entries h.entries y)) → ((h ≡ i) × (x ≡ y)) ⊎ (Next h x ⊎ Next i y)
    go (inl is) = inl is
    go (inr (opening, inl on)) = inr (inl (legal-next h i x other.legal opening on))
    go (inr (opening, inr on)) = inr (inr (legal-next i h y one.legal (sym opening) on))

-- ---- verdicts

-- a text begins with the journal of a legal history, and no entry that comes next is behind it
record Ends (text : List ℕ) (h : History) (x : List ℕ) : Type 0 where
  begins : Begins text h x
  last : ¬ Next h x

ends-one : ((h : History) → IsLegal h → All Fits h.entries) → (text : List ℕ) (h i : History) (x y : List ℕ) → Ends text h x → Ends text i y → (h ≡ i) × (x ≡ y)
ends-one fit text h i x y one other = go (begins-two fit text h i x y one.begins other.begins)
  where
    go : ((h ≡ i) × (x ≡ y)) ⊎ (Next h x ⊎ Next i y) → (h ≡ i) × (x ≡ y)
    go (inl same) = same
    go (inr (inl next)) = absurd (one.last next)
    go (inr (inr next)) = absurd (other.last next)

-- what comes next has the outcome that the rules give
next-outcome : (h : History) (e : EntryValue) → IsNext h e → outcome_of e ≡ outcome_of (next h e.caller e.stated)
unfolding next
next-outcome h e is = rw (is.moment, is.reply) refl

journal-ends : (text : List ℕ) (count : ℕ) (found : IsJournal text count) → Ends text found.history []
journal-ends text count found = record {
  begins = found.begins;
  last = λ next. some-line (entry_line next.entry) next.rest (entry_line-IsLine next.entry next.fits) next.line;
}

wrong-ends : (text : List ℕ) (line : ℕ) (written right : Outcome) (found : HasWrong text line written right) → Ends text found.history (entry_line found.entry ++ found.rest)
wrong-ends text line written right found = record {
  begins = found.begins;
  last = λ next.
      let same = (entries-two found.entry next.entry found.rest next.rest found.fits next.fits next.line).0 in
      found.differ (found.written_is ∙ next-outcome found.history found.entry (subst (IsNext found.history) (sym same) next.next_is) ∙ sym found.right_is);
}

unreadable-ends : (text : List ℕ) (line : ℕ) (found : HasUnreadable text line) → Ends text found.history found.rest
unreadable-ends text line found = record {
  begins = found.begins;
  last = λ next. found.none next.entry next.rest next.fits next.line;
}

-- a text that begins with the journal of a legal history has an opening
opening-there : (text : List ℕ) (h : History) (x : List ℕ) → Begins text h x → ¬ HasNoOpening text
opening-there text h x begins none =
    none h.opening (entry_lines h.entries ++ x) begins.legal.opening (begins.parts ∙ append_assoc (opening_line h.opening) (entry_lines h.entries) x)

-- the lines and outcomes of two wrong entries
wrong-one : ((h : History) → IsLegal h → All Fits h.entries) → (text : List ℕ) (l m : ℕ) (w r v s : Outcome) → HasWrong text l w r → HasWrong text m v s
    → verdict.Wrong l w r ≡ verdict.Wrong m v s
wrong-one fit text l m w r v s one other =
    let ends = ends-one fit text _ _ _ _ (wrong-ends text l w r one) (wrong-ends text m v s other) in
    let entry = (entries-two one.entry other.entry one.rest other.rest one.fits other.fits ends.1).0 in
    let line : l ≡ m = one.line_is ∙ ap (λ h. length h.entries + 2) ends.0 ∙ sym other.line_is in
    let written : w ≡ v = one.written_is ∙ ap outcome_of entry ∙ sym other.written_is in
    let right : r ≡ s = one.right_is ∙ ap (λ h. outcome_of (next h one.entry.caller one.entry.stated)) ends.0
    ∙ ap (λ e. outcome_of (next other.history e.caller e.stated)) entry ∙ sym other.right_is in
    rw (line, written, right) refl

-- a journal has no wrong entry and no unreadable one, and no line is both
journal-not-wrong : ((h : History) → IsLegal h → All Fits h.entries) → (text : List ℕ) (n l : ℕ) (w r : Outcome) → IsJournal text n → ¬ HasWrong text l w r
journal-not-wrong fit text n l w r one other =
    some-line (entry_line other.entry) other.rest (entry_line-IsLine other.entry other.fits)
    (ends-one fit text _ _ _ _ (journal-ends text n one) (wrong-ends text l w r other)).1

journal-not-unreadable : ((h : History) → IsLegal h → All Fits h.entries) → (text : List ℕ) (n l : ℕ) → IsJournal text n → ¬ HasUnreadable text l
journal-not-unreadable fit text n l one other =
    other.some (sym (ends-one fit text _ _ _ _ (journal-ends text n one) (unreadable-ends text l other)).1)

wrong-not-unreadable : ((h : History) → IsLegal h → All Fits h.entries) → (text : List ℕ) (l m : ℕ) (w r : Outcome) → HasWrong text l w r → ¬ HasUnreadable text m
wrong-not-unreadable fit text l m w r one other =
    other.none one.entry one.rest one.fits (sym (ends-one fit text _ _ _ _ (wrong-ends text l w r one) (unreadable-ends text m other)).1)

pub Finds-one : ((h : History) → IsLegal h → All Fits h.entries) → (text : List ℕ) (a b : Verdict) → Finds text a → Finds text b → a ≡ b
Finds-one fit text (verdict.Legal n) (verdict.Legal m) one other =
    let ends = ends-one fit text _ _ _ _ (journal-ends text n one) (journal-ends text m other) in
    ap verdict.Legal (one.count_is ∙ ap (λ h. length h.entries) ends.0 ∙ sym other.count_is)
Finds-one fit text (verdict.Legal n) (verdict.Wrong l w r) one other = absurd (journal-not-wrong fit text n l w r one other)
Finds-one fit text (verdict.Legal n) (verdict.Unreadable l) one other = absurd (journal-not-unreadable fit text n l one other)
Finds-one fit text (verdict.Legal n) verdict.NoOpening one other = absurd (opening-there text one.history [] one.begins other)
Finds-one fit text (verdict.Wrong l w r) (verdict.Legal n) one other = absurd (journal-not-wrong fit text n l w r other one)
Finds-one fit text (verdict.Wrong l w r) (verdict.Wrong m v s) one other = wrong-one fit text l m w r v s one other
Finds-one fit text (verdict.Wrong l w r) (verdict.Unreadable m) one other = absurd (wrong-not-unreadable fit text l m w r one other)
Finds-one fit text (verdict.Wrong l w r) verdict.NoOpening one other = absurd (opening-there text one.history _ one.begins other)
Finds-one fit text (verdict.Unreadable l) (verdict.Legal n) one other = absurd (journal-not-unreadable fit text n l other one)
Finds-one fit text (verdict.Unreadable l) (verdict.Wrong m v s) one other = absurd (wrong-not-unreadable fit text m l v s other one)
Finds-one fit text (verdict.Unreadable l) (verdict.Unreadable m) one other =
    let ends = ends-one fit text _ _ _ _ (unreadable-ends text l one) (unreadable-ends text m other) in
    ap verdict.Unreadable (one.line_is ∙ ap (λ h. length h.entries + 2) ends.0 ∙ sym other.line_is)
Finds-one fit text (verdict.Unreadable l) verdict.NoOpening one other = absurd (opening-there text one.history one.rest one.begins other)
Finds-one fit text verdict.NoOpening (verdict.Legal n) one other = absurd (opening-there text other.history [] other.begins one)
Finds-one fit text verdict.NoOpening (verdict.Wrong l w r) one other = absurd (opening-there text other.history _ other.begins one)
Finds-one fit text verdict.NoOpening (verdict.Unreadable l) one other = absurd (opening-there text other.history other.rest other.begins one)
Finds-one fit text verdict.NoOpening verdict.NoOpening one other = refl
Finds-one fit text verdict.NoMemory b one other = absurd one
Finds-one fit text a verdict.NoMemory one other = absurd other
