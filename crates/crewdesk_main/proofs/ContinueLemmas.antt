-- A journal that goes on.
use Rattle.std.proofs.Common.{◌≡◌, ◌≢◌, ◌⊎◌, inl, inr, ◌≤◌, ℕ, Option, List, [], ◌∷◌, length, map, refl, sym, subst, ap, ◌∙◌, append-nil, arith}
use Rattle.std.specs.List.{All}
use Rattle.std.proofs.lemmas.List.Elements.{All-head, All-tail}
use Rattle.desk_io.specs.declared.status.Status.{Status}
use Rattle.desk_io.specs.declared.status.Status.TheVariants.{Fine, WriteFault, NoMemory}
use Rattle.desk_io.specs.Giving.{AddsFront}
use Rattle.desk_io.specs.Input.{TookAll}
use Rattle.desk_model.specs.statements.Statement.{StatedValue}
use Rattle.desk_model.specs.statements.Fits.{IsStated}
use Rattle.desk_model.specs.histories.History.{History, with_entry}
use Rattle.desk_model.specs.texts.Journal.{journal}
use Rattle.desk_model.specs.histories.Legal.{next, history_from, MayState, IsLegal}
use Rattle.command_parser.specs.MoreCommands.{AreCommands, HasMoreFault}
use Rattle.command_parser.specs.declared.more_fault.MoreFault.{MoreFault}
use Rattle.command_parser.specs.declared.more_fault.MoreFault.TheVariants as fault
use Rattle.audit_desk.specs.declared.journal.TheConstants.{JOURNAL_BYTES}
use Rattle.audit_desk.specs.declared.verdict.Verdict.{Verdict}
use Rattle.audit_desk.specs.declared.verdict.Verdict.TheVariants as verdict
use Rattle.audit_desk.specs.Found.{Finds}
use Rattle.audit_desk.specs.Resumed.{Resumes}
use Rattle.day_replay.specs.Ends.{WasRead, Tells}
use Rattle.crewdesk_main.specs.Lines.{HasFewLines}
use Rattle.crewdesk_main.specs.Audit.{IsAudited, ends_as}
use Rattle.crewdesk_main.specs.Parts.{journal_of, more_of}
use Rattle.day_replay.specs.Replay.{by_the_day_file, goes_on}
use Rattle.crewdesk_main.specs.GoesOn.{GoesOn, FindsWrongField, EndsByTheCommands}
use Rattle.crewdesk_main.specs.Continue.{room_behind, IsContinued, HasCommandFault, IsTooLong, Continues, FindsVerdict, FindsWrongCommand, EndsByTheText}
use Rattle.day_replay.proofs.HistoryLemmas.{goes_on-none, day-MayState}
use Rattle.day_replay.proofs.InputLemmas.{WasRead-TookAll, TookAll-told}
use Rattle.day_replay.proofs.JournalLemmas.{AddsFront-journal}

-- a front of a journal is one of the journal that goes on with commands
pub AddsFront-goes_on : (a b : Option (List ℕ)) (h : History) (commands : List StatedValue) (text : List ℕ) → text ≡ journal h → AddsFront a b text → AddsFront a b (journal (goes_on h commands))
AddsFront-goes_on a b h commands text is front =
    AddsFront-journal a b h commands 0 (subst (λ g. AddsFront a b (journal g)) (sym (goes_on-none h)) (subst (AddsFront a b) is front))

-- ---- the history that goes on is legal, by the law of what a legal history grows by

abbrev pub Grows : Type 0
Grows = (h : History) (caller : ℕ) (s : StatedValue) → IsLegal h → MayState caller s → IsLegal (with_entry h (next h caller s))

history_from-legal : Grows → (h : History) (commands : List (ℕ × StatedValue)) → IsLegal h → All (λ c. MayState c.0 c.1) commands → IsLegal (history_from h commands)
unfolding history_from
history_from-legal grows h [] legal all = legal
history_from-legal grows h ((caller, s) ∷ rest) legal all =
    history_from-legal grows (with_entry h (next h caller s)) rest
    (grows h caller s legal (All-head (λ c. MayState c.0 c.1) (caller, s) rest all))
    (All-tail (λ c. MayState c.0 c.1) (caller, s) rest all)

goes_on-legal : Grows → (h : History) (commands : List StatedValue) → IsLegal h → All IsStated commands → IsLegal (goes_on h commands)
goes_on-legal grows h commands legal all = history_from-legal grows h (map by_the_day_file commands) legal (day-MayState commands all)

-- ---- the text's journal is a legal one

pub IsAudited-Resumes : (Stands : History → Type 0) (text kept : List ℕ) (count : ℕ) → kept ≡ journal_of text → HasFewLines kept → Resumes Stands kept count
    → IsAudited (journal_of text) (verdict.Legal count)
IsAudited-Resumes Stands text kept count cut few so =
    subst (λ j. IsAudited j (verdict.Legal count)) cut (record { few = few; finds = record { history = so.history; begins = so.begins; count_is = so.count_is } })

pub Continues-Resumes : Grows → (Stands : History → Type 0) (text kept more : List ℕ) (count : ℕ) (Writes : List ℕ → Type 0)
    → kept ≡ journal_of text → more ≡ more_of text → HasFewLines kept → Resumes Stands kept count → GoesOn Stands kept more (room_behind count) Writes
    → Continues (λ P. P text) Writes
Continues-Resumes grows Stands text kept more count Writes cut behind few so goes =
    let h = so.history in
    let is : kept ≡ journal h = so.begins.parts ∙ append-nil (journal h) in
    record {
      history = h;
      commands = goes.commands;
      read = record {
        few = subst HasFewLines cut few;
        legal = so.begins.legal;
        journal = sym cut ∙ is;
        more = subst (λ m. AreCommands m (room_behind (length h.entries)) goes.commands) behind
            (subst (λ n. AreCommands more (room_behind n) goes.commands) so.count_is goes.are);
      };
      legal = goes_on-legal grows h goes.commands so.begins.legal goes.are.states.valid;
      written = goes.written h so.stands is;
    }

pub HasCommandFault-at : (text more : List ℕ) (count : ℕ) (cause : MoreFault) → more ≡ more_of text → IsAudited (journal_of text) (verdict.Legal count)
    → HasMoreFault more (room_behind count) cause → HasCommandFault text cause
HasCommandFault-at text more count cause behind audited has =
    record { count = count; audited = audited; has = subst (λ m. HasMoreFault m (room_behind count) cause) behind has }

pub FindsWrongCommand-at : (text more : List ℕ) (count : ℕ) (Writes : List ℕ → Type 0) → more ≡ more_of text → IsAudited (journal_of text) (verdict.Legal count)
    → FindsWrongField more (room_behind count) Writes → FindsWrongCommand (λ P. P text) Writes
FindsWrongCommand-at text more count Writes behind audited finds = record {
  record_no = finds.record_no;
  field = finds.field;
  read = HasCommandFault-at text more count (fault.Unreadable finds.record_no finds.field) behind audited finds.has;
  written = finds.written;
}

-- ---- which status comes where, by the law that an audit finds one verdict

abbrev pub OneVerdict : Type 0
OneVerdict = (text : List ℕ) (a b : Verdict) → Finds text a → Finds text b → a ≡ b

IsAudited-continued : (text : List ℕ) (h : History) (commands : List StatedValue) → IsContinued text h commands → IsAudited (journal_of text) (verdict.Legal (length h.entries))
IsAudited-continued text h commands is = record {
  few = is.few;
  finds = record { history = h; begins = record { legal = is.legal; parts = is.journal ∙ sym (append-nil (journal h)) }; count_is = refl };
}

one-count : OneVerdict → (text : List ℕ) (a b : ℕ) → IsAudited text (verdict.Legal a) → IsAudited text (verdict.Legal b) → a ≡ b
one-count one text a b is other = let same = one text (verdict.Legal a) (verdict.Legal b) is.finds other.finds in cc

fault-at : OneVerdict → (text more : List ℕ) (count : ℕ) (cause : MoreFault) → more ≡ more_of text → IsAudited (journal_of text) (verdict.Legal count)
    → HasCommandFault text cause → HasMoreFault more (room_behind count) cause
fault-at one text more count cause behind audited has =
    subst (λ m. HasMoreFault m (room_behind count) cause) (sym behind)
    (subst (λ n. HasMoreFault (more_of text) (room_behind n) cause) (one-count one (journal_of text) has.count count has.audited audited) has.has)

-- where it is legal
pub EndsByTheText-legal : OneVerdict → (result : Status) (text more : List ℕ) (count : ℕ) → more ≡ more_of text → IsAudited (journal_of text) (verdict.Legal count)
    → EndsByTheCommands result more (room_behind count) → EndsByTheText result (λ P. P text)
EndsByTheText-legal one result text more count behind audited ends = record {
  too_long = λ long. elim long [
    | inl many ↦ absurd (omega (arith, many, audited.few))
    | inr has ↦ ends.too_many (fault-at one text more count fault.TooMany behind audited has)
  ];
  verdict = λ found is legal. absurd (legal (ap ends_as (one (journal_of text) found (verdict.Legal count) is.finds audited.finds)));
  unreadable = λ record_no field has. ends.unreadable record_no field (fault-at one text more count (fault.Unreadable record_no field) behind audited has);
  goes_on = λ h commands is.
      let same = one-count one (journal_of text) (length h.entries) count (IsAudited-continued text h commands is) audited in
      ends.commands commands (subst (λ m. AreCommands m (room_behind count) commands) (sym behind)
      (subst (λ n. AreCommands (more_of text) (room_behind n) commands) same is.more));
}

-- and where an audit finds something else
pub EndsByTheText-found : OneVerdict → (result : Status) (text : List ℕ) (found : Verdict) → HasFewLines (journal_of text)
    → (found ≢ verdict.NoMemory → Finds (journal_of text) found) → ((count : ℕ) → found ≢ verdict.Legal count)
    → (result ≡ ends_as found) ⊎ ((result ≡ NoMemory) ⊎ ((ends_as found ≡ Fine) × (result ≡ WriteFault)))
    → EndsByTheText result (λ P. P text)
EndsByTheText-found one result text found few finds other only =
    let wanting : result ≢ NoMemory → found ≢ verdict.NoMemory = λ memory none. elim only [
      | inl ends ↦ memory (ends ∙ ap ends_as none)
      | inr (inl ends) ↦ memory ends
      | inr (inr ends) ↦ let fine = ends.0 in let wants = ap ends_as none in cc
    ] in
    let never : (count : ℕ) → IsAudited (journal_of text) (verdict.Legal count) → result ≢ NoMemory → ⊥ =
    λ count audited memory. other count (one (journal_of text) found (verdict.Legal count) (finds (wanting memory)) audited.finds) in
    record {
      too_long = λ long read memory. elim long [
        | inl many ↦ absurd (omega (arith, many, few))
        | inr has ↦ absurd (never has.count has.audited memory)
      ];
      verdict = λ told is legal read memory.
          let same = one (journal_of text) found told (finds (wanting memory)) is.finds in
          elim only [
            | inl ends ↦ ends ∙ ap ends_as same
            | inr (inl ends) ↦ absurd (memory ends)
            | inr (inr ends) ↦ absurd (legal (sym (ap ends_as same) ∙ ends.0))
          ];
      unreadable = λ record_no field has read memory. absurd (never has.count has.audited memory);
      goes_on = λ h commands is write read memory. absurd (never (length h.entries) (IsAudited-continued text h commands is) memory);
    }

-- ---- the same of what was taken from a source

pub FindsVerdict-TookAll : (before after : Option (List ℕ)) (bytes seen : List ℕ) (status : Status) (Writes : List ℕ → Type 0) → TookAll before after bytes → length bytes ≤ JOURNAL_BYTES → seen ≡ bytes
    → FindsVerdict (λ P. P seen) status Writes → FindsVerdict (WasRead JOURNAL_BYTES before after) status Writes
FindsVerdict-TookAll before after bytes seen status Writes took within same finds = record {
  found = finds.found;
  read = WasRead-TookAll JOURNAL_BYTES before after bytes (λ text. IsAudited (journal_of text) finds.found) took within
      (subst (λ text. IsAudited (journal_of text) finds.found) same finds.read);
  ends = finds.ends;
  written = finds.written;
}

pub FindsWrongCommand-TookAll : (before after : Option (List ℕ)) (bytes seen : List ℕ) (Writes : List ℕ → Type 0) → TookAll before after bytes → length bytes ≤ JOURNAL_BYTES → seen ≡ bytes
    → FindsWrongCommand (λ P. P seen) Writes → FindsWrongCommand (WasRead JOURNAL_BYTES before after) Writes
FindsWrongCommand-TookAll before after bytes seen Writes took within same finds =
    let cause = fault.Unreadable finds.record_no finds.field in
    record {
      record_no = finds.record_no;
      field = finds.field;
      read = WasRead-TookAll JOURNAL_BYTES before after bytes (λ text. HasCommandFault text cause) took within (subst (λ text. HasCommandFault text cause) same finds.read);
      written = finds.written;
    }

at-seen : (before after : Option (List ℕ)) (bytes seen : List ℕ) (P : List ℕ → Type 0) → TookAll before after bytes → seen ≡ bytes → Tells JOURNAL_BYTES before P → P seen
at-seen before after bytes seen P took same tells = subst P (TookAll-told before after bytes tells.bytes took tells.told ∙ sym same) tells.has

pub EndsByTheText-TookAll : (result : Status) (before after : Option (List ℕ)) (bytes seen : List ℕ) → TookAll before after bytes → seen ≡ bytes
    → EndsByTheText result (λ P. P seen) → EndsByTheText result (Tells JOURNAL_BYTES before)
EndsByTheText-TookAll result before after bytes seen took same ends = record {
  too_long = λ tells. ends.too_long (at-seen before after bytes seen IsTooLong took same tells);
  verdict = λ found tells. ends.verdict found (at-seen before after bytes seen (λ text. IsAudited (journal_of text) found) took same tells);
  unreadable = λ record_no field tells. ends.unreadable record_no field (at-seen before after bytes seen (λ text. HasCommandFault text (fault.Unreadable record_no field)) took same tells);
  goes_on = λ h commands tells. ends.goes_on h commands (at-seen before after bytes seen (λ text. IsContinued text h commands) took same tells);
}
