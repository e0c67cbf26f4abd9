-- How runs end that read a day file.
use Rattle.std.proofs.Common.{◌≡◌, ◌≢◌, ◌⊎◌, inl, inr, ℕ, ◌≤◌, Option, Ok, Err, List, refl, sym, ap, subst, ◌∙◌, arith}
use Rattle.std.specs.Prelude.{IsErrOf}
use Rattle.std.specs.Io.KnownBytes.{Appends, Keeps}
use Rattle.std.proofs.KnownBytes.{Keeps-trans}
use Rattle.desk_io.specs.declared.status.Status.{Status}
use Rattle.desk_io.specs.declared.status.Status.TheVariants.{Fine, ReadFault, WriteFault, TooLong, NoMemory, AuditWrong, NoOpening, Unreadable}
use Rattle.desk_io.specs.Faults.{Rose}
use Rattle.desk_io.specs.Giving.{AddsFront}
use Rattle.desk_io.specs.Input.{TookMore, TookFront}
use Rattle.command_parser.specs.DayFile.{HasTooMany, HasNoOpening}
use Rattle.day_replay.specs.declared.day_input.TheConstants.{DAY_BYTES}
use Rattle.day_replay.specs.Ends.{WasRead, WritesOrFails, EndsWriting, writes}
use Rattle.day_replay.specs.Replay.{EndsByTheDay, EndsDay, FindsWrong, IsNoDay}
use Rattle.day_replay.proofs.JournalLemmas.{Appends-kept, AddsFront-kept}
use Rattle.day_replay.proofs.ReplayLemmas.{EndsByTheDay-day}

-- ---- where there is no day

IsNoDay-not : (status other : Status) → IsNoDay status → ReadFault ≢ other → TooLong ≢ other → NoMemory ≢ other → NoOpening ≢ other → Unreadable ≢ other → status ≢ other
IsNoDay-not status other (inl is) a b c d e same = a (sym is ∙ same)
IsNoDay-not status other (inr (inl is)) a b c d e same = b (sym is ∙ same)
IsNoDay-not status other (inr (inr (inl is))) a b c d e same = c (sym is ∙ same)
IsNoDay-not status other (inr (inr (inr (inl is)))) a b c d e same = d (sym is ∙ same)
IsNoDay-not status other (inr (inr (inr (inr is)))) a b c d e same = e (sym is ∙ same)

-- a run that could not take a day file ends with that status, whatever it would have done
pub EndsDay-untaken : (A : Type 0) (status : Status) (Done : (List ℕ → Type 0) → Type 0) (left left' : Option (List ℕ)) (asked asked' : ℕ) (held held' : Option (List ℕ)) (given given' : ℕ)
    → IsNoDay status
    → (IsErrOf {T = A} (Err status) ReadFault → Rose asked asked') → ((IsErrOf {T = A} (Err status) ReadFault → ⊥) → asked' ≡ asked)
    → (IsErrOf {T = A} (Err status) TooLong → TookMore left left' DAY_BYTES ⊎ WasRead DAY_BYTES left left' HasTooMany)
    → ((IsErrOf {T = A} (Err status) TooLong → ⊥) → TookFront left left' DAY_BYTES)
    → (IsErrOf {T = A} (Err status) NoOpening → WasRead DAY_BYTES left left' HasNoOpening)
    → (IsErrOf {T = A} (Err status) Unreadable → FindsWrong left left' (WritesOrFails held held' given given'))
    → ((IsErrOf {T = A} (Err status) Unreadable → ⊥) → Keeps held held') → ((IsErrOf {T = A} (Err status) Unreadable → ⊥) → given' ≡ given)
    → asked ≤ asked' → given ≤ given' → EndsByTheDay status left
    → EndsDay status Done left left' asked asked' held held' given given'
EndsDay-untaken A status Done left left' asked asked' held held' given given' no_day read_fault no_fault too_long not_too_long no_opening unreadable silent silent_count source_faults_grow sink_faults_grow by_the_day = record {
  fine = λ e. absurd (IsNoDay-not status Fine no_day (λ x. cc) (λ x. cc) (λ x. cc) (λ x. cc) (λ x. cc) e);
  write_fault = λ e. absurd (IsNoDay-not status WriteFault no_day (λ x. cc) (λ x. cc) (λ x. cc) (λ x. cc) (λ x. cc) e);
  write_cause = λ e. absurd (IsNoDay-not status WriteFault no_day (λ x. cc) (λ x. cc) (λ x. cc) (λ x. cc) (λ x. cc) e);
  read_cause = λ e. read_fault (ap Err e);
  too_long = λ e. too_long (ap Err e);
  not_too_long = λ other. not_too_long (λ e. other (cc));
  no_opening = λ e. no_opening (ap Err e);
  unreadable = λ e. unreadable (ap Err e);
  not_wrong = IsNoDay-not status AuditWrong no_day (λ x. cc) (λ x. cc) (λ x. cc) (λ x. cc) (λ x. cc);
  by_the_day = λ some. by_the_day;
  silent = λ e. silent (λ is. let same : status ≡ Unreadable = cc in let said = ap writes same in cc);
  read_count = λ other. no_fault (λ e. other (cc));
  write_count = λ fault other. silent_count (λ e. other (cc));
  source_faults_grow = source_faults_grow;
  sink_faults_grow = sink_faults_grow;
}

-- ---- where there is one

-- a run that wrote all, or a front of it
pub EndsWriting-whole : (Done : (List ℕ → Type 0) → Type 0) (held held' : Option (List ℕ)) (given given' : ℕ) → Done (Appends held held') → given' ≡ given
    → EndsWriting Fine Done held held' given given'
EndsWriting-whole Done held held' given given' done same = record {
  fine = λ e. done;
  write_fault = λ e. absurd (cc);
  write_cause = λ e. absurd (cc);
  silent = λ e. absurd (cc);
  write_count = λ other. same;
  faults_grow = omega arith;
  only = inl refl;
}

pub EndsWriting-front : (Done : (List ℕ → Type 0) → Type 0) (held held' : Option (List ℕ)) (given given' : ℕ) → Done (AddsFront held held') → Rose given given' → given ≤ given'
    → EndsWriting WriteFault Done held held' given given'
EndsWriting-front Done held held' given given' done rose later = record {
  fine = λ e. absurd (cc);
  write_fault = λ e. done;
  write_cause = λ e. rose;
  silent = λ e. absurd (cc);
  write_count = λ other. absurd (other refl);
  faults_grow = later;
  only = inr (inl refl);
}

-- a run that took a day file, and then did this with what it wrote, did that with it from the start on
pub EndsDay-taken : (A : Type 0) (day : A) (result : Status) (Done Did : (List ℕ → Type 0) → Type 0) (left left' : Option (List ℕ)) (asked asked' : ℕ) (held kept held' : Option (List ℕ)) (given counted given' : ℕ)
    → ((IsErrOf {E = Status} (Ok day) ReadFault → ⊥) → asked' ≡ asked) → ((IsErrOf {E = Status} (Ok day) TooLong → ⊥) → TookFront left left' DAY_BYTES)
    → ((IsErrOf {E = Status} (Ok day) Unreadable → ⊥) → Keeps held kept) → ((IsErrOf {E = Status} (Ok day) Unreadable → ⊥) → counted ≡ given)
    → EndsByTheDay Fine left
    → ((Writes WritesAll : List ℕ → Type 0) → ((text : List ℕ) → Writes text → WritesAll text) → Done Writes → Did WritesAll)
    → EndsWriting result Done kept held' counted given'
    → EndsDay result Did left left' asked asked' held held' given given'
EndsDay-taken A day result Done Did left left' asked asked' held kept held' given counted given' no_fault not_too_long silent silent_count by_the_day as_well ends =
    let stays : Keeps held kept = silent (λ e. cc) in
    let same : counted ≡ given = silent_count (λ e. cc) in
    let not : (other : Status) → Fine ≢ other → WriteFault ≢ other → NoMemory ≢ other → result ≢ other = λ other f w m e. elim ends.only [
      | inl is ↦ f (sym is ∙ e)
      | inr (inl is) ↦ w (sym is ∙ e)
      | inr (inr is) ↦ m (sym is ∙ e)
    ] in
    record {
      fine = λ e. as_well (Appends kept held') (Appends held held') (λ text put. Appends-kept held kept held' text stays put) (ends.fine e);
      write_fault = λ e. as_well (AddsFront kept held') (AddsFront held held') (λ text put. AddsFront-kept held kept held' text stays put) (ends.write_fault e);
      write_cause = λ e. subst (λ n. Rose n given') same (ends.write_cause e);
      read_cause = λ e. absurd (not ReadFault (λ x. cc) (λ x. cc) (λ x. cc) e);
      too_long = λ e. absurd (not TooLong (λ x. cc) (λ x. cc) (λ x. cc) e);
      not_too_long = λ other. not_too_long (λ e. cc);
      no_opening = λ e. absurd (not NoOpening (λ x. cc) (λ x. cc) (λ x. cc) e);
      unreadable = λ e. absurd (not Unreadable (λ x. cc) (λ x. cc) (λ x. cc) e);
      not_wrong = not AuditWrong (λ x. cc) (λ x. cc) (λ x. cc);
      by_the_day = λ some. EndsByTheDay-day left result ends.only by_the_day;
      silent = λ e. elim ends.only [
        | inl is ↦ absurd (let said = ap writes is in cc)
        | inr (inl is) ↦ absurd (let said = ap writes is in cc)
        | inr (inr is) ↦ Keeps-trans held kept held' stays (ends.silent is)
      ];
      read_count = λ other. no_fault (λ e. cc);
      write_count = λ fault other. ends.write_count fault ∙ same;
      source_faults_grow = let count = no_fault (λ e. cc) in omega arith;
      sink_faults_grow = omega (arith, ends.faults_grow);
    }

-- ---- what was done, in other words

pub EndsWriting-done : (result : Status) (Done Did : (List ℕ → Type 0) → Type 0) (held held' : Option (List ℕ)) (given given' : ℕ)
    → ((Writes : List ℕ → Type 0) → Done Writes → Did Writes) → EndsWriting result Done held held' given given' → EndsWriting result Did held held' given given'
EndsWriting-done result Done Did held held' given given' as_well ends = record {
  fine = λ e. as_well (Appends held held') (ends.fine e);
  write_fault = λ e. as_well (AddsFront held held') (ends.write_fault e);
  write_cause = ends.write_cause;
  silent = ends.silent;
  write_count = ends.write_count;
  faults_grow = ends.faults_grow;
  only = ends.only;
}

pub EndsDay-done : (result : Status) (Done Did : (List ℕ → Type 0) → Type 0) (left left' : Option (List ℕ)) (asked asked' : ℕ) (held held' : Option (List ℕ)) (given given' : ℕ)
    → ((Writes : List ℕ → Type 0) → Done Writes → Did Writes) → EndsDay result Done left left' asked asked' held held' given given'
    → EndsDay result Did left left' asked asked' held held' given given'
EndsDay-done result Done Did left left' asked asked' held held' given given' as_well ends = record {
  fine = λ e. as_well (Appends held held') (ends.fine e);
  write_fault = λ e. as_well (AddsFront held held') (ends.write_fault e);
  write_cause = ends.write_cause;
  read_cause = ends.read_cause;
  too_long = ends.too_long;
  not_too_long = ends.not_too_long;
  no_opening = ends.no_opening;
  unreadable = ends.unreadable;
  not_wrong = ends.not_wrong;
  by_the_day = ends.by_the_day;
  silent = ends.silent;
  read_count = ends.read_count;
  write_count = ends.write_count;
  source_faults_grow = ends.source_faults_grow;
  sink_faults_grow = ends.sink_faults_grow;
}
