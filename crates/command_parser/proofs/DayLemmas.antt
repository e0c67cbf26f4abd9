-- The commands of a day file.
use Rattle.std.proofs.Common.{◌≡◌, ◌∙◌, ℕ, ◌<◌, List, [], ◌∷◌, length, map, get_or, drop, refl, ap, sym, length-append, arith, inl, inr}
use Rattle.std.specs.Prelude.{IfOk, IfErr, Result, Ok, Err, ◌≢◌, ◌⊎◌}
use Rattle.std.specs.Result.{IsOkUnless}
use Rattle.command_parser.specs.declared.day_file.DayFile.{DayFile}
use Rattle.std.proofs.lemmas.List.{length-map, get_or-map, get_or_append_left}
use Rattle.std.proofs.Math.Seq.{get_or-append_seam}
use Rattle.std.proofs.lemmas.List.Elements.{All-head, All-tail}
use Rattle.std.specs.List.{All}
use Rattle.desk_model.specs.statements.Opening.{OpeningValue}
use Rattle.desk_model.specs.declared.command.Cmd.TheVariants as cmd
use Rattle.desk_model.specs.statements.Statement.{StatedValue, stated_of}
use Rattle.desk_model.specs.statements.Fits.{IsStated}
use Rattle.desk_model.specs.texts.StatedTexts.{stated_fields}
use Rattle.record_rows.specs.Rows.{records_of}
use Rattle.command_parser.specs.Spelled.{StatesCommand}
use Rattle.command_parser.specs.OpeningRecord.{StatesOpening}
use Rattle.command_parser.specs.declared.limits.TheConstants.{RECORD_LIMIT}
use Rattle.command_parser.specs.declared.day_fault.DayFault.{DayFault}
use Rattle.command_parser.specs.declared.day_fault.DayFault.TheVariants as fault
use Rattle.command_parser.specs.DayFile.{StateCommands, HasWrong, IsOpened, IsDayFile, HasUnreadable, HasNoOpening, HasFault}
use Rattle.command_parser.proofs.ApartLemmas.{stated_fields-one}
use Rattle.command_parser.proofs.FormLemmas.{wrong-one}
use Rattle.command_parser.proofs.OpeningLemmas.{opening_fields-one}

-- of records that state commands each states one
states-there : (records : List (List (List ℕ))) (commands : List StatedValue) → StateCommands records commands
    → (k : ℕ) → k < length records → (s : StatedValue) × StatesCommand (get_or records k []) s
states-there records commands states k within =
    let d = stated_of 0 (cmd.Next 0) in
    let lt : k < length commands = omega (arith, within, ap length states.fields, length-map commands stated_fields) in (
      get_or commands k d,
      record {
        valid = states.valid k d lt;
        fields_are = ap (λ l. get_or l k []) states.fields ∙ get_or-map stated_fields commands k d [] lt;
      },
    )

-- what stands behind the records before it, as its own place among all
bad-there : (first : ℕ) (all : List (List (List ℕ))) (n f : ℕ) (has : HasWrong first all n f) → get_or all (length has.before) [] ≡ has.bad
bad-there first all n f has = ap (λ l. get_or l (length has.before) []) has.parts ∙ get_or-append_seam has.before has.bad has.after []

-- among records that state commands is no wrong one
pub all-read : (first : ℕ) (all : List (List (List ℕ))) (commands : List StatedValue) → StateCommands all commands → (record_no field : ℕ) → ¬ HasWrong first all record_no field
all-read first all commands states record_no field has =
    let within : length has.before < length all = omega (arith, ap length has.parts, length-append has.before (has.bad ∷ has.after)) in
    let there = states-there all commands states (length has.before) within in
    has.wrong there.0 (rw (bad-there first all record_no field has) at there.1)

-- no wrong record stands before the first one
none-before : (first : ℕ) (all : List (List (List ℕ))) (n f m g : ℕ) (has : HasWrong first all n f) (other : HasWrong first all m g) → ¬ (length has.before < length other.before)
none-before first all n f m g has other less =
    let there = states-there other.before other.commands other.states (length has.before) less in
    let same : get_or other.before (length has.before) [] ≡ has.bad =
    sym (get_or_append_left other.before (other.bad ∷ other.after) [] (length has.before) less)
    ∙ ap (λ l. get_or l (length has.before) []) (sym other.parts) ∙ bad-there first all n f has in
    has.wrong there.0 (rw (same) at there.1)

-- one field of one record is the first wrong one
pub HasWrong-one : (first : ℕ) (all : List (List (List ℕ))) (n f m g : ℕ) → HasWrong first all n f → HasWrong first all m g → (n ≡ m) × (f ≡ g)
HasWrong-one first all n f m g has other =
    let len : length has.before ≡ length other.before = omega (arith, none-before first all n f m g has other, none-before first all m g n f other has) in
    let bad : has.bad ≡ other.bad = sym (bad-there first all n f has) ∙ ap (λ k. get_or all k []) len ∙ bad-there first all m g other in (
      omega (arith, len, has.record_is, other.record_is),
      wrong-one other.bad f g (rw (bad) at has.field_is) other.field_is,
    )

-- ---- bytes are one day file at most

pub commands-one : (cs ds : List StatedValue) → All IsStated cs → All IsStated ds → map stated_fields cs ≡ map stated_fields ds → cs ≡ ds
commands-one [] [] hc hd e = refl
commands-one [] (d ∷ ds) hc hd e = absurd (omega (arith, ap length e))
commands-one (c ∷ cs) [] hc hd e = absurd (omega (arith, ap length e))
commands-one (c ∷ cs) (d ∷ ds) hc hd e =
    let first = stated_fields-one c d (All-head IsStated c cs hc) (All-head IsStated d ds hd) (ap (λ l. get_or l 0 []) e) in
    let others = commands-one cs ds (All-tail IsStated c cs hc) (All-tail IsStated d ds hd) (ap (λ l. drop 1 l) e) in
    rw (first, others) refl

-- one opening, and what is behind it
pub IsOpened-one : (bytes : List ℕ) (o p : OpeningValue) (rest more : List (List (List ℕ))) → IsOpened bytes o rest → IsOpened bytes p more
    → (o ≡ p) × (rest ≡ more)
IsOpened-one bytes o p rest more is also =
    let parts = sym is.parts ∙ also.parts in
    let first : is.first ≡ also.first = ap (λ l. get_or l 0 []) parts in (
      opening_fields-one o p is.opening.valid also.opening.valid (sym is.opening.fields_are ∙ first ∙ also.opening.fields_are),
      ap (λ l. drop 1 l) parts,
    )

pub IsDayFile-one : (bytes : List ℕ) (o p : OpeningValue) (cs ds : List StatedValue) → IsDayFile bytes o cs → IsDayFile bytes p ds → (o ≡ p) × (cs ≡ ds)
IsDayFile-one bytes o p cs ds is also =
    let one = IsOpened-one bytes o p is.rest also.rest is.opened also.opened in (
      one.0,
      commands-one cs ds is.states.valid also.states.valid (sym is.states.fields ∙ one.1 ∙ also.states.fields),
    )

-- a day file has no unreadable record
pub IsDayFile-readable : (bytes : List ℕ) (o : OpeningValue) (commands : List StatedValue) → IsDayFile bytes o commands
    → (record_no field : ℕ) → ¬ HasUnreadable bytes record_no field
IsDayFile-readable bytes o commands day record_no field un =
    all-read 2 un.rest commands (rw (IsOpened-one bytes _ _ _ _ day.opened un.opened).1 at day.states) record_no field un.wrong

-- and no other bytes have two first wrong fields
pub HasUnreadable-one : (bytes : List ℕ) (n f m g : ℕ) → HasUnreadable bytes n f → HasUnreadable bytes m g → (n ≡ m) × (f ≡ g)
HasUnreadable-one bytes n f m g has other =
    HasWrong-one 2 other.rest n f m g (rw (IsOpened-one bytes _ _ _ _ has.opened other.opened).1 at has.wrong) other.wrong

-- ---- what a reader finds

-- no record at all
pub HasNoOpening-none : (bytes : List ℕ) → records_of bytes ≡ [] → HasNoOpening bytes
HasNoOpening-none bytes none = record {
  few = omega (arith, ap length none);
  none = λ o rest opened. omega (arith, ap length none, ap length opened.parts);
}

-- a first record that states no opening
pub HasNoOpening-first : (bytes : List ℕ) (first : List (List ℕ)) (rest : List (List (List ℕ))) → records_of bytes ≡ first ∷ rest
    → length rest < RECORD_LIMIT → ((o : OpeningValue) → ¬ StatesOpening first o) → HasNoOpening bytes
HasNoOpening-first bytes first rest parts few none = record {
  few = omega (arith, ap length parts, few);
  none = λ o others opened.
      let same : first ≡ opened.first = ap (λ l. get_or l 0 []) (sym parts ∙ opened.parts) in
      none o (rw same opened.opening);
}

-- and one that states one
pub IsOpened-first : (bytes : List ℕ) (first : List (List ℕ)) (rest : List (List (List ℕ))) (o : OpeningValue) → records_of bytes ≡ first ∷ rest
    → length rest < RECORD_LIMIT → StatesOpening first o → IsOpened bytes o rest
IsOpened-first bytes first rest o parts few states = record { few = omega (arith, ap length parts, few); first = first; parts = parts; opening = states }

-- ---- one fault at most

pub HasFault-one : (bytes : List ℕ) (a b : DayFault) → HasFault bytes a → HasFault bytes b → a ≡ b
HasFault-one bytes fault.TooMany fault.TooMany ha hb = refl
HasFault-one bytes fault.TooMany fault.NoOpening ha hb = absurd (omega (arith, ha, hb.few))
HasFault-one bytes fault.TooMany (fault.Unreadable n f) ha hb = absurd (omega (arith, ha, hb.opened.few))
HasFault-one bytes fault.NoOpening fault.TooMany ha hb = absurd (omega (arith, hb, ha.few))
HasFault-one bytes fault.NoOpening fault.NoOpening ha hb = refl
HasFault-one bytes fault.NoOpening (fault.Unreadable n f) ha hb = absurd (ha.none _ _ hb.opened)
HasFault-one bytes (fault.Unreadable n f) fault.TooMany ha hb = absurd (omega (arith, hb, ha.opened.few))
HasFault-one bytes (fault.Unreadable n f) fault.NoOpening ha hb = absurd (hb.none _ _ ha.opened)
HasFault-one bytes (fault.Unreadable n f) (fault.Unreadable m g) ha hb = let one = HasUnreadable-one bytes n f m g ha hb in rw (one.0, one.1) refl
HasFault-one bytes a fault.NoMemory ha hb = absurd hb
HasFault-one bytes fault.NoMemory b ha hb = absurd ha

-- and none of a day file
pub IsDayFile-faultless : (bytes : List ℕ) (o : OpeningValue) (commands : List StatedValue) (cause : DayFault) → IsDayFile bytes o commands → ¬ HasFault bytes cause
IsDayFile-faultless bytes o commands fault.TooMany day has = omega (arith, has, day.opened.few)
IsDayFile-faultless bytes o commands fault.NoOpening day has = has.none _ _ day.opened
IsDayFile-faultless bytes o commands (fault.Unreadable n f) day has = IsDayFile-readable bytes o commands day n f has
IsDayFile-faultless bytes o commands fault.NoMemory day has = has

-- ---- what a reader tells, where of each fault that it tells the cause holds

abbrev pub TellsFault : {X : Type 0} → Result X DayFault → List ℕ → Type 0
TellsFault result bytes = IfErr result (λ told. told ≢ fault.NoMemory → HasFault bytes told)

-- a day file is read, unless memory is wanting
pub day-reads : {X : Type 0} (result : Result X DayFault) (bytes : List ℕ) (o : OpeningValue) (commands : List StatedValue)
    → TellsFault result bytes → IsDayFile bytes o commands → IsOkUnless result fault.NoMemory
day-reads (Ok day) bytes o commands tells is = tt
day-reads (Err fault.TooMany) bytes o commands tells is = absurd (IsDayFile-faultless bytes o commands fault.TooMany is (tells (λ e. let e = e in cc)))
day-reads (Err fault.NoOpening) bytes o commands tells is = absurd (IsDayFile-faultless bytes o commands fault.NoOpening is (tells (λ e. let e = e in cc)))
day-reads (Err (fault.Unreadable n f)) bytes o commands tells is = absurd (IsDayFile-faultless bytes o commands (fault.Unreadable n f) is (tells (λ e. let e = e in cc)))
day-reads (Err fault.NoMemory) bytes o commands tells is = refl

-- and a fault is told
pub fault-told : (result : Result DayFile DayFault) (bytes : List ℕ) (cause : DayFault) → IfOk result (λ day. IsDayFile bytes day.opening day.commands.items)
    → TellsFault result bytes → HasFault bytes cause → (result ≡ Err cause) ⊎ (result ≡ Err fault.NoMemory)
fault-told (Ok day) bytes cause is tells has = absurd (IsDayFile-faultless bytes _ _ cause is has)
fault-told (Err fault.TooMany) bytes cause is tells has = inl (ap Err (HasFault-one bytes _ cause (tells (λ e. let e = e in cc)) has))
fault-told (Err fault.NoOpening) bytes cause is tells has = inl (ap Err (HasFault-one bytes _ cause (tells (λ e. let e = e in cc)) has))
fault-told (Err (fault.Unreadable n f)) bytes cause is tells has = inl (ap Err (HasFault-one bytes _ cause (tells (λ e. let e = e in cc)) has))
fault-told (Err fault.NoMemory) bytes cause is tells has = inr refl
