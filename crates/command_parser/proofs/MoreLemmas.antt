-- Commands that a journal goes on with: what is told of their bytes is one.
use Rattle.std.proofs.Common.{◌≡◌, ◌∙◌, ℕ, List, refl, ap, sym, arith, inl, inr}
use Rattle.std.specs.Prelude.{IfOk, IfErr, Result, Ok, Err, ◌≢◌, ◌⊎◌}
use Rattle.std.specs.Result.{IsOkUnless}
use Rattle.desk_model.specs.statements.Statement.{StatedValue}
use Rattle.record_rows.specs.Rows.{records_of}
use Rattle.command_parser.specs.declared.more_fault.MoreFault.{MoreFault}
use Rattle.command_parser.specs.declared.more_fault.MoreFault.TheVariants as fault
use Rattle.command_parser.specs.MoreCommands.{AreCommands, HasMoreFault}
use Rattle.command_parser.proofs.DayLemmas.{all-read, commands-one, HasWrong-one}

pub AreCommands-one : (bytes : List ℕ) (room : ℕ) (cs ds : List StatedValue) → AreCommands bytes room cs → AreCommands bytes room ds → cs ≡ ds
AreCommands-one bytes room cs ds is also = commands-one cs ds is.states.valid also.states.valid (sym is.states.fields ∙ also.states.fields)

-- bytes that state commands have no fault
pub AreCommands-faultless : (bytes : List ℕ) (room : ℕ) (commands : List StatedValue) (cause : MoreFault) → AreCommands bytes room commands → ¬ HasMoreFault bytes room cause
AreCommands-faultless bytes room commands fault.TooMany is has = omega (arith, has, is.few)
AreCommands-faultless bytes room commands (fault.Unreadable n f) is has = all-read 1 (records_of bytes) commands is.states n f has.wrong
AreCommands-faultless bytes room commands fault.NoMemory is has = has

-- and others have one
HasMoreFault-one : (bytes : List ℕ) (room : ℕ) (a b : MoreFault) → HasMoreFault bytes room a → HasMoreFault bytes room b → a ≡ b
HasMoreFault-one bytes room fault.TooMany fault.TooMany ha hb = refl
HasMoreFault-one bytes room fault.TooMany (fault.Unreadable n f) ha hb = absurd (omega (arith, ha, hb.few))
HasMoreFault-one bytes room (fault.Unreadable n f) fault.TooMany ha hb = absurd (omega (arith, hb, ha.few))
HasMoreFault-one bytes room (fault.Unreadable n f) (fault.Unreadable m g) ha hb =
    let one = HasWrong-one 1 (records_of bytes) n f m g ha.wrong hb.wrong in rw (one.0, one.1) refl
HasMoreFault-one bytes room a fault.NoMemory ha hb = absurd hb
HasMoreFault-one bytes room fault.NoMemory b ha hb = absurd ha

-- ---- what a reader tells, where of each fault that it tells the cause holds

abbrev pub TellsMoreFault : {X : Type 0} → Result X MoreFault → List ℕ → ℕ → Type 0
TellsMoreFault result bytes room = IfErr result (λ told. told ≢ fault.NoMemory → HasMoreFault bytes room told)

pub commands-read : {X : Type 0} (result : Result X MoreFault) (bytes : List ℕ) (room : ℕ) (commands : List StatedValue)
    → TellsMoreFault result bytes room → AreCommands bytes room commands → IsOkUnless result fault.NoMemory
commands-read (Ok read) bytes room commands tells is = tt
commands-read (Err fault.TooMany) bytes room commands tells is = absurd (AreCommands-faultless bytes room commands fault.TooMany is (tells (λ e. let e = e in cc)))
commands-read (Err (fault.Unreadable n f)) bytes room commands tells is = absurd (AreCommands-faultless bytes room commands (fault.Unreadable n f) is (tells (λ e. let e = e in cc)))
commands-read (Err fault.NoMemory) bytes room commands tells is = refl

pub more-told : {X : Type 0} (items : X → List StatedValue) (result : Result X MoreFault) (bytes : List ℕ) (room : ℕ) (cause : MoreFault)
    → IfOk result (λ read. AreCommands bytes room (items read)) → TellsMoreFault result bytes room → HasMoreFault bytes room cause
    → (result ≡ Err cause) ⊎ (result ≡ Err fault.NoMemory)
more-told items (Ok read) bytes room cause is tells has = absurd (AreCommands-faultless bytes room _ cause is has)
more-told items (Err fault.TooMany) bytes room cause is tells has = inl (ap Err (HasMoreFault-one bytes room _ cause (tells (λ e. let e = e in cc)) has))
more-told items (Err (fault.Unreadable n f)) bytes room cause is tells has = inl (ap Err (HasMoreFault-one bytes room _ cause (tells (λ e. let e = e in cc)) has))
more-told items (Err fault.NoMemory) bytes room cause is tells has = inr refl
