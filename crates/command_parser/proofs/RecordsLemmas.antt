-- Records of commands, read one after another.
use Rattle.std.proofs.Common.{◌≡◌, ◌∙◌, ◌↔◌, ℕ, ◌+◌, ◌<◌, Bool, true, false, List, [], ◌∷◌, ◌++◌, length, map, refl, ap, sym, subst, append_assoc, length-append, arith}
use Rattle.std.specs.Prelude.{◌≢◌, Result, Ok, Err}
use Rattle.std.specs.Result.{IsErrAnd}
use Rattle.std.specs.Bool.{IsTrue, MatchBool}
use Rattle.std.proofs.lemmas.Bool.{false≢true}
use Rattle.std.proofs.lemmas.List.{map-append}
use Rattle.std.proofs.lemmas.List.Elements.{All-nil, All-cons, All-append}
use Rattle.record_rows.specs.declared.rows.Rows.{Rows}
use Rattle.record_rows.specs.Rows.{HasLeft, TookFirst}
use Rattle.desk_model.specs.statements.Statement.{StatedValue}
use Rattle.desk_model.specs.statements.Fits.{IsStated}
use Rattle.desk_model.specs.texts.StatedTexts.{stated_fields}
use Rattle.command_parser.specs.declared.command_records.CommandRecords.{CommandRecords}
use Rattle.command_parser.specs.declared.day_fault.DayFault.{DayFault}
use Rattle.command_parser.specs.declared.limits.TheConstants.{COMMAND_LIMIT}
use Rattle.command_parser.specs.declared.more_fault.MoreFault.{MoreFault}
use Rattle.command_parser.specs.declared.more_fault.MoreFault.TheVariants as more
use Rattle.command_parser.specs.declared.open_day.OpenDay.{OpenDay}
use Rattle.command_parser.specs.CommandRecords.{HasRead, StateAll, HasRecordFault, IsOpen}
use Rattle.command_parser.specs.DayFile.{StateCommands, IsDayFile, HasFault, day_fault}
use Rattle.command_parser.specs.Spelled.{StatesCommand}
use Rattle.command_parser.proofs.DayLemmas.{TellsFault, IsOpened-first}

-- one record more that states a command
StateCommands-more : (records : List (List (List ℕ))) (commands : List StatedValue) (fields : List (List ℕ)) (s : StatedValue) → StateCommands records commands
    → StatesCommand fields s → StateCommands (records ++ fields ∷ []) (commands ++ s ∷ [])
StateCommands-more records commands fields s states more = record {
  valid = All-append IsStated commands (s ∷ []) states.valid (All-cons IsStated s [] more.valid (All-nil IsStated));
  fields = ap (λ l. l ++ fields ∷ []) states.fields ∙ ap (λ f. map stated_fields commands ++ f ∷ []) more.fields_are ∙ sym (map-append stated_fields commands (s ∷ []));
}

-- none was read yet
pub HasRead-none : (first most : ℕ) (all : List (List (List ℕ))) (records : CommandRecords) → HasLeft records.rows all → records.next_no ≡ first → records.left ≡ most
    → HasRead first most all [] records
HasRead-none first most all records left number room = record {
  read = [];
  rest = all;
  parts = refl;
  states = record { valid = All-nil IsStated; fields = refl };
  left = left;
  number = omega (arith, number);
  room = omega (arith, room);
}

-- the next one was read
pub HasRead-more : (first most : ℕ) (all : List (List (List ℕ))) (commands : List StatedValue) (a b : CommandRecords) (has : HasRead first most all commands a)
    (fields : List (List ℕ)) (rest : List (List (List ℕ))) (s : StatedValue) → has.rest ≡ fields ∷ rest → HasLeft b.rows rest → StatesCommand fields s
    → b.next_no ≡ a.next_no + 1 → b.left + 1 ≡ a.left → HasRead first most all (commands ++ s ∷ []) b
HasRead-more first most all commands a b has fields rest s parts left states next one = record {
  read = has.read ++ fields ∷ [];
  rest = rest;
  parts = has.parts ∙ ap (λ list. has.read ++ list) parts ∙ sym (append_assoc has.read (fields ∷ []) rest);
  states = StateCommands-more has.read commands fields s has.states states;
  left = left;
  number = omega (arith, next, has.number, length-append has.read (fields ∷ []));
  room = omega (arith, one, has.room, length-append has.read (fields ∷ []));
}

-- ---- the records that are only counted

-- so many of the records that were left were passed over
pub record HasPassed (all : List (List (List ℕ))) (rows : Rows) (passed : ℕ) : Type 0 where
  pub rest : List (List (List ℕ))
  pub left : HasLeft rows rest
  pub count : length all ≡ passed + length rest

-- where those that may be there were passed over, one more is one too many
pub HasPassed-all : (all : List (List (List ℕ))) (rows rows' : Rows) (passed most : ℕ) (fields : List (List ℕ)) (more : Bool) (has : HasPassed all rows passed) → passed ≡ most
    → MatchBool more (TookFirst has.rest fields rows') (has.rest ≡ []) → (IsTrue more ↔ most < length all)
HasPassed-all all rows rows' passed most fields true has whole took = (λ e. omega (arith, has.count, whole, ap length took.parts), λ less. refl)
HasPassed-all all rows rows' passed most fields false has whole none = (λ e. absurd (false≢true e), λ less. absurd (omega (arith, has.count, whole, ap length none, less)))

-- ---- the records behind an opening

pub IsOpen-day : (bytes : List ℕ) (day : OpenDay) (rest : List (List (List ℕ))) (commands : List StatedValue) → IsOpen bytes day rest → StateAll COMMAND_LIMIT rest commands
    → IsDayFile bytes day.opening commands
IsOpen-day bytes day rest commands is all = record {
  rest = rest;
  opened = IsOpened-first bytes is.first rest day.opening is.parts (omega (arith, all.few)) is.opening;
  states = all.states;
}

pub IsOpen-fault : (bytes : List ℕ) (day : OpenDay) (rest : List (List (List ℕ))) (fault : MoreFault) → IsOpen bytes day rest → HasRecordFault 2 COMMAND_LIMIT rest fault
    → HasFault bytes (day_fault fault)
IsOpen-fault bytes day rest more.TooMany is many = omega (arith, ap length is.parts, many)
IsOpen-fault bytes day rest (more.Unreadable record_no field) is has = record {
  opening = day.opening;
  rest = rest;
  opened = IsOpened-first bytes is.first rest day.opening is.parts (omega (arith, has.few)) is.opening;
  wrong = has.wrong;
}
IsOpen-fault bytes day rest more.NoMemory is has = absurd has

-- a fault of the records that is told as one of the day file
pub fault-passed : {X : Type 0} (result : Result X DayFault) (bytes : List ℕ) (fault : MoreFault) → IsErrAnd result (λ told. told ≡ day_fault fault)
    → (fault ≢ more.NoMemory → HasFault bytes (day_fault fault)) → TellsFault result bytes
fault-passed (Ok x) bytes fault told has = tt
fault-passed (Err e) bytes fault told has = λ some. subst (HasFault bytes) (sym told) (has (λ none. some (told ∙ ap day_fault none)))
