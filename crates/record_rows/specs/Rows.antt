-- The records of a text of fields between commas, as `csv` documents them.
use Rattle.std.specs.Prelude.{◌≡◌, ◌⊎◌, ◌+◌, ℕ, true, Option, None, Some, List, ◌∷◌, length}
use Rattle.std.specs.Borrow.{Bor}
use Rattle.csv.specs.Reading.{Ready, is_flexible, default_config, reader_config, reader_state, reader_trim, records, records_from, source_of, strip_bom}
use Rattle.csv.specs.Records.{Row as RecordRead, fields_of}
use Rattle.csv.specs.declared.reader.Reader.{Reader}
use Rattle.csv.specs.declared.parser.State.{State}
use Rattle.csv.specs.declared.parser.State.TheVariants as state
use Rattle.csv.specs.declared.reader.Trim.TheVariants as trim
use Rattle.desk_base.specs.Parts.{parts_by}
use Rattle.record_rows.specs.Plain.{plain_records}
use Rattle.record_rows.specs.declared.row.Row.{Row}
use Rattle.record_rows.specs.declared.rows.Rows.{Rows}
use Rattle.record_rows.specs.declared.rows.Source.{Source}
use Rattle.record_rows.specs.declared.rows.Source.TheVariants as source

-- the records of a text, each the list of its fields, with no header row and of any lengths; a byte order mark at its front is
-- no part of it
unfoldable pub records_of : List ℕ → List (List (List ℕ))
records_of text = records default_config (strip_bom text)

-- where a reader stands between two records
abbrev pub IsBetween : State → Type 0
IsBetween s = (s ≡ state.StartRecord) ⊎ (s ≡ state.AfterCr)

-- a reader has still to read these records, of whatever lengths they are
pub record ReaderHas (rdr : Reader (Bor (List ℕ))) (left : List (List (List ℕ))) : Type 0 where
  pub trim : reader_trim rdr ≡ trim.None
  pub ready : Ready rdr
  pub flexible : is_flexible rdr ≡ true
  pub config : reader_config rdr ≡ default_config
  pub bytes : List ℕ
  pub source : source_of (λ s. Some s.now) rdr ≡ Some bytes
  pub between : IsBetween (reader_state rdr)
  pub records : records_from default_config (length bytes + 1) (reader_state rdr) bytes ≡ left

-- it read the first of these records, and has those behind it still to read
pub record ReaderTook (left : List (List (List ℕ))) (fields : List (List ℕ)) (rdr : Reader (Bor (List ℕ))) : Type 0 where
  pub rest : List (List (List ℕ))
  pub parts : left ≡ fields ∷ rest
  pub behind : ReaderHas rdr rest

-- they are still to be read from there
abbrev pub SourceHas : Source → List (List (List ℕ)) → Type 0
SourceHas (source.Lines text) left = plain_records text.now ≡ left
SourceHas (source.Reader rdr) left = ReaderHas rdr left

-- these records are still to be read
abbrev pub HasLeft : Rows → List (List (List ℕ)) → Type 0
HasLeft rows left = SourceHas rows.source left

-- the first of these records was read, and those behind it are still to be read
pub record TookFirst (left : List (List (List ℕ))) (fields : List (List ℕ)) (rows : Rows) : Type 0 where
  pub rest : List (List (List ℕ))
  pub parts : left ≡ fields ∷ rest
  pub behind : HasLeft rows rest

-- the fields of a record that is a plain line, or was read
abbrev pub fields_in : Option (Bor (List ℕ)) → RecordRead → List (List ℕ)
fields_in None read = fields_of read
fields_in (Some line) read = parts_by 44 line.now

-- the fields of a record
abbrev pub row_fields : Row → List (List ℕ)
row_fields row = fields_in row.line row.read
