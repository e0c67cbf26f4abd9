-- The read of one record of those that are left.
use Rattle.std.proofs.Common.{◌≡◌, ◌∙◌, ◌+◌, ℕ, suc, Bool, true, false, Bor, List, [], ◌∷◌, length, Some, None, inl, refl, sym, ap, arith}
use Rattle.std.specs.Bool.{MatchBool}
use Rattle.csv.specs.Machine.{Read, next_record}
use Rattle.csv.specs.Reading.{is_flexible, Reached, ReadRecord, default_config, records_from, records_next, took_first, reader_state}
use Rattle.csv.specs.declared.parser.State.{State}
use Rattle.csv.proofs.ReadFacts.{rows-more, rows-end}
use Rattle.csv.specs.declared.reader.Reader.{Reader}
use Rattle.record_rows.specs.Rows.{ReaderHas, ReaderTook, IsBetween}
use Rattle.record_rows.proofs.RecordLemmas.{next_record-leaves, next_record-shorter, records_from-turns}

-- the first of the records that are left, and those behind it
pub records_from-some : (s : State) (bytes : List ℕ) (p : Read) (fields : List (List ℕ)) (after : State) (rest : List ℕ) → IsBetween s
    → next_record default_config s [] [] bytes ≡ Some p → fields ≡ p.0 → p.1 ≡ after → p.2 ≡ rest
    → records_from default_config (length bytes + 1) s bytes ≡ fields ∷ records_from default_config (length rest + 1) after rest
unfolding records_from
records_from-some s bytes p fields after rest between same fields_are state_is rest_is =
    let next : length bytes + 1 ≡ suc (length bytes) = omega arith in
    let turns : records_from default_config (length bytes) p.1 p.2 ≡ records_from default_config (length p.2 + 1) p.1 p.2 =
    records_from-turns (length bytes) (length p.2 + 1) p.1 p.2 ((next_record-leaves s [] [] bytes).state p same)
    (next_record-shorter s bytes p between same) (omega arith) in
    rw (next, fields_are, sym state_is, sym rest_is) (ap (records_next (records_from default_config (length bytes))) same ∙ ap (λ more. p.0 ∷ more) turns)

-- and none where there is none
pub records_from-none : (s : State) (bytes : List ℕ) → next_record default_config s [] [] bytes ≡ None → records_from default_config (length bytes + 1) s bytes ≡ []
unfolding records_from
records_from-none s bytes none =
    let next : length bytes + 1 ≡ suc (length bytes) = omega arith in
    rw (next) (ap (records_next (records_from default_config (length bytes))) none)

-- a read that finds a record took the first of those that are left, and one that finds none had none left
pub read-left : (a b : Reader (Bor (List ℕ))) (found : Bool) (fields : List (List ℕ)) (left : List (List (List ℕ))) → ReaderHas a left
    → ReadRecord (λ (s : Bor (List ℕ)). Some s.now) a b found fields → took_first b ≡ true → is_flexible b ≡ is_flexible a
    → MatchBool found (ReaderTook left fields b) (left ≡ [])
unfolding Reached
read-left a b false fields left has read first flexible =
    sym has.records ∙ records_from-none _ has.bytes (rows-end (λ (s : Bor (List ℕ)). Some s.now) a b fields default_config has.bytes has.config has.source read)
read-left a b true fields left has read first flexible =
    let more = rows-more (λ (s : Bor (List ℕ)). Some s.now) a b fields default_config (reader_state a) has.bytes has.bytes [] has.config has.source (refl, refl) read in
    let (p, next, fields_are, reached) = more.2 in
    let between : IsBetween (reader_state b) = rw (sym reached.0) ((next_record-leaves _ [] [] has.bytes).state p next) in
    record {
      rest = records_from default_config (length more.0 + 1) (reader_state b) more.0;
      parts = sym has.records ∙ records_from-some _ has.bytes p fields _ _ has.between next fields_are reached.0 reached.1;
      behind = record {
        trim = read.3 ∙ has.trim;
        ready = inl first;
        flexible = flexible ∙ has.flexible;
        config = read.2 ∙ has.config;
        bytes = more.0;
        source = more.1;
        between = between;
        records = refl;
      };
    }
