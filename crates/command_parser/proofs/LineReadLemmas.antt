-- What is told of a caller's line.
use Rattle.std.proofs.Common.{◌≡◌, ◌∙◌, ℕ, List, [], ◌∷◌, length, get_or, refl, sym, ap, inl, inr}
use Rattle.std.specs.Prelude.{IfOk, IfErr, Result, Ok, Err, ◌≢◌, ◌⊎◌}
use Rattle.desk_model.specs.declared.stated.Stated.{Stated}
use Rattle.desk_model.specs.statements.Statement.{StatedValue}
use Rattle.record_rows.specs.Rows.{records_of}
use Rattle.command_parser.specs.declared.read_fail.ReadFail.{ReadFail}
use Rattle.command_parser.specs.declared.read_fail.ReadFail.TheVariants as fail
use Rattle.command_parser.specs.CommandLine.{IsCommandLine, IsMalformed, HasFail}
use Rattle.command_parser.proofs.ApartLemmas.{StatesCommand-one}
use Rattle.command_parser.proofs.FormLemmas.{wrong-one}

one_record : (line : List ℕ) (a b : List (List ℕ)) → records_of line ≡ a ∷ [] → records_of line ≡ b ∷ [] → a ≡ b
one_record line a b ha hb = ap (λ l. get_or l 0 []) (sym ha ∙ hb)

-- a line is malformed at one place
malformed-one : (line : List ℕ) (f g : ℕ) → IsMalformed line f → IsMalformed line g → f ≡ g
malformed-one line f g (inl a) (inl b) = a.1 ∙ sym b.1
malformed-one line f g (inl a) (inr b) = absurd (a.0 (ap length b.one))
malformed-one line f g (inr a) (inl b) = absurd (b.0 (ap length a.one))
malformed-one line f g (inr a) (inr b) = wrong-one b.fields f g (rw (one_record line _ _ a.one b.one) at a.field_is) b.field_is

-- and states no command
malformed-none : (line : List ℕ) (f : ℕ) (s : StatedValue) → IsMalformed line f → ¬ IsCommandLine line s
malformed-none line f s (inl a) is = a.0 (ap length is.one)
malformed-none line f s (inr a) is = a.wrong s (rw (one_record line _ _ is.one a.one) at is.states)

-- ---- what a reader tells, where the command is the line's and where the cause of each failure holds

abbrev pub TellsFail : Result Stated ReadFail → List ℕ → Type 0
TellsFail result line = IfErr result (λ told. told ≢ fail.NoMemory → HasFail line told)

-- a command is read, unless memory is wanting
pub command-reads : (result : Result Stated ReadFail) (line : List ℕ) (s : StatedValue) → IfOk result (IsCommandLine line) → TellsFail result line
    → IsCommandLine line s → (result ≡ Ok s) ⊎ (result ≡ Err fail.NoMemory)
command-reads (Ok t) line s some tells is = inl (ap Ok (StatesCommand-one is.fields t s (rw (one_record line _ _ some.one is.one) at some.states) is.states))
command-reads (Err (fail.Malformed f)) line s some tells is = absurd (malformed-none line f s (tells (λ e. let e = e in cc)) is)
command-reads (Err fail.NoMemory) line s some tells is = inr refl

-- and a failure is told
pub fail-told : (result : Result Stated ReadFail) (line : List ℕ) (cause : ReadFail) → IfOk result (IsCommandLine line) → TellsFail result line
    → HasFail line cause → (result ≡ Err cause) ⊎ (result ≡ Err fail.NoMemory)
fail-told (Ok t) line (fail.Malformed f) some tells has = absurd (malformed-none line f t has some)
fail-told (Err (fail.Malformed g)) line (fail.Malformed f) some tells has = inl (ap (λ n. Err (fail.Malformed n)) (malformed-one line g f (tells (λ e. let e = e in cc)) has))
fail-told (Err fail.NoMemory) line (fail.Malformed f) some tells has = inr refl
fail-told result line fail.NoMemory some tells has = absurd has
