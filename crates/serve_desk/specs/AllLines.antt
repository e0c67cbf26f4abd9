-- What serving all lines at one desk makes of them.
use Rattle.std.specs.Prelude.{◌≡◌, ◌≢◌, ℕ, ◌+◌, ◌<◌, ◌≤◌, List, ◌++◌, length, slice_index_or}
use Rattle.std.specs.List.{All}
use Rattle.desk_io.specs.Faults.{Rose}
use Rattle.desk_model.specs.statements.Entry.{EntryValue}
use Rattle.turn_gate.specs.Told.{own, IsNumber}
use Rattle.caller_lines.specs.LineCalls.{LineCall}
use Rattle.serve_desk.specs.declared.why.Why.{Why}
use Rattle.serve_desk.specs.declared.why.Why.TheVariants.{LineFault}
use Rattle.serve_desk.specs.Told.{with_all, LineValue}
use Rattle.serve_desk.specs.Session.{Session}

-- a line after its session, of which these entries came, at a seat with so many calls. It ended with a fault only where the line's
-- faults rose, which never fall
pub record IsServed (left : ℕ) (entries : List EntryValue) (line later : LineValue) : Type 0 where
  pub calls : List LineCall
  pub why : Why
  pub session : Session left calls entries why
  pub told : later.calls ≡ with_all line.calls calls
  pub fault : why ≡ LineFault → Rose line.faults later.faults
  pub no_fault : why ≢ LineFault → later.faults ≡ line.faults
  pub faults : line.faults ≤ later.faults

-- what became of one line: by its number, from 1, and the entries that came of it
abbrev pub OneLine : Type 1
OneLine = ℕ → List EntryValue → LineValue → LineValue → Type 0

-- the entries of a desk before and after its lines were served, line i as caller i, from 1: the caller of each later entry is the
-- number of a line, and of each line's number the later entries are those that came of what it gave
pub record AreAllServed (One : OneLine) (before after : List EntryValue) (lines later : List LineValue) : Type 0 where
  pub more : List EntryValue
  pub begins : after ≡ before ++ more
  pub callers : All (λ e. IsNumber (length lines) e.caller) more
  pub count : length later ≡ length lines
  pub each : (i : ℕ) (line : LineValue) → i < length lines → One (i + 1) (own more (i + 1)) (slice_index_or lines i line) (slice_index_or later i line)

-- each by a session without looks
abbrev pub AreServed : ℕ → List EntryValue → List EntryValue → List LineValue → List LineValue → Type 0
AreServed left before after lines later = AreAllServed (λ number. IsServed left) before after lines later
