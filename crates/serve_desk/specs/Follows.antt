-- What follows each answer of a line.
use Rattle.std.specs.Prelude.{◌≡◌, ◌≢◌, ℕ, ◌<◌, Bool, true, false, List, [], ◌∷◌, None, Some}
use Rattle.std.specs.declared.option.Option.{Option}
use Rattle.desk_model.specs.statements.Entry.{EntryValue}
use Rattle.desk_model.specs.texts.Journal.{entry_line}
use Rattle.desk_model.specs.statements.Statement.{StatedValue}
use Rattle.command_parser.specs.CommandLine.{IsCommandLine, IsMalformed}
use Rattle.caller_lines.specs.Given.{Given, GaveLine, GaveTooLong, GaveEnd, GaveFailed}
use Rattle.serve_desk.specs.declared.limits.TheConstants.{LINES_PER_CALLER}
use Rattle.serve_desk.specs.declared.why.Why.{Why}
use Rattle.serve_desk.specs.declared.why.Why.TheVariants as why
use Rattle.serve_desk.specs.Texts.{too_many, too_long, no_memory, malformed, spent}

-- it gave a line of its caller, be it too long or not
abbrev pub is_line : Given → Bool
is_line (GaveLine bytes) = true
is_line GaveTooLong = true
is_line GaveEnd = false
is_line GaveFailed = false

-- a text is put, behind which the session ends or goes on as told; or it isn't taken, which is a fault and ends the session; or the
-- session would end behind it, and what was put and waits to be written isn't written, which is a fault too
pub data Puts (text : List ℕ) (then : Option Why) : List (List ℕ) → Option Why → Type 0 where
  it_is_put : Puts text then (text ∷ []) then
  it_is_not_put : Puts text then [] (Some why.LineFault)
  it_is_not_written : then ≢ None → Puts text then (text ∷ []) (Some why.LineFault)

-- what follows an answer of a line that gave so many lines before it, at a seat with so many calls left: the entries that come
-- of it, the texts that are put, and why the session ends, where it does
pub data Follows (heard left : ℕ) : Given → List EntryValue → List (List ℕ) → Option Why → Type 0 where
  the_end : Follows heard left GaveEnd [] [] (Some why.End)
  a_fault : Follows heard left GaveFailed [] [] (Some why.LineFault)
  one_line_too_many : (gave : Given) (texts : List (List ℕ)) (ends : Option Why) → is_line gave ≡ true → heard ≡ LINES_PER_CALLER
      → Puts too_many (Some why.TooManyLines) texts ends → Follows heard left gave [] texts ends
  a_line_too_long : (texts : List (List ℕ)) (ends : Option Why) → heard < LINES_PER_CALLER
      → Puts too_long None texts ends → Follows heard left GaveTooLong [] texts ends
  no_memory_for_a_line : (bytes : List ℕ) (texts : List (List ℕ)) (ends : Option Why) → heard < LINES_PER_CALLER
      → Puts no_memory None texts ends → Follows heard left (GaveLine bytes) [] texts ends
  no_command : (bytes : List ℕ) (field : ℕ) (texts : List (List ℕ)) (ends : Option Why) → heard < LINES_PER_CALLER → IsMalformed bytes field
      → Puts (malformed field) None texts ends → Follows heard left (GaveLine bytes) [] texts ends
  no_call_left : (bytes : List ℕ) (s : StatedValue) (texts : List (List ℕ)) (ends : Option Why) → heard < LINES_PER_CALLER → IsCommandLine bytes s → left ≡ 0
      → Puts spent (Some why.Spent) texts ends → Follows heard left (GaveLine bytes) [] texts ends
  a_call : (bytes : List ℕ) (e : EntryValue) (texts : List (List ℕ)) (ends : Option Why) → heard < LINES_PER_CALLER → IsCommandLine bytes e.stated → 0 < left
      → Puts (entry_line e) None texts ends → Follows heard left (GaveLine bytes) (e ∷ []) texts ends
