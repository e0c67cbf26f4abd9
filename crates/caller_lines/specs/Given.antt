use Rattle.std.specs.Prelude.{ℕ, List}
use Rattle.caller_lines.specs.declared.heard.Heard.{Heard}
use Rattle.caller_lines.specs.declared.heard.Heard.TheVariants as heard

-- what a line gave when it was asked for the next of it; a line of the caller with its bytes
pub data Given : Type 0 where
  GaveLine : (bytes : List ℕ) → Given
  GaveTooLong : Given
  GaveEnd : Given
  GaveFailed : Given

-- what an answer gave, with what is in the buffer then
abbrev pub answer_of : Heard → List ℕ → Given
answer_of heard.Line bytes = GaveLine bytes
answer_of heard.TooLong bytes = GaveTooLong
answer_of heard.End bytes = GaveEnd
answer_of heard.Failed bytes = GaveFailed
