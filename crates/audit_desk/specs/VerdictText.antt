-- The lines that tell a verdict.
use Rattle.std.specs.Prelude.{ℕ, List, [], ◌++◌, codes}
use Rattle.line_writer.specs.Line.{outcome_line}
use Rattle.line_writer.specs.Tally.{count_line}
use Rattle.audit_desk.specs.declared.outcome.Outcome.{Outcome}
use Rattle.audit_desk.specs.declared.verdict.Verdict.{Verdict}
use Rattle.audit_desk.specs.declared.verdict.Verdict.TheVariants as verdict

-- a word, and the line of an outcome
abbrev pub told_outcome : List ℕ → Outcome → List ℕ
told_outcome word o = word ++ outcome_line o.moment o.reply

-- how many entries a legal journal has; which line is wrong, with what is written there and what is right; which is unreadable.
-- Nothing is told where there is no opening, nor where memory was wanting.
abbrev pub verdict_text : Verdict → List ℕ
verdict_text (verdict.Legal count) = count_line (codes "legal") count
verdict_text (verdict.Wrong line written right) = count_line (codes "wrong") line ++ told_outcome (codes "written ") written ++ told_outcome (codes "right ") right
verdict_text (verdict.Unreadable line) = count_line (codes "unreadable") line
verdict_text verdict.NoOpening = []
verdict_text verdict.NoMemory = []
