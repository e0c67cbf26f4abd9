use Rattle.std.proofs.Common.{◌≡◌, length}
use Rattle.crewdesk_main.proofs.keep_form.serve_names.Given as goal

-- a line for each name so far
abbrev pub invariant-loop-name : goal.invariant-loop-name
invariant-loop-name g l = length l.lines.items ≡ l.name-index
