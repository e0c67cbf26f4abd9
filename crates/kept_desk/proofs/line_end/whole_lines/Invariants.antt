use Rattle.std.proofs.Common.{◌≡◌, ◌≤◌, ◌==◌, false, drop, length}
use Rattle.std.specs.List.{All}
use Rattle.kept_desk.proofs.line_end.whole_lines.Given as goal

-- there is no line feed behind
abbrev pub invariant-loop-len : goal.invariant-loop-len
invariant-loop-len l = record {
  within : l.len ≤ length l.text;
  cut : All (λ byte. (byte == 10) ≡ false) (drop l.len l.text);
}

abbrev pub decreases-loop-len : goal.decreases-loop-len
decreases-loop-len l = l.len
