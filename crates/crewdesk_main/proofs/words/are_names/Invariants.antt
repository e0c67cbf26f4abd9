use Rattle.std.proofs.Common.{◌≡◌, drop}
use Rattle.crewdesk_main.specs.Words.{are_names}
use Rattle.crewdesk_main.proofs.words.are_names.Given as goal

-- the words are names where those that are left are
abbrev pub invariant-loop-at : goal.invariant-loop-at
invariant-loop-at l = are_names l.words ≡ are_names (drop l.at l.words)
