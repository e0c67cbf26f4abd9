use Rattle.crewdesk_main.proofs.PartLemmas.{Passed}
use Rattle.crewdesk_main.proofs.cut_at_plus.cut_at_plus.Given as goal

-- no line so far is just a plus
abbrev pub invariant-loop-at : goal.invariant-loop-at
invariant-loop-at l = Passed l.text l.at l.begins
