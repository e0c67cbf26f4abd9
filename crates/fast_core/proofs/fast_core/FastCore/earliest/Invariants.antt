use Rattle.fast_core.proofs.fast_core.FastCore.earliest.Given as goal

abbrev pub ghosts-earliest_in : goal.ghosts-earliest_in
ghosts-earliest_in a = record { name = a.blank.name; parts = a.blank.parts }
