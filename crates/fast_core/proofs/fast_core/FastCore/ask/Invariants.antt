use Rattle.fast_core.proofs.fast_core.FastCore.ask.Given as goal

abbrev pub ghosts-ask_in : goal.ghosts-ask_in
ghosts-ask_in a = record { name = a.blank.name; parts = a.blank.parts }
