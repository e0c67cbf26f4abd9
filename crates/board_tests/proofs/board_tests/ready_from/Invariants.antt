use Rattle.board_tests.proofs.board_tests.ready_from.Given as goal

abbrev pub ghosts-ready_of : goal.ghosts-ready_of
ghosts-ready_of a = record { name = a.blank.name; parts = a.blank.parts }
