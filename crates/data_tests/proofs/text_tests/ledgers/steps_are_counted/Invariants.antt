use Rattle.data_tests.proofs.text_tests.ledgers.steps_are_counted.Given as goal

abbrev pub ghosts-counted : goal.ghosts-counted
ghosts-counted a = record { name = a.blank.name; parts = a.blank.parts }
