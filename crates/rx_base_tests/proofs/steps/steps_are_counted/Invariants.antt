use Rattle.rx_base_tests.proofs.steps.steps_are_counted.Given as goal

abbrev pub ghosts-counted : goal.ghosts-counted
ghosts-counted g a = record { name = a.blank.name; parts = a.blank.parts }
