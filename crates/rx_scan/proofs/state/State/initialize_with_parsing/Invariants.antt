use Rattle.rx_scan.proofs.state.State.initialize_with_parsing.Given as goal

abbrev pub ghosts-initialize_alone : goal.ghosts-initialize_alone
ghosts-initialize_alone g a = record { name = a.blank.name; parts = a.blank.parts }
