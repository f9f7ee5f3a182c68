use Rattle.rx_scan_tests.proofs.escapes.character.Given as goal

abbrev pub ghosts-counted_character : goal.ghosts-counted_character
ghosts-counted_character a = record { name = a.blank.name; parts = a.blank.parts }
