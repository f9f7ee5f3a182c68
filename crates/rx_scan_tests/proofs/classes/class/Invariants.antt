use Rattle.rx_scan_tests.proofs.classes.class.Given as goal

abbrev pub ghosts-counted_class : goal.ghosts-counted_class
ghosts-counted_class a = record { name = a.blank.name; parts = a.blank.parts }
