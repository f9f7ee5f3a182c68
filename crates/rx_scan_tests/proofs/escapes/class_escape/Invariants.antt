use Rattle.rx_scan_tests.proofs.escapes.class_escape.Given as goal

abbrev pub ghosts-counted_class_escape : goal.ghosts-counted_class_escape
ghosts-counted_class_escape a = record { name = a.blank.name; parts = a.blank.parts }
