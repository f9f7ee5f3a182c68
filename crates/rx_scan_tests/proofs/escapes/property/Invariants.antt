use Rattle.rx_scan_tests.proofs.escapes.property.Given as goal

abbrev pub ghosts-counted_property : goal.ghosts-counted_property
ghosts-counted_property a = record { name = a.blank.name; parts = a.blank.parts }
