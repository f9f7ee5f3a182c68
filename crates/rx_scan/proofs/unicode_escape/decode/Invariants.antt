use Rattle.rx_scan.proofs.unicode_escape.decode.Given as goal

abbrev pub ghosts-decode_alone : goal.ghosts-decode_alone
ghosts-decode_alone a = record { name = a.blank.name; parts = a.blank.parts }
