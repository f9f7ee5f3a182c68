use Rattle.rx_scan.proofs.group_name.spelled_name.Given as goal

abbrev pub ghosts-name_alone : goal.ghosts-name_alone
ghosts-name_alone g a = record { name = a.blank.name; parts = a.blank.parts }
