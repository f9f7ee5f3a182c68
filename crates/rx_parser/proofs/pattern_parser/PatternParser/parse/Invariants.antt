use Rattle.rx_parser.proofs.pattern_parser.PatternParser.parse.Given as goal

abbrev pub ghosts-parse_alone : goal.ghosts-parse_alone
ghosts-parse_alone g a = record { name = a.blank.name; parts = a.blank.parts }
