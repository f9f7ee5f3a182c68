use Rattle.rx_tools.proofs.character.+write_hex.Given as goal

abbrev pub decreases-write_hex : goal.decreases-write_hex
decreases-write_hex g l = l.places
