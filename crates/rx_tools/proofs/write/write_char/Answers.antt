use Rattle.rx_tools.proofs.Pieces.{one_character}
use Rattle.rx_tools.proofs.write.write_char.Goals as goal

pub returns : goal.returns
returns g c = one_character c.args.c c.write_char.ensures
