use Rattle.rx_tools.proofs.Pieces.{utf8-ascii}
use Rattle.rx_tools.proofs.write.write_ascii.Goals as goal

pub returns : goal.returns
returns g c = rw (utf8-ascii c.args.bytes.now c.requires) c.write_ascii.ensures
