use Rattle.rx_base.proofs.Writing.{written_none}
use Rattle.rx_tools.proofs.Pieces.{utf8-nil}
use Rattle.rx_tools.proofs.printing.write_suffix.Goals as goal

pub returns-in-None : goal.returns-in-None
returns-in-None g c = rw (c.in-None.is, utf8-nil) (written_none g.W.TextSink.taken g.W.TextSink.fixed g.W.TextSink.faults _ _)
