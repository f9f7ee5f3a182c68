use Rattle.rx_base.proofs.Writing.{written_none}
use Rattle.rx_tools.proofs.Pieces.{utf8-nil}
use Rattle.rx_tools.proofs.printing.write_closer.Goals as goal

pub returns-else-closes : goal.returns-else-closes
returns-else-closes g c = rw (c.if-closes.false, utf8-nil) (written_none g.W.TextSink.taken g.W.TextSink.fixed g.W.TextSink.faults _ _)
