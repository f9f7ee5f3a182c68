use Rattle.rx_paint_reply.proofs.Nesting.{read_no_other}
use Rattle.rx_paint_reply.proofs.laws.read_has_no_other.Goals as goal

pub returns : goal.returns
returns c input mode p bytes utf8 is read = read_no_other input mode p bytes utf8 is read
