use Rattle.rx_paint_reply.proofs.Nesting.{read_nested}
use Rattle.rx_paint_reply.proofs.laws.read_is_nested.Goals as goal

pub returns : goal.returns
returns c input mode p bytes utf8 is read = read_nested input mode p bytes utf8 is read
