use Rattle.rx_paint_reply.proofs.Nesting.{read_span}
use Rattle.rx_paint_reply.proofs.laws.literal_is_spanned.Goals as goal

pub returns : goal.returns
returns c input mode p bytes utf8 is literal start read = read_span input mode p bytes utf8 is literal start read
