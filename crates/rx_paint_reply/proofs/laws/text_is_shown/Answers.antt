use Rattle.rx_paint_reply.proofs.Shown.{shown_as_it_is}
use Rattle.rx_paint_reply.proofs.laws.text_is_shown.Goals as goal

pub returns : goal.returns
returns c text none = shown_as_it_is text none
