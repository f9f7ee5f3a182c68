use Rattle.rx_paint_reply.proofs.Shown.{reply_outside}
use Rattle.rx_paint_reply.proofs.laws.text_stands_between_escapes.Goals as goal

pub returns : goal.returns
returns c text ts tile = reply_outside text ts tile
