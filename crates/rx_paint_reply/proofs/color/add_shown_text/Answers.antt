use Rattle.rx_paint_reply.specs.Colors.{shown_byte}
use Rattle.rx_paint_reply.proofs.Lists.{written_more}
use Rattle.rx_paint_reply.proofs.color.add_shown_text.Goals as goal

pub loop-byte-preserved : goal.loop-byte-preserved
loop-byte-preserved c =
    written_more shown_byte c.args.text.now c.loop-byte.byte-index _ _ c.loop-byte.bytes c.add_shown_byte.new.bytes
    c.loop-byte-test.true c.loop-byte.invariant c.in_ok-add_shown_byte.ensures
