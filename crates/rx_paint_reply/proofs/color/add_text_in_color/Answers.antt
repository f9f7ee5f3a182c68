use Rattle.rx_paint_reply.specs.Colors.{token_in_color}
use Rattle.rx_paint_reply.proofs.Lists.{written_more}
use Rattle.rx_paint_reply.proofs.color.add_text_in_color.Goals as goal

pub loop-token-preserved : goal.loop-token-preserved
loop-token-preserved c =
    written_more (token_in_color c.args.text.now) c.args.tokens.now c.loop-token.token-index _ _ c.loop-token.bytes c.add_token_in_color.new.bytes
    c.loop-token-test.true c.loop-token.invariant c.in_ok-add_token_in_color.ensures
