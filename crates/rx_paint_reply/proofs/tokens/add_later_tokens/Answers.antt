use Rattle.rx_paint_reply.proofs.Written.{tokens_more}
use Rattle.rx_paint_reply.proofs.tokens.add_later_tokens.Goals as goal

pub loop-token-preserved : goal.loop-token-preserved
loop-token-preserved c =
    tokens_more c.args.tokens.now c.loop-token.token-index _ _ c.loop-token.bytes c.extend_from_slice.new.self c.add_token.new.bytes
    c.loop-token-test.true c.loop-token.invariant c.in_ok-extend_from_slice.ensures.ok c.in_ok-add_token.ensures
