use Rattle.std.proofs.Common.{◌≡◌, ◌++◌, drop}
use Rattle.rx_paint_reply.specs.Tokens.{later_tokens_text}
use Rattle.rx_paint_reply.proofs.tokens.add_later_tokens.Given as goal

abbrev pub invariant-loop-token : goal.invariant-loop-token
invariant-loop-token l = l.bytes ++ later_tokens_text (drop l.token-index l.tokens) ≡ l.fn.bytes ++ later_tokens_text l.tokens
