use Rattle.std.proofs.Common.{◌≡◌, ◌++◌, drop}
use Rattle.rx_paint_reply.specs.Colors.{text_in_color}
use Rattle.rx_paint_reply.proofs.color.add_text_in_color.Given as goal

abbrev pub invariant-loop-token : goal.invariant-loop-token
invariant-loop-token l = l.bytes ++ text_in_color l.text (drop l.token-index l.tokens) ≡ l.fn.bytes ++ text_in_color l.text l.tokens
