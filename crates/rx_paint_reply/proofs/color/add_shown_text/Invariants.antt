use Rattle.std.proofs.Common.{◌≡◌, ◌++◌, drop}
use Rattle.rx_paint_reply.specs.Colors.{shown_text}
use Rattle.rx_paint_reply.proofs.color.add_shown_text.Given as goal

abbrev pub invariant-loop-byte : goal.invariant-loop-byte
invariant-loop-byte l = l.bytes ++ shown_text (drop l.byte-index l.text) ≡ l.fn.bytes ++ shown_text l.text
