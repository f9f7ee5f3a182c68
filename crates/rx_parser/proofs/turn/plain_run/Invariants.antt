use Rattle.std.proofs.Common.{◌≡◌, ◌+◌, ◌-◌, drop, length, take}
use Rattle.rx_parser.proofs.Common.{offset_at, IsParsing, HasStepped, rest}
use Rattle.rx_parser.proofs.turn.plain_run.Given as goal

abbrev pub invariant-loop-value : goal.invariant-loop-value
invariant-loop-value g l = record {
  left : l.left ≡ drop (l.count - length l.left) (take l.count (rest l.fn.reader));
  parsing : IsParsing l.fn.builder.mode l.fn.builder.rules l.fn.reader.units l.fn.reader.first l.spans l.builder (l.fn.reader.place + (l.count - length l.left));
  start : l.start ≡ offset_at l.fn.reader.first l.fn.reader.units (l.fn.reader.place + (l.count - length l.left)) + l.spans;
  steps : HasStepped (g.C.Counter.count l.fn.steps) (g.C.Counter.count l.steps) (l.count - length l.left);
}

abbrev pub decreases-loop-value : goal.decreases-loop-value
decreases-loop-value g l = length l.left
