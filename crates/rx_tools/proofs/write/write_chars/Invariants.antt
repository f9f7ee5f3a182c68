use Rattle.std.proofs.Common.{drop}
use Rattle.rx_tools.specs.Utf8.{utf8}
use Rattle.rx_base.proofs.Writing.{Left}
use Rattle.rx_tools.proofs.write.write_chars.Given as goal

abbrev pub invariant-loop-c : goal.invariant-loop-c
invariant-loop-c g l = Left g.W.TextSink.taken g.W.TextSink.fixed g.W.TextSink.faults l.fn.sink l.sink (utf8 l.characters) (utf8 (drop l.c-index l.characters))
