use Rattle.std.proofs.Common.{drop}
use Rattle.std.specs.List.{flat_map}
use Rattle.std.specs.Str.{chars}
use Rattle.rx_tools.specs.Utf8.{utf8}
use Rattle.rx_base.proofs.Writing.{Left}
use Rattle.rx_tools.proofs.write.write_pieces.Given as goal

abbrev pub invariant-loop-piece : goal.invariant-loop-piece
invariant-loop-piece g l =
    Left g.W.TextSink.taken g.W.TextSink.fixed g.W.TextSink.faults l.fn.sink l.sink (utf8 (flat_map (λ p. chars p.now) l.pieces)) (utf8 (flat_map (λ p. chars p.now) (drop l.piece-index l.pieces)))
