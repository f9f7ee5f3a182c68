use Rattle.rx_base.proofs.Writing.{left_then, left_stop, left_none}
use Rattle.rx_tools.proofs.Pieces.{pieces_none, pieces_next, failed_from}
use Rattle.rx_tools.proofs.write.write_pieces.Goals as goal

pub returns-in_err-write_str : goal.returns-in_err-write_str
returns-in_err-write_str g c =
    left_stop _ c.loop-piece.invariant (pieces_next c.args.pieces.now c.loop-piece.piece-index _ c.loop-piece-test.true) c.in_err-write_str.ensures (failed_from _ _ c.from_residual.ensures.1)

pub loop-piece-preserved : goal.loop-piece-preserved
loop-piece-preserved g c = left_then _ c.loop-piece.invariant (pieces_next c.args.pieces.now c.loop-piece.piece-index _ c.loop-piece-test.true) c.in_ok-write_str.ensures

pub returns : goal.returns
returns g c = left_none _ c.loop-piece.invariant (pieces_none c.args.pieces.now c.loop-piece.piece-index c.loop-piece-test.false)
