use Rattle.rx_model.proofs.Classes.ClassPieces.{none_at_end}
use Rattle.rx_model.proofs.class_sequence.ClassPiecesElementKind.none_at_stop.Goals as goal

pub returns : goal.returns
returns c = none_at_end
