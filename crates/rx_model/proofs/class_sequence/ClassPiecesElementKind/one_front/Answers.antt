use Rattle.rx_model.proofs.Classes.ClassPieces.{one_piece}
use Rattle.rx_model.proofs.class_sequence.ClassPiecesElementKind.one_front.Goals as goal

pub returns : goal.returns
returns c = one_piece
