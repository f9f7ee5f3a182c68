use Rattle.rx_model.proofs.Classes.ClassPieces.{piece_some}
use Rattle.rx_model.proofs.class_sequence.ClassPiecesElementKind.some_units.Goals as goal

pub returns : goal.returns
returns c = piece_some
