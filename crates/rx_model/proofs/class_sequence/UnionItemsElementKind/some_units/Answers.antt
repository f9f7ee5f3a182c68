use Rattle.rx_model.proofs.Classes.ClassOperands.{item_some}
use Rattle.rx_model.proofs.class_sequence.UnionItemsElementKind.some_units.Goals as goal

pub returns : goal.returns
returns c = item_some
