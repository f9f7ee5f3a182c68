use Rattle.rx_model.proofs.Classes.ClassOperands.{one_item}
use Rattle.rx_model.proofs.class_sequence.UnionItemsElementKind.one_front.Goals as goal

pub returns : goal.returns
returns c = one_item
