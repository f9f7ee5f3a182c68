use Rattle.rx_model.proofs.Classes.ClassOperands.{none_at_items_end}
use Rattle.rx_model.proofs.class_sequence.UnionItemsElementKind.none_at_stop.Goals as goal

pub returns : goal.returns
returns c = none_at_items_end
