use Rattle.rx_model.proofs.Classes.NegativeClasses as in_class
use Rattle.rx_model.proofs.Refusals.FromStart as in_text
use Rattle.rx_model.proofs.Refusals.Refusals.{class_laws}
use Rattle.rx_model.proofs.laws.negative_classes.Goals as goal

pub returns-clause-in_class : goal.returns-clause-in_class
returns-clause-in_class c mode us start added from at_class d = (in_class.first_from_start mode us start added from at_class d, in_class.first_at_closer mode us start added from at_class d)

pub returns-clause-in_text : goal.returns-clause-in_text
returns-clause-in_text c mode rules us start added d =
    let laws = class_laws mode rules us start added in
    (in_text.first_from_start mode rules us start added laws d, in_text.first_at_closer mode rules us start added laws d)

pub returns-clause-only : goal.returns-clause-only
returns-clause-only c mode rules us start added from at_class nested begin place rest p n f d k =
    (in_text.only_at_closer mode rules us start added (class_laws mode rules us start added) from at_class p nested begin place rest n).1 f d k
