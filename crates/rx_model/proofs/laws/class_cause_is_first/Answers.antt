use Rattle.rx_model.proofs.Classes.OneInClass.{class_cause_is_first}
use Rattle.rx_model.proofs.laws.class_cause_is_first.Goals as goal

pub returns : goal.returns
returns c mode no_sets us start added from at_class = class_cause_is_first mode us start added from at_class no_sets
