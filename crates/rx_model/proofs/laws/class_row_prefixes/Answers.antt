use Rattle.rx_model.proofs.Reading.Prefixes.{class_prefixes}
use Rattle.rx_model.proofs.laws.class_row_prefixes.Goals as goal

pub returns : goal.returns
returns c = class_prefixes
