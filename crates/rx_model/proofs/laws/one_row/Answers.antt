use Rattle.rx_model.proofs.Reading.OneRow.{row_prefix}
use Rattle.rx_model.proofs.laws.one_row.Goals as goal

pub returns : goal.returns
returns c = row_prefix
