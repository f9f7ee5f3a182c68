use Rattle.rx_records.proofs.Named.{all_named}
use Rattle.rx_records.proofs.laws.records_have_names.Goals as goal

pub returns : goal.returns
returns c = all_named
