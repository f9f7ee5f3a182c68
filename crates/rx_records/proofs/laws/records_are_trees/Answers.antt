use Rattle.rx_records.proofs.SameRecords.{same_trees}
use Rattle.rx_records.proofs.laws.records_are_trees.Goals as goal

pub returns : goal.returns
returns c = same_trees
