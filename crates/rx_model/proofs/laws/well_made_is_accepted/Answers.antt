use Rattle.rx_model.proofs.Trees.Runs.{pattern_runs}
use Rattle.rx_model.proofs.laws.well_made_is_accepted.Goals as goal

pub returns : goal.returns
returns c = pattern_runs
