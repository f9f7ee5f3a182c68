use Rattle.rx_paint.proofs.LongestRuns.{one_list}
use Rattle.rx_paint.proofs.laws.one_list_of_runs.Goals as goal

pub returns : goal.returns
returns c owns low high xs ys a b = one_list owns xs ys low high a b
