use Rattle.rx_paint.proofs.Patterns.{pattern_runs}
use Rattle.rx_paint.proofs.laws.tokens_are_longest_runs.Goals as goal

pub returns : goal.returns
returns c p nested = pattern_runs p nested
