use Rattle.rx_paint.proofs.Patterns.{pattern_tile}
use Rattle.rx_paint.proofs.laws.tokens_tile.Goals as goal

pub returns : goal.returns
returns c p nested = pattern_tile p nested
