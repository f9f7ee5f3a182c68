use Rattle.rx_base.proofs.Writing.{written_none}
use Rattle.rx_tools.proofs.Pieces.{utf8-nil}
use Rattle.rx_tools.proofs.quantifier.write_lazy.Goals as goal

pub returns-then-greedy : goal.returns-then-greedy
returns-then-greedy g c = rw (c.if-greedy.true, utf8-nil) (written_none _ _ _ _ _)
