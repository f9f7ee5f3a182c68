use Rattle.rx_c.specs.Told.{no_memory}
use Rattle.rx_c.proofs.Asked.{told_as_asked}
use Rattle.rx_c.proofs.exports.tb_read.Goals as goal

pub returns-in-Ok-clause-told : goal.returns-in-Ok-clause-told
returns-in-Ok-clause-told c = λ _. told_as_asked _ _ _ _ _ _ c.in-Some.ensures c.in-Ok.ensures.told

pub returns-in-Err-clause-told : goal.returns-in-Err-clause-told
returns-in-Err-clause-told c = λ _. told_as_asked _ _ _ _ _ _ c.in-Some.ensures (no_memory c.empty-in-Err.ensures)
