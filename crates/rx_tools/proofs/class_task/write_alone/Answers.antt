use Rattle.std.proofs.Common.{refl}
use Rattle.rx_tasks.proofs.Texts.{goes_past}
use Rattle.rx_tools.proofs.class_task.write_alone.Goals as goal

pub returns-clause-text : goal.returns-clause-text
returns-clause-text g c = goes_past _ refl refl c.in_ok-write_flat_contents.ensures.whole
