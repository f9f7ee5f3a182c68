use Rattle.rx_match.proofs.Steps.{keeps_repeat}
use Rattle.rx_match.proofs.machine.Machine.act_after_tick.Goals as goal

pub returns-in-Repeat : goal.returns-in-Repeat
returns-in-Repeat c = keeps_repeat c.args.self.now c.in-Repeat.turns _ _ c.args.step.now c.requires.sound c.requires.at c.in-Repeat.is
