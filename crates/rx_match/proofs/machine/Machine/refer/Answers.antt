use Rattle.rx_match.proofs.Steps.{slot_within}
use Rattle.rx_match.proofs.machine.Machine.refer.Goals as goal

pub move_to-requires-clause-within : goal.move_to-requires-clause-within
move_to-requires-clause-within c = slot_within c.args.self.now.input.now c.args.self.now.back c.args.slot c.args.self.now.place c.slot_to-to.result c.requires.place c.slot_to-to.ensures
