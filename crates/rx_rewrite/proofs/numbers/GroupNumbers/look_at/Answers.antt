use Rattle.rx_rewrite.proofs.GroupNumbers.{numbers_group}
use Rattle.rx_rewrite.proofs.numbers.GroupNumbers.look_at.Goals as goal

pub returns-in-CapturingGroup : goal.returns-in-CapturingGroup
returns-in-CapturingGroup c = numbers_group c.args.self.now c.add.new.self c.args.node c.in-CapturingGroup.group c.add.result c.in-CapturingGroup.is c.add.ensures
