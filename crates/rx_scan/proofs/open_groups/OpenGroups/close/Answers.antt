use Rattle.rx_scan.specs.OpenGroups.{pair}
use Rattle.rx_scan.proofs.GroupSteps.{popped_group_states}
use Rattle.rx_scan.proofs.open_groups.OpenGroups.close.Goals as goal

pub returns-in-Some : goal.returns-in-Some
returns-in-Some c = popped_group_states c.args.self.now.outer c.pop.new.self c.in-Some.group (pair c.args.self.now.innermost) c.in-Some.ensures
