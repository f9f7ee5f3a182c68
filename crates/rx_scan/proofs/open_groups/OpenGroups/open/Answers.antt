use Rattle.rx_scan.proofs.GroupSteps.{pushed_group_states}
use Rattle.rx_scan.proofs.open_groups.OpenGroups.open.Goals as goal

pub returns : goal.returns
returns c = pushed_group_states c.args.self.now.outer c.push.new.self c.args.self.now.innermost (c.args.start, c.args.start) c.in_ok-push.ensures.ok
