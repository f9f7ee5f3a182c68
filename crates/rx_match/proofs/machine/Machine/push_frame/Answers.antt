use Rattle.rx_match.proofs.Machines.{pushes_frame}
use Rattle.rx_match.proofs.machine.Machine.push_frame.Goals as goal

pub returns : goal.returns
returns c = pushes_frame c.args.self.now c.args.pending c.push.new.self c.len-self.result c.requires c.in_ok-push.ensures.ok c.len-self.ensures
