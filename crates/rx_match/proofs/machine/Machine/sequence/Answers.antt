use Rattle.rx_match.proofs.Machines.{takes_sequence}
use Rattle.rx_match.proofs.machine.Machine.sequence.Goals as goal

pub returns : goal.returns
returns c = takes_sequence c.args.self.now c.push_frame.new.self c.args.first c.args.second c.requires c.in_ok-push_frame.ensures
