use Rattle.rx_match.proofs.Machines.{keeps_capture}
use Rattle.rx_match.proofs.machine.Machine.capture.Goals as goal

pub returns : goal.returns
returns c = keeps_capture c.args.self.now c.push_frame.new.self c.args.group c.args.body c.args.next c.requires c.in_ok-push_frame.ensures
