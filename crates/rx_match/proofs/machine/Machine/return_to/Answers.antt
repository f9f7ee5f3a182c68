use Rattle.std.proofs.Common.{ap}
use Rattle.rx_match.proofs.machine.Machine.return_to.Goals as goal

pub returns : goal.returns
returns c = ap (λ fs. record c.args.self.now { frames = fs; place = c.args.place; head = c.args.head }) c.cut_frames.ensures
