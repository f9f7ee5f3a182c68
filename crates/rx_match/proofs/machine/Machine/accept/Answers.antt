use Rattle.rx_program.specs.Codes.{accept}
use Rattle.rx_match.specs.MachineSteps.{run_of}
use Rattle.rx_match.proofs.Ends.{forgets}
use Rattle.rx_match.proofs.machine.Machine.accept.Goals as goal

pub returns : goal.returns
returns c = forgets c.args.self.now c.resume.new.self c.forget_frames.new.self (run_of c.args.self.now accept) c.in_ok-action.action c.in_ok-action.ensures c.forget_frames.ensures
