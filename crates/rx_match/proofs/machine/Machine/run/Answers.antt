use Rattle.std.proofs.Common.{subst}
use Rattle.rx_match.specs.MachineSteps.{run_ahead, Progresses}
use Rattle.rx_match.proofs.Steps.{has_run_on, shorter}
use Rattle.rx_match.proofs.machine.Machine.run.Goals as goal

pub loop-next-preserved : goal.loop-next-preserved
loop-next-preserved c =
    let m = c.loop-next.self in
    let v = c.act.new.self in
    has_run_on _ m v _ (run_ahead m c.loop-next.now) (run_ahead v c.in-Continue.next) c.loop-next.invariant (subst (Progresses m v (run_ahead m c.loop-next.now)) c.in-Continue.is c.in_ok-next.ensures)

pub loop-next-smaller : goal.loop-next-smaller
loop-next-smaller c =
    let m = c.loop-next.self in
    let v = c.act.new.self in
    shorter m v (run_ahead m c.loop-next.now) (run_ahead v c.in-Continue.next) (subst (Progresses m v (run_ahead m c.loop-next.now)) c.in-Continue.is c.in_ok-next.ensures)
