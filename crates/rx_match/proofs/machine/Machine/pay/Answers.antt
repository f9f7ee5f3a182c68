use Rattle.std.proofs.Common.{◌≡◌, suc, ◌-◌, arith}
use Rattle.rx_match.proofs.Steps.{spent, takes_tick}
use Rattle.rx_match.proofs.machine.Machine.pay.Goals as goal

pub returns-then-self-eq0 : goal.returns-then-self-eq0
returns-then-self-eq0 c = spent c.args.self.now c.args.step.now c.requires.sound c.requires.at c.requires.ticks c.if-self-eq0.true

pub returns : goal.returns
returns c =
    let pays : c.args.self.now.budget ≡ suc (c.args.self.now.budget - 1) = omega arith in
    takes_tick c.args.self.now c.act_after_tick.new.self c.args.step.now (c.args.self.now.budget - 1) _ c.requires.sound c.requires.at c.requires.ticks pays c.in_ok-act_after_tick.ensures
