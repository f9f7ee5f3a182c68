use Rattle.std.proofs.Common.{ap, subst, length, arith}
use Rattle.rx_match.specs.MachineSteps.{TakesUp}
use Rattle.rx_trace.proofs.Lists.{length-last}
use Rattle.rx_match.proofs.Ends.{keeps_itself, keeps_popped, nothing_left, sound_before_pop}
use Rattle.rx_match.proofs.machine.Machine.backtrack.Goals as goal

pub loop-entry-init : goal.loop-entry-init
loop-entry-init c = keeps_itself c.args.self.now c.requires

pub take_up-requires : goal.take_up-requires
take_up-requires c = sound_before_pop c.args.self.now c.loop-entry.self c.pop.new.self c.in-Some.entry c.loop-entry.invariant c.in-Some.ensures

pub loop-entry-preserved : goal.loop-entry-preserved
loop-entry-preserved c =
    let m = c.loop-entry.self in
    let took = subst (TakesUp (record m { entries = c.pop.new.self }) c.in-Some.entry c.take_up.new.self) c.in_default-2.is c.in_ok-action.ensures in
    keeps_popped c.args.self.now m c.take_up.new.self c.pop.new.self c.in-Some.entry c.loop-entry.invariant c.in-Some.ensures took.0

pub loop-entry-smaller : goal.loop-entry-smaller
loop-entry-smaller c =
    let m = c.loop-entry.self in
    let took = subst (TakesUp (record m { entries = c.pop.new.self }) c.in-Some.entry c.take_up.new.self) c.in_default-2.is c.in_ok-action.ensures in
    let left = ap length took.1 in
    let popped = length-last m.entries c.pop.new.self c.in-Some.entry c.in-Some.ensures in
    omega arith

pub returns : goal.returns
returns c = nothing_left c.args.self.now c.loop-entry.self c.pop.new.self c.loop-entry.invariant c.in_default.ensures.0
