use Rattle.std.proofs.Common.{ap, sym, ◌∙◌}
use Rattle.std.specs.Option.{option_copied}
use Rattle.rx_match.specs.MachineSteps.{run_of}
use Rattle.rx_match.proofs.Steps.{past_is, takes_reject}
use Rattle.rx_match.proofs.machine.Machine.advance.Goals as goal

pub returns-in_default : goal.returns-in_default
returns-in_default c =
    let m = c.args.self.now in
    takes_reject m c.requires (ap (run_of m) (past_is m.program.now m.step (sym c.step_at.ensures ∙ ap option_copied c.in_default.is)))

pub pay-requires-clause-at : goal.pay-requires-clause-at
pay-requires-clause-at c = sym c.step_at.ensures ∙ ap option_copied c.in-Some.is

pub act_without_tick-requires-clause-at : goal.act_without_tick-requires-clause-at
act_without_tick-requires-clause-at c = sym c.step_at.ensures ∙ ap option_copied c.in-Some.is
