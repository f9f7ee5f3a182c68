use Rattle.std.proofs.Common.{ap, sym, ◌∙◌, subst, IfOk}
use Rattle.rx_program.specs.Steps.{step_code, code_at}
use Rattle.rx_match.specs.MachineSteps.{run_of, run_ahead, TakesMarks, Progresses}
use Rattle.rx_match.proofs.Steps.{steps_to, takes_reject}
use Rattle.rx_match.proofs.machine.Machine.act_without_tick.Goals as goal

pub returns-in-Accept : goal.returns-in-Accept
returns-in-Accept c =
    let m = c.args.self.now in
    let e = steps_to m c.args.step.now c.requires.sound c.requires.at ∙ ap (λ x. run_of m (step_code x (code_at m.program.now))) c.in-Accept.is in
    subst (λ r. IfOk c.accept.result (λ it. Progresses m c.accept.new.self r it)) (sym e) c.accept.ensures

pub returns-in_ok-choose-in-Choose : goal.returns-in_ok-choose-in-Choose
returns-in_ok-choose-in-Choose c =
    let m = c.args.self.now in
    let e = steps_to m c.args.step.now c.requires.sound c.requires.at ∙ ap (λ x. run_of m (step_code x (code_at m.program.now))) c.in-Choose.is in
    subst (λ r. TakesMarks m c.choose.new.self r (run_ahead c.choose.new.self c.in_ok-choose-in-Choose.field-0)) (sym e) c.in_ok-choose-in-Choose.ensures

pub returns-in_ok-sequence-in-Sequence : goal.returns-in_ok-sequence-in-Sequence
returns-in_ok-sequence-in-Sequence c =
    let m = c.args.self.now in
    let e = steps_to m c.args.step.now c.requires.sound c.requires.at ∙ ap (λ x. run_of m (step_code x (code_at m.program.now))) c.in-Sequence.is in
    subst (λ r. TakesMarks m c.sequence.new.self r (run_ahead c.sequence.new.self c.in_ok-sequence-in-Sequence.field-0)) (sym e) c.in_ok-sequence-in-Sequence.ensures

pub returns-in-Reject : goal.returns-in-Reject
returns-in-Reject c =
    let m = c.args.self.now in
    takes_reject m c.requires.sound (steps_to m c.args.step.now c.requires.sound c.requires.at ∙ ap (λ x. run_of m (step_code x (code_at m.program.now))) c.in-Reject.is)
