use Rattle.std.proofs.Common.{ap}
use Rattle.std.proofs.lemmas.Result.{on_ok_weaker}
use Rattle.rx_program.specs.declared.step.Step.TheVariants as step
use Rattle.rx_program.specs.Codes as code
use Rattle.rx_trace.specs.Groups.{slot_named}
use Rattle.rx_program.proofs.BuilderSteps.{replaces_one}
use Rattle.rx_program.proofs.Named.{named_numbers}
use Rattle.rx_program.proofs.builder.Builder.refer_by_name.Goals as goal

pub returns : goal.returns
returns c =
    let next = c.pop_code-next.result in
    let names = c.args.self.now.names.now in
    let numbers = c.numbers_of-numbers.result in
    on_ok_weaker c.add_step.result
    (λ added. replaces_one c.args.self.now c.pop_code-next.new.self c.add_step.new.self next (step.ReferByName numbers next) (code.refer (slot_named c.args.name.now names)) c.pop_code-next.ensures.popped added c.requires.program (λ n one. one)
    (λ g. ap (λ f. code.refer f (g next)) (named_numbers c.args.name.now names numbers.now c.numbers_of-numbers.ensures)))
    c.add_step.ensures
