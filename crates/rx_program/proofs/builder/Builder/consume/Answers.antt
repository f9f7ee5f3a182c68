use Rattle.rx_program.specs.Steps.{test_holds}
use Rattle.std.proofs.Common.{refl}
use Rattle.std.proofs.lemmas.Result.{on_ok_weaker}
use Rattle.rx_program.specs.declared.step.Step.TheVariants as step
use Rattle.rx_program.specs.Codes as code
use Rattle.rx_program.proofs.BuilderSteps.{replaces_one}
use Rattle.rx_program.proofs.builder.Builder.consume.Goals as goal

pub returns : goal.returns
returns c =
    on_ok_weaker c.add_step.result
    (λ added. replaces_one c.args.self.now c.pop_code-next.new.self c.add_step.new.self c.pop_code-next.result (step.Consume c.args.test c.pop_code-next.result) (code.consume (test_holds c.args.test)) c.pop_code-next.ensures.popped added c.requires.program (λ n one. one) (λ g. refl))
    c.add_step.ensures
