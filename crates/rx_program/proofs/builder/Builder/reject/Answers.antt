use Rattle.std.proofs.Common.{refl}
use Rattle.std.proofs.lemmas.Result.{on_ok_weaker}
use Rattle.rx_program.specs.declared.step.Step.TheVariants as step
use Rattle.rx_program.specs.Codes as code
use Rattle.rx_program.proofs.BuilderSteps.{replaces_one}
use Rattle.rx_program.proofs.builder.Builder.reject.Goals as goal

pub returns : goal.returns
returns c =
    on_ok_weaker c.add_step.result
    (λ added. replaces_one c.args.self.now c.pop_code-next.new.self c.add_step.new.self c.pop_code-next.result step.Reject (λ next. code.reject) c.pop_code-next.ensures.popped added c.requires.program (λ n one. tt) (λ g. refl))
    c.add_step.ensures
