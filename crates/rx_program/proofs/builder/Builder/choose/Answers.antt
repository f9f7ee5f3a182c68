use Rattle.std.proofs.Common.{refl}
use Rattle.std.proofs.lemmas.Result.{on_ok_weaker}
use Rattle.rx_program.specs.declared.step.Step.TheVariants as step
use Rattle.rx_program.specs.Codes as code
use Rattle.rx_program.proofs.BuilderSteps.{replaces_two}
use Rattle.rx_program.proofs.builder.Builder.choose.Goals as goal

pub returns : goal.returns
returns c =
    let one = c.pop_code-first in
    let two = c.pop_code-other in
    on_ok_weaker c.add_step.result
    (λ added. replaces_two c.args.self.now one.new.self two.new.self c.add_step.new.self one.result two.result (step.Choose one.result two.result) code.choose one.ensures.popped two.ensures.popped added c.requires.program (λ n a b. (a, b)) (λ g. refl))
    c.add_step.ensures
