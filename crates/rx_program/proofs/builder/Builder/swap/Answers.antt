use Rattle.std.proofs.Common.{ap, ◌∙◌}
use Rattle.std.proofs.lemmas.Result.{on_ok_weaker}
use Rattle.rx_program.specs.BuilderState.{with_code}
use Rattle.rx_program.proofs.BuilderSteps.{replaces_swapped}
use Rattle.rx_program.proofs.builder.Builder.swap.Goals as goal

pub returns : goal.returns
returns c =
    let one = c.pop_code-one in
    let two = c.pop_code-other in
    on_ok_weaker c.push_code-2.result
    (λ put. replaces_swapped c.args.self.now one.new.self two.new.self c.push_code-2.new.self one.result two.result one.ensures.popped two.ensures.popped (put ∙ ap (λ y. with_code y two.result) c.in_ok-push_code.ensures) c.requires.program)
    c.push_code-2.ensures
