use Rattle.std.proofs.Common.{refl, ap, sym, ◌∙◌, map}
use Rattle.std.proofs.lemmas.Result.{on_ok_weaker}
use Rattle.rx_ast.specs.declared.term.Disjunction.{out-Disjunction}
use Rattle.rx_ast.specs.declared.term.CapturingGroup.{out-CapturingGroup}
use Rattle.rx_ast.specs.Tree as tree
use Rattle.rx_ast.specs.Tree.{alternatives, mirror_alternative}
use Rattle.rx_ast.proofs.Equations.{capturing_is, disjunction_is}
use Rattle.rx_program.specs.declared.builder.Task.TheVariants as task
use Rattle.rx_program.specs.BuilderState.{with_task}
use Rattle.rx_program.proofs.Cutting.{cuts_capturing}
use Rattle.rx_program.proofs.builder.Builder.capturing_body.Goals as goal

pub returns : goal.returns
returns c =
    let it = out-CapturingGroup c.args.it.now in
    let u = task.Disjunction c.args.context c.as_slice-alternatives.result in
    on_ok_weaker c.push_task-2.result
    (λ pushed. cuts_capturing c.args.self.now c.push_task-2.new.self c.args.context _ _ it.name c.as_slice-alternatives.result.now _ task.Capture u
    (capturing_is c.args.it.now ∙ ap (λ d. tree.group it.span (tree.capturing it.name) d.0 d.1) (disjunction_is it.body) ∙ ap (λ b. tree.group it.span (tree.capturing it.name) (out-Disjunction it.body).span (alternatives (map mirror_alternative b))) (sym c.as_slice-alternatives.ensures))
    (λ n. refl) (λ n. refl) (pushed ∙ ap (λ y. with_task y u) (c.in_ok-push_task.ensures ∙ ap (λ y. with_task y task.Capture) c.in_ok-push_code.ensures)) c.requires.sound)
    c.push_task-2.ensures
