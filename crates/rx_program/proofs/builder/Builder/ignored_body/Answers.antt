use Rattle.std.proofs.Common.{refl, ap, sym, ◌∙◌, map}
use Rattle.std.proofs.lemmas.Result.{on_ok_weaker}
use Rattle.rx_ast.specs.declared.term.Disjunction.{out-Disjunction}
use Rattle.rx_ast.specs.declared.term.IgnoreGroup.{out-IgnoreGroup}
use Rattle.rx_ast.specs.Tree as tree
use Rattle.rx_ast.specs.Tree.{alternatives, mirror_alternative}
use Rattle.rx_ast.proofs.Equations.{ignore_is, disjunction_is}
use Rattle.rx_program.specs.declared.builder.Context.{Context}
use Rattle.rx_program.specs.declared.builder.Task.TheVariants as task
use Rattle.rx_program.specs.BuilderState.{with_task}
use Rattle.rx_program.proofs.Cutting.{cuts_ignoring}
use Rattle.rx_program.proofs.builder.Builder.ignored_body.Goals as goal

pub returns : goal.returns
returns c =
    let it = out-IgnoreGroup c.args.it.now in
    let inside : Context = record { settings = c.settings_after.result; back = c.args.context.back } in
    let u = task.Disjunction inside c.as_slice-alternatives.result in
    on_ok_weaker c.push_task-2.result
    (λ pushed. cuts_ignoring c.args.self.now c.push_task-2.new.self c.args.context inside _ _ it.modifiers c.as_slice-alternatives.result.now _ task.EnterGroup u
    (ignore_is c.args.it.now ∙ ap (λ d. tree.group it.span (tree.ignoring it.modifiers) d.0 d.1) (disjunction_is it.body) ∙ ap (λ b. tree.group it.span (tree.ignoring it.modifiers) (out-Disjunction it.body).span (alternatives (map mirror_alternative b))) (sym c.as_slice-alternatives.ensures))
    c.settings_after.ensures refl (λ n. refl) (λ n. refl) (pushed ∙ ap (λ y. with_task y u) c.in_ok-push_task.ensures) c.requires.sound)
    c.push_task-2.ensures
