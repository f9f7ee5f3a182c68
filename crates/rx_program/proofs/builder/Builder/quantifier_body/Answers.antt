use Rattle.std.proofs.Common.{refl, ap, sym, ◌∙◌}
use Rattle.rx_ast.specs.Tree.{quantified, mirror_term}
use Rattle.std.proofs.lemmas.Result.{on_ok_weaker}
use Rattle.rx_ast.proofs.Equations.{quantifier_is}
use Rattle.rx_program.specs.declared.builder.Task.TheVariants as task
use Rattle.rx_program.specs.BuilderState.{with_task}
use Rattle.rx_program.proofs.Cutting.{cuts_quantified}
use Rattle.rx_program.proofs.builder.Builder.quantifier_body.Goals as goal

pub returns : goal.returns
returns c =
    let q = c.args.it.now in
    let t = task.Repeat c.args.it c.args.self.now.before in
    let u = task.Term c.args.context c.body_of-term.result in
    on_ok_weaker c.push_task-2.result
    (λ pushed. cuts_quantified c.args.self.now c.push_task-2.new.self c.args.context q.span q.min q.max q.greedy c.body_of-term.result.now _ t u (quantifier_is q ∙ ap (λ b. quantified q.span q.min q.max q.greedy (mirror_term b)) (sym c.body_of-term.ensures)) (λ n. refl) (λ n. refl)
    (pushed ∙ ap (λ y. with_task y u) (c.in_ok-push_task.ensures ∙ ap (λ y. with_task y t) c.in_ok-push_code.ensures)) c.requires.sound)
    c.push_task-2.ensures
