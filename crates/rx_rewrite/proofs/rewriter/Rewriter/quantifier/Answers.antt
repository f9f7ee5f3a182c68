use Rattle.std.proofs.Common.{refl}
use Rattle.std.proofs.lemmas.Result.{on_ok_weaker}
use Rattle.rx_ast.specs.Tree.{quantified, mirror_quantifier, mirror_term}
use Rattle.rx_ast.proofs.Equations.{quantifier_is}
use Rattle.rx_rewrite.proofs.Cutting.{cuts_quantified, changes_term}
use Rattle.rx_rewrite.proofs.rewriter.Rewriter.quantifier.Goals as goal

pub returns : goal.returns
returns c =
    let q = c.args.it.now in
    let old = c.args.settings.old in
    let new = c.args.settings.new in
    on_ok_weaker c.push_task-2.result
    (λ pushed. changes_term c.args.self.now c.push_task-2.new.self old new (mirror_quantifier q) (quantified q.span q.min q.max q.greedy (mirror_term q.body)) (quantifier_is q)
    (cuts_quantified c.args.self.now c.push_task.new.self c.push_task-2.new.self old new q.span q.min q.max q.greedy (mirror_term q.body) _ _ c.in_ok-push_task.ensures pushed refl refl))
    c.push_task-2.ensures
