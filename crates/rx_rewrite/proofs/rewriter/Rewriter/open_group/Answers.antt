use Rattle.std.proofs.Common.{ap, ◌∙◌, sym, map}
use Rattle.std.proofs.lemmas.Result.{on_ok_weaker}
use Rattle.rx_ast.specs.declared.term.Disjunction.{out-Disjunction}
use Rattle.rx_ast.specs.Tree.{alternatives, mirror_alternative, mirror_disjunction}
use Rattle.rx_ast.proofs.Equations.{disjunction_is}
use Rattle.rx_rewrite.specs.declared.rewriter.Task.TheVariants as task
use Rattle.rx_rewrite.specs.Works as work
use Rattle.rx_rewrite.specs.RewriterState.{opener_of, with_task}
use Rattle.rx_rewrite.proofs.Cutting.{cuts_opening}
use Rattle.rx_rewrite.proofs.rewriter.Rewriter.open_group.Goals as goal

pub returns : goal.returns
returns c =
    let d = mirror_disjunction c.args.body.now in
    let it = out-Disjunction c.args.body.now in
    let old = c.args.settings.old in
    let new = c.args.settings.new in
    let outer = c.replace-outer.result in
    let inner = c.replace-outer.new.dest in
    let t = task.EndGroup c.args.span c.args.opener it.span outer in
    let u = task.Alternatives c.args.settings c.as_slice-alternatives.result in
    on_ok_weaker c.push_task-2.result
    (λ pushed. cuts_opening c.args.self.now c.push_task-2.new.self old new c.args.span d.0 (opener_of c.args.opener) d.1 outer inner t u
    (ap (λ s. work.ending_group c.args.span (opener_of c.args.opener) s (map mirror_alternative outer)) (sym (ap (λ x. x.0) (disjunction_is c.args.body.now))))
    (ap (λ x. work.alternatives old new (alternatives (map mirror_alternative x))) c.as_slice-alternatives.ensures ∙ ap (λ x. work.alternatives old new x) (sym (ap (λ x. x.1) (disjunction_is c.args.body.now))))
    c.replace-outer.ensures.value (c.replace-outer.ensures.after ∙ c.in_ok-inner.ensures)
    (pushed ∙ ap (λ y. with_task y u) c.in_ok-push_task.ensures))
    c.push_task-2.ensures
