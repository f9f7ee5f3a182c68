use Rattle.std.proofs.Common.{refl, ap, ◌∙◌}
use Rattle.std.proofs.lemmas.Result.{on_ok_weaker}
use Rattle.rx_rewrite.specs.declared.rewriter.Task.TheVariants as task
use Rattle.rx_rewrite.specs.RewriterState.{with_task}
use Rattle.std.proofs.lemmas.List.{nil_from_length}
use Rattle.rx_rewrite.proofs.Cutting.{cuts_no_alternatives, cuts_alternatives}
use Rattle.rx_rewrite.proofs.rewriter.Rewriter.alternatives.Goals as goal

pub returns-in_default : goal.returns-in_default
returns-in_default c = cuts_no_alternatives c.args.self.now c.args.self.now c.args.settings.old c.args.settings.new c.args.alternatives.now (nil_from_length c.args.alternatives.now c.in_default.ensures.cases)

pub returns : goal.returns
returns c =
    let outer = c.replace-outer.result in
    let inner = c.replace-outer.new.dest in
    let t = task.Alternatives c.args.settings c.in-Some.alternatives in
    let u = task.EndAlternative c.in-Some.first.now.span outer in
    let v = task.Terms c.args.settings c.as_slice-terms.result in
    on_ok_weaker c.push_task-3.result
    (λ pushed. cuts_alternatives c.args.self.now c.push_task-3.new.self c.args.settings.old c.args.settings.new c.args.alternatives.now c.in-Some.alternatives.now c.in-Some.first.now c.as_slice-terms.result.now outer inner t u v
    c.in-Some.ensures.cases.0 refl refl refl (c.replace-outer.ensures.value ∙ ap (λ y. y.terms) c.in_ok-push_task.ensures) (c.replace-outer.ensures.after ∙ c.in_ok-inner.ensures) c.as_slice-terms.ensures
    (pushed ∙ ap (λ y. with_task y v) (c.in_ok-push_task-2.ensures ∙ ap (λ y. with_task (record y { terms = inner }) u) c.in_ok-push_task.ensures)))
    c.push_task-3.ensures
