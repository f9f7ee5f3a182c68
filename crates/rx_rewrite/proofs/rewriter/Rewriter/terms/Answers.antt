use Rattle.std.proofs.Common.{refl, ap, ◌∙◌}
use Rattle.std.proofs.lemmas.Result.{on_ok_weaker}
use Rattle.rx_rewrite.specs.declared.rewriter.Task.TheVariants as task
use Rattle.rx_rewrite.specs.RewriterState.{with_task}
use Rattle.std.proofs.lemmas.List.{nil_from_length}
use Rattle.rx_rewrite.proofs.Cutting.{cuts_no_terms, cuts_terms}
use Rattle.rx_rewrite.proofs.rewriter.Rewriter.terms.Goals as goal

pub returns-in_default : goal.returns-in_default
returns-in_default c = cuts_no_terms c.args.self.now c.args.self.now c.args.settings.old c.args.settings.new c.args.terms.now (nil_from_length c.args.terms.now c.in_default.ensures.cases)

pub returns : goal.returns
returns c =
    let t = task.Terms c.args.settings c.in-Some.terms in
    let u = task.Term c.args.settings c.in-Some.term in
    on_ok_weaker c.push_task-2.result
    (λ pushed. cuts_terms c.args.self.now c.push_task-2.new.self c.args.settings.old c.args.settings.new c.args.terms.now c.in-Some.terms.now c.in-Some.term.now t u c.in-Some.ensures.cases.0 refl refl
    (pushed ∙ ap (λ y. with_task y u) c.in_ok-push_task.ensures))
    c.push_task-2.ensures
