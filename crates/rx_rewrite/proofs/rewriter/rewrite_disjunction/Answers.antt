use Rattle.std.proofs.Common.{refl, ap, sym, ◌∙◌, ◌++◌, ◌∷◌, [], List, map}
use Rattle.rx_ast.specs.declared.term.Disjunction.{out-Disjunction}
use Rattle.rx_ast.specs.Tree.{alternatives, mirror_alternative, mirror_disjunction}
use Rattle.rx_ast.proofs.Equations.{disjunction_is, disjunction_roll}
use Rattle.rx_rewrite.specs.declared.rewriter.Task.{Task}
use Rattle.rx_rewrite.specs.declared.rewriter.Task.TheVariants as task
use Rattle.rx_rewrite.specs.Rewriting.{alternatives_rewritten}
use Rattle.rx_rewrite.proofs.Performing.{makes_first, ready_next, makes_on, fewer_on, makes_all}
use Rattle.rx_rewrite.proofs.rewriter.rewrite_disjunction.Goals as goal

pub loop-task-init : goal.loop-task-init
loop-task-init c =
    makes_first _ c.args.what c.args.numbers.now c.args.settings c.as_slice-alternatives.result (mirror_disjunction c.args.body.now).1 refl refl
    (c.in_ok-push.ensures.ok ∙ ap (λ (l : List Task). l ++ (task.Alternatives c.args.settings c.as_slice-alternatives.result ∷ [])) c.new.ensures)
    c.new-2.ensures c.in_ok-with_capacity.ensures
    (ap (λ b. alternatives (map mirror_alternative b)) c.as_slice-alternatives.ensures ∙ sym (ap (λ d. d.1) (disjunction_is c.args.body.now)))

pub perform-requires : goal.perform-requires
perform-requires c = ready_next c.loop-task.rewriter c.pop.new.self c.in-Some.task c.args.what c.args.numbers.now _ _ _ c.in-Some.ensures c.requires c.loop-task.invariant

pub loop-task-preserved : goal.loop-task-preserved
loop-task-preserved c = makes_on c.loop-task.rewriter c.perform.new.self c.pop.new.self c.in-Some.task c.args.what c.args.numbers.now _ _ _ c.in-Some.ensures c.loop-task.invariant c.in_ok-perform.ensures

pub loop-task-smaller : goal.loop-task-smaller
loop-task-smaller c = fewer_on c.loop-task.rewriter c.perform.new.self c.pop.new.self c.in-Some.task c.in-Some.ensures c.in_ok-perform.ensures

pub returns : goal.returns
returns c = λ names numbered.
    let old = c.args.settings.old in
    let new = c.args.settings.new in
    let all = (mirror_disjunction c.args.body.now).1 in
    disjunction_roll _
    ∙ ap (λ more. ((out-Disjunction c.args.body.now).span, more)) (makes_all c.loop-task.rewriter c.args.what c.args.numbers.now old new all names c.in_default.ensures.0 numbered c.loop-task.invariant)
    ∙ ap (λ s. (s, alternatives_rewritten c.args.what names old new all)) (sym (ap (λ d. d.0) (disjunction_is c.args.body.now)))
