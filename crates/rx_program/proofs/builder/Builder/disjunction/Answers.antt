use Rattle.std.proofs.Common.{refl, ap, sym, ◌∙◌, map}
use Rattle.std.proofs.lemmas.Result.{on_ok_weaker}
use Rattle.rx_ast.specs.Tree.{nodes, mirror_term}
use Rattle.rx_ast.proofs.Equations.{alternative_is}
use Rattle.rx_program.specs.declared.builder.Task.TheVariants as task
use Rattle.rx_program.specs.BuilderState.{with_code, with_task}
use Rattle.rx_program.proofs.Cutting.{cuts_disjunction, cuts_no_disjunction}
use Rattle.rx_program.proofs.builder.Builder.disjunction.Goals as goal

pub reject-requires-clause-program : goal.reject-requires-clause-program
reject-requires-clause-program c = c.requires.sound.program

pub returns-in_default : goal.returns-in_default
returns-in_default c =
    on_ok_weaker c.reject.result (λ r. cuts_no_disjunction c.args.self.now c.reject.new.self c.args.context c.args.alternatives.now c.in_default.ensures.cases c.requires.sound r) c.reject.ensures

pub returns : goal.returns
returns c =
    let next = c.pop_code-next in
    let last = c.in-Some.last.now in
    let t = task.Earlier c.args.context c.in-Some.alternatives in
    let u = task.Terms c.args.context c.as_slice-terms.result in
    on_ok_weaker c.push_task-2.result
    (λ pushed. cuts_disjunction c.in-Some.alternatives.now last c.as_slice-terms.result.now c.args.self.now next.new.self c.push_task-2.new.self c.args.context c.args.alternatives.now next.result t u c.in-Some.ensures.cases.0
    (ap (λ p. p.1) (alternative_is last) ∙ ap (λ b. nodes (map mirror_term b)) (sym c.as_slice-terms.ensures)) (λ n. refl) (λ n. refl) next.ensures.popped
    (pushed ∙ ap (λ y. with_task y u) (c.in_ok-push_task.ensures ∙ ap (λ y. with_task y t) (c.in_ok-push_code-2.ensures ∙ ap (λ y. with_code y next.result) c.in_ok-push_code.ensures))) c.requires.sound)
    c.push_task-2.ensures
