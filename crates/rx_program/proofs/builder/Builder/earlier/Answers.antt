use Rattle.std.proofs.Common.{refl, ap, sym, ◌∙◌, map}
use Rattle.std.proofs.lemmas.Result.{on_ok_weaker}
use Rattle.rx_ast.specs.Tree.{nodes, mirror_term}
use Rattle.rx_ast.proofs.Equations.{alternative_is}
use Rattle.rx_program.specs.declared.builder.Task.TheVariants as task
use Rattle.rx_program.specs.BuilderState.{with_code, with_task}
use Rattle.rx_program.proofs.Cutting.{cuts_earlier, cuts_no_earlier}
use Rattle.rx_program.proofs.builder.Builder.earlier.Goals as goal

pub returns-in_default : goal.returns-in_default
returns-in_default c =
    let entry = c.pop_code-entry in
    let next = c.pop_code-next in
    on_ok_weaker c.push_code.result
    (λ pushed. cuts_no_earlier c.args.self.now entry.new.self next.new.self c.push_code.new.self c.args.context c.args.alternatives.now entry.result next.result c.in_default.ensures.cases entry.ensures.popped next.ensures.popped pushed c.requires.sound)
    c.push_code.ensures

pub returns : goal.returns
returns c =
    let entry = c.pop_code-entry in
    let next = c.pop_code-next in
    let last = c.in-Some.last.now in
    let t = task.Earlier c.args.context c.in-Some.alternatives in
    let v = task.Terms c.args.context c.as_slice-terms.result in
    on_ok_weaker c.push_task-3.result
    (λ pushed. cuts_earlier c.in-Some.alternatives.now last c.as_slice-terms.result.now c.args.self.now entry.new.self next.new.self c.push_task-3.new.self c.args.context c.args.alternatives.now entry.result next.result t task.Choose v c.in-Some.ensures.cases.0
    (ap (λ p. p.1) (alternative_is last) ∙ ap (λ b. nodes (map mirror_term b)) (sym c.as_slice-terms.ensures)) (λ n. refl) (λ n. refl) (λ n. refl) entry.ensures.popped next.ensures.popped
    (pushed ∙ ap (λ y. with_task y v) (c.in_ok-push_task-2.ensures ∙ ap (λ y. with_task y task.Choose) (c.in_ok-push_task.ensures ∙ ap (λ y. with_task y t)
    (c.in_ok-push_code-3.ensures ∙ ap (λ y. with_code y next.result) (c.in_ok-push_code-2.ensures ∙ ap (λ y. with_code y entry.result) c.in_ok-push_code.ensures))))) c.requires.sound)
    c.push_task-3.ensures
