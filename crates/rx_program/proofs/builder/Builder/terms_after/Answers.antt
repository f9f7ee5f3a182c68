use Rattle.std.proofs.Common.{refl, ap, ◌∙◌}
use Rattle.std.proofs.lemmas.Result.{on_ok_weaker}
use Rattle.rx_program.specs.declared.builder.Task.TheVariants as task
use Rattle.rx_program.specs.BuilderState.{with_task}
use Rattle.rx_program.proofs.Cutting.{cuts_no_terms, cuts_after}
use Rattle.rx_program.proofs.builder.Builder.terms_after.Goals as goal

pub returns-in_default : goal.returns-in_default
returns-in_default c = cuts_no_terms c.args.self.now c.args.context c.args.terms.now c.in_default.ensures.cases c.requires.sound

pub returns : goal.returns
returns c =
    let u = task.Term c.args.context c.in-Some.term in
    let w = task.Terms c.args.context c.in-Some.terms in
    on_ok_weaker c.push_task-4.result
    (λ pushed. cuts_after c.args.self.now c.push_task-4.new.self c.args.context c.args.terms.now c.in-Some.terms.now c.in-Some.term.now task.Sequence u task.Swap w c.requires.back c.in-Some.ensures.cases.0 (λ n. refl) (λ n. refl) (λ n. refl) (λ n. refl)
    (pushed ∙ ap (λ y. with_task y w) (c.in_ok-push_task-3.ensures ∙ ap (λ y. with_task y task.Swap) (c.in_ok-push_task-2.ensures ∙ ap (λ y. with_task y u) (c.in_ok-push_task.ensures ∙ ap (λ y. with_task y task.Sequence) c.in_ok-push_code.ensures)))) c.requires.sound)
    c.push_task-4.ensures
