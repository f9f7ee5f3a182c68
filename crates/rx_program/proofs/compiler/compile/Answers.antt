use Rattle.std.proofs.Common.{ℕ, List, [], ◌∷◌, ◌++◌, refl, ap, sym, ◌∙◌, map}
use Rattle.rx_program.specs.declared.builder.Task.{Task}
use Rattle.rx_program.specs.declared.step.Step.{Step}
use Rattle.rx_program.specs.declared.step.Step.TheVariants as step
use Rattle.rx_ast.specs.Tree.{alternatives, mirror_alternative, mirror_disjunction}
use Rattle.rx_ast.proofs.Equations.{disjunction_is}
use Rattle.rx_program.specs.declared.builder.Task.TheVariants as task
use Rattle.rx_program.specs.Works.{disjunction}
use Rattle.rx_program.proofs.Performing.{makes_first, sound_popped, made_popped, not_none, makes_on, fewer_on, popped, makes_popped, left_some, left_ordered, left_code}
use Rattle.rx_program.proofs.compiler.compile.Goals as goal

pub loop-task-init : goal.loop-task-init
loop-task-init c =
    let is = ap (λ d. d.1) (disjunction_is c.args.body.now) ∙ ap (λ b. alternatives (map mirror_alternative b)) (sym c.as_slice-alternatives.ensures) in
    makes_first _ (task.Disjunction c.args.context c.as_slice-alternatives.result) c.args.names.now c.args.context.settings c.args.context.back (mirror_disjunction c.args.body.now).1 refl
    (c.in_ok-push.ensures.ok ∙ ap (λ (l : List Step). l ++ (step.Accept ∷ [])) c.new.ensures) (c.in_ok-push-2.ensures.ok ∙ ap (λ (l : List ℕ). l ++ (0 ∷ [])) c.new-3.ensures)
    (c.in_ok-push-3.ensures.ok ∙ ap (λ (l : List Task). l ++ (task.Disjunction c.args.context c.as_slice-alternatives.result ∷ [])) c.new-2.ensures) (λ n. ap (disjunction c.args.context.settings c.args.context.back) (sym is)) (c.len.ensures ∙ c.requires.names) c.requires.rows

pub perform-requires-clause-sound : goal.perform-requires-clause-sound
perform-requires-clause-sound c = sound_popped c.loop-task.builder c.pop.new.self c.in-Some.task _ _ c.in-Some.ensures c.loop-task.invariant

pub perform-requires-clause-made : goal.perform-requires-clause-made
perform-requires-clause-made c = not_none _ _ (made_popped c.loop-task.builder c.pop.new.self c.in-Some.task _ _ c.in-Some.ensures c.loop-task.invariant)

pub loop-task-preserved : goal.loop-task-preserved
loop-task-preserved c = makes_on c.loop-task.builder c.perform.new.self c.pop.new.self c.in-Some.task _ _ c.in-Some.ensures c.loop-task.invariant c.in_ok-perform.ensures

pub loop-task-smaller : goal.loop-task-smaller
loop-task-smaller c = fewer_on c.loop-task.builder c.perform.new.self c.pop.new.self c.in-Some.task c.in-Some.ensures c.in_ok-perform.ensures

pub pop_code-entry-requires : goal.pop_code-entry-requires
pop_code-entry-requires c = left_some (popped c.loop-task.builder c.pop.new.self) _ _ c.in_default.ensures.1 (makes_popped c.loop-task.builder c.pop.new.self _ _ c.in_default.ensures.0 c.in_default.ensures.1 c.loop-task.invariant)

pub returns-clause-ordered : goal.returns-clause-ordered
returns-clause-ordered c =
    let b = popped c.loop-task.builder c.pop.new.self in
    let m = makes_popped c.loop-task.builder c.pop.new.self _ _ c.in_default.ensures.0 c.in_default.ensures.1 c.loop-task.invariant in
    left_ordered b c.pop_code-entry.new.self c.pop_code-entry.result _ _ m c.pop_code-entry.ensures.popped

pub returns-clause-code : goal.returns-clause-code
returns-clause-code c =
    let b = popped c.loop-task.builder c.pop.new.self in
    let m = makes_popped c.loop-task.builder c.pop.new.self _ _ c.in_default.ensures.0 c.in_default.ensures.1 c.loop-task.invariant in
    left_code b c.pop_code-entry.new.self c.pop_code-entry.result _ _ c.in_default.ensures.1 m c.pop_code-entry.ensures.popped
