use Rattle.std.proofs.Common.{refl, ap, sym, ◌∙◌, subst, ◌++◌, ◌∷◌, [], List, map}
use Rattle.rx_ast.specs.Tree.{alternatives, mirror_alternative}
use Rattle.rx_ast.proofs.Equations.{disjunction_is}
use Rattle.rx_program.specs.declared.classes.ClassFinder.{ClassFinder}
use Rattle.rx_program.specs.declared.classes.Unseen.{Unseen}
use Rattle.rx_program.specs.declared.classes.Unseen.TheVariants as unseen
use Rattle.rx_program.specs.ClassTests.{each_tests}
use Rattle.rx_program.proofs.Finding.{FindsAll, all_first, all_on, all_fewer, all_found}
use Rattle.rx_program.proofs.classes.class_rows.Goals as goal

pub loop-unseen-init : goal.loop-unseen-init
loop-unseen-init c =
    let f : ClassFinder = record { rows = c.new.result; unseen = c.push.new.self } in
    let ms = alternatives (map mirror_alternative c.as_slice-alternatives.result.now) in
    let is = ap (λ b. alternatives (map mirror_alternative b)) c.as_slice-alternatives.ensures ∙ sym (ap (λ d. d.1) (disjunction_is c.args.body.now)) in
    subst (λ m. FindsAll f (each_tests m [])) is
    (all_first f (unseen.Alternatives c.as_slice-alternatives.result) (each_tests ms) _ c.new.ensures
    (c.in_ok-push.ensures.ok ∙ ap (λ (l : List Unseen). l ++ (unseen.Alternatives c.as_slice-alternatives.result ∷ [])) c.new-2.ensures) (record { tests_are = λ before. refl; few = refl }))

pub loop-unseen-preserved : goal.loop-unseen-preserved
loop-unseen-preserved c = all_on c.loop-unseen.finder c.look_at.new.self c.pop.new.self c.in-Some.unseen _ c.in-Some.ensures c.loop-unseen.invariant c.in_ok-look_at.ensures

pub loop-unseen-smaller : goal.loop-unseen-smaller
loop-unseen-smaller c = all_fewer c.loop-unseen.finder c.look_at.new.self c.pop.new.self c.in-Some.unseen c.in-Some.ensures c.in_ok-look_at.ensures

pub returns : goal.returns
returns c = all_found c.loop-unseen.finder _ c.in_default.ensures.0 c.loop-unseen.invariant
