use Rattle.std.proofs.Common.{refl, ap, sym, ◌∙◌, map}
use Rattle.std.proofs.lemmas.Result.{on_ok_weaker}
use Rattle.rx_ast.specs.Tree.{nodes, mirror_term}
use Rattle.rx_ast.proofs.Equations.{alternative_is}
use Rattle.rx_program.specs.declared.classes.Unseen.TheVariants as unseen
use Rattle.rx_program.specs.ClassesFound.{with_unseen}
use Rattle.rx_program.proofs.Finding.{finds_alternatives, finds_no_alternatives}
use Rattle.rx_program.proofs.classes.ClassFinder.alternatives.Goals as goal

pub returns-in_default : goal.returns-in_default
returns-in_default c = finds_no_alternatives c.args.self.now c.args.alternatives.now c.in_default.ensures.cases

pub returns : goal.returns
returns c =
    let last = c.in-Some.last.now in
    let u = unseen.Alternatives c.in-Some.alternatives in
    let v = unseen.Terms c.as_slice-terms.result in
    on_ok_weaker c.push_unseen-2.result
    (λ pushed. finds_alternatives c.args.self.now c.push_unseen-2.new.self c.args.alternatives.now c.in-Some.alternatives.now last c.as_slice-terms.result.now u v c.in-Some.ensures.cases.0
    (ap (λ p. p.1) (alternative_is last) ∙ ap (λ b. nodes (map mirror_term b)) (sym c.as_slice-terms.ensures)) (record { tests_are = λ before. refl; few = refl }) (record { tests_are = λ before. refl; few = refl })
    (pushed ∙ ap (λ y. with_unseen y v) c.in_ok-push_unseen.ensures)) c.push_unseen-2.ensures
