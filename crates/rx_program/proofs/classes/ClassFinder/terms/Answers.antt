use Rattle.std.proofs.Common.{refl, ap, ◌∙◌}
use Rattle.std.proofs.lemmas.Result.{on_ok_weaker}
use Rattle.rx_program.specs.declared.classes.Unseen.TheVariants as unseen
use Rattle.rx_program.specs.ClassesFound.{with_unseen}
use Rattle.rx_program.proofs.Finding.{finds_terms, finds_no_terms}
use Rattle.rx_program.proofs.classes.ClassFinder.terms.Goals as goal

pub returns-in_default : goal.returns-in_default
returns-in_default c = finds_no_terms c.args.self.now c.args.terms.now c.in_default.ensures.cases

pub returns : goal.returns
returns c =
    let u = unseen.Terms c.in-Some.terms in
    let v = unseen.Term c.in-Some.last in
    on_ok_weaker c.push_unseen-2.result
    (λ pushed. finds_terms c.args.self.now c.push_unseen-2.new.self c.args.terms.now c.in-Some.terms.now c.in-Some.last.now u v c.in-Some.ensures.cases.0 (record { tests_are = λ before. refl; few = refl }) (record { tests_are = λ before. refl; few = refl }) (pushed ∙ ap (λ y. with_unseen y v) c.in_ok-push_unseen.ensures)) c.push_unseen-2.ensures
