use Rattle.std.proofs.Common.{None, refl, ap, sym, subst, ◌∙◌, map}
use Rattle.rx_ast.specs.Tree.{nodes, mirror_term}
use Rattle.rx_ast.proofs.Equations.{alternative_is}
use Rattle.rx_program.specs.declared.survey.Rest.{Rest}
use Rattle.rx_program.specs.declared.survey.Rest.TheVariants as rest
use Rattle.rx_program.specs.SurveyState.{LookedAt, unsupported_rest, names_rest, looks, with_rest}
use Rattle.rx_program.proofs.Looking.{looked_alternatives}
use Rattle.rx_program.proofs.survey.Surveyor.look_at.Goals as goal

pub returns-in_ok-push_rest-in-Alternatives-2 : goal.returns-in_ok-push_rest-in-Alternatives-2
returns-in_ok-push_rest-in-Alternatives-2 c =
    let s = c.args.self.now in
    let after = c.push_rest-in-Alternatives.new.self in
    let q = rest.Terms c.as_slice.result in
    let looked = looked_alternatives s after c.in-Alternatives.alternatives.now c.in-Some.more.now c.in-Some.first.now c.as_slice.result.now (rest.Alternatives c.in-Some.more) q c.in-Some.ensures.cases.0
    (ap (λ p. p.1) (alternative_is c.in-Some.first.now) ∙ ap (λ b. nodes (map mirror_term b)) (sym c.as_slice.ensures)) (record { refuses = refl; named = refl; few = refl }) (record { refuses = refl; named = refl; few = refl })
    (c.in_ok-push_rest-in-Alternatives-2.ensures ∙ ap (λ s. with_rest s q) c.in_ok-push_rest-in-Alternatives.ensures) in
    subst (λ (r : Rest). LookedAt s (unsupported_rest r) (names_rest r) (looks r) after None) (sym c.in-Alternatives.is) looked
