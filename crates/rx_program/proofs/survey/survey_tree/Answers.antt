use Rattle.std.proofs.Common.{refl, ap, sym, ◌∙◌, ◌++◌, ◌∷◌, [], List, map}
use Rattle.rx_ast.specs.Tree.{alternatives, mirror_alternative, mirror_disjunction}
use Rattle.rx_ast.proofs.Equations.{disjunction_is}
use Rattle.rx_program.specs.declared.survey.Rest.{Rest}
use Rattle.rx_program.specs.declared.survey.Rest.TheVariants as rest
use Rattle.rx_program.proofs.SurveyState.{surveys_first}
use Rattle.rx_program.proofs.survey.survey_tree.Goals as goal

pub loop-rest-init : goal.loop-rest-init
loop-rest-init c =
    surveys_first (record { names = c.new.result; rests = c.push.new.self }) (mirror_disjunction c.args.body.now).1 (rest.Alternatives c.as_slice-alternatives.result) c.new.ensures
    (c.in_ok-push.ensures.ok ∙ ap (λ (l : List Rest). l ++ (rest.Alternatives c.as_slice-alternatives.result ∷ [])) c.new-2.ensures)
    {ms = alternatives (map mirror_alternative c.as_slice-alternatives.result.now)} refl refl
    (ap (λ b. alternatives (map mirror_alternative b)) c.as_slice-alternatives.ensures ∙ sym (ap (λ d. d.1) (disjunction_is c.args.body.now)))
