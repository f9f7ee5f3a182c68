use Rattle.std.proofs.Common.{◌++◌, ◌∙◌, [], ◌∷◌, ap, refl, sym}
use Rattle.rx_paint.specs.declared.step.Step.TheVariants as steps
use Rattle.rx_paint.specs.Paints.{token_of}
use Rattle.rx_paint.proofs.Steps.{clear_edges, plain_node_edges, modified_node_edges, clear_weight, plain_node_weight, modified_node_weight}
use Rattle.rx_paint.proofs.step.open.Goals as goal
use Rattle.rx_paint.proofs.step.open.Goals.{in-Some-modifiers_of+in_ok-push-4+in_ok-push-5, in_default-modifiers_of}

pub returns-in_default-clause-edges : goal.returns-in_default-clause-edges
returns-in_default-clause-edges c = clear_edges _ _ _ _ _ (sym c.in_default.ensures) c.children_of.ensures c.in_ok-push.ensures.ok

pub returns-in_default-clause-lighter : goal.returns-in_default-clause-lighter
returns-in_default-clause-lighter c = clear_weight _ _ _ _ _ c.children_of.ensures c.in_ok-push.ensures.ok

pub returns-clause-edges : goal.returns-clause-edges
returns-clause-edges c =
    elim c.match-modifiers_of.branch [
      | in-Some-modifiers_of+in_ok-push-4+in_ok-push-5 w ↦
          modified_node_edges _ _ _ _ _ _ _ _ _ _ _ _ _ _ (sym c.in-Some.ensures) c.span-span.ensures refl refl (sym w.in-Some-modifiers_of.ensures) c.children_of-2.ensures
          c.in_ok-push-2.ensures.ok c.in_ok-push-3.ensures.ok w.in_ok-push-4.ensures.ok w.in_ok-push-5.ensures.ok (c.in_ok-push-6.ensures.ok ∙ ap (λ l. l ++ (steps.Turn c.span-span.result.start (token_of c.span-span.result c.in-Some.kind) ∷ [])) w.left-is)
      | in_default-modifiers_of w ↦
          plain_node_edges _ _ _ _ _ _ _ _ _ _ (sym c.in-Some.ensures) c.span-span.ensures refl (sym w.in_default-modifiers_of.ensures) c.children_of-2.ensures
          c.in_ok-push-2.ensures.ok c.in_ok-push-3.ensures.ok (c.in_ok-push-6.ensures.ok ∙ ap (λ l. l ++ (steps.Turn c.span-span.result.start (token_of c.span-span.result c.in-Some.kind) ∷ [])) w.left-is)
    ]

pub returns-clause-lighter : goal.returns-clause-lighter
returns-clause-lighter c =
    elim c.match-modifiers_of.branch [
      | in-Some-modifiers_of+in_ok-push-4+in_ok-push-5 w ↦
          modified_node_weight _ _ _ _ _ _ _ _ _ _ _ _ _ _ _ _ _ c.children_of-2.ensures
          c.in_ok-push-2.ensures.ok c.in_ok-push-3.ensures.ok w.in_ok-push-4.ensures.ok w.in_ok-push-5.ensures.ok (c.in_ok-push-6.ensures.ok ∙ ap (λ l. l ++ (steps.Turn c.span-span.result.start (token_of c.span-span.result c.in-Some.kind) ∷ [])) w.left-is)
      | in_default-modifiers_of w ↦
          plain_node_weight _ _ _ _ _ _ _ _ _ _ _ c.children_of-2.ensures
          c.in_ok-push-2.ensures.ok c.in_ok-push-3.ensures.ok (c.in_ok-push-6.ensures.ok ∙ ap (λ l. l ++ (steps.Turn c.span-span.result.start (token_of c.span-span.result c.in-Some.kind) ∷ [])) w.left-is)
    ]
