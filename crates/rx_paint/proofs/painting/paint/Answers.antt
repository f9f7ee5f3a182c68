use Rattle.std.proofs.Common.{◌++◌, ◌∙◌, [], ◌∷◌, ap, sym}
use Rattle.rx_ast.specs.Tree.{mirror}
use Rattle.rx_paint.specs.Edges.{tokens_left}
use Rattle.rx_paint.specs.Paints.{root_token}
use Rattle.rx_paint.specs.Steps.{edges_to_come}
use Rattle.rx_paint.proofs.Steps.{first_edges, turn_edges, turn_weight, none_edges, none_weight, next_edges, next_weight, none_to_come}
use Rattle.rx_paint.proofs.Relabelled.{tokens_nested}
use Rattle.rx_paint.proofs.Runs.{tokens_listed}
use Rattle.rx_paint.proofs.painting.paint.Goals as goal

pub loop-step-init : goal.loop-step-init
loop-step-init c =
    let p = mirror c.args.pattern.now in
    let root = root_token p in
    sym (tokens_listed root _ (tokens_nested p c.requires))
    ∙ ap (tokens_left p.0.start root p.0.start root) (sym (first_edges _ _ _ _ root p.0.end c.new-left.ensures c.in_ok-push.ensures.ok c.in_ok-push-2.ensures.ok))
    ∙ ap (λ ts. ts ++ tokens_left p.0.start root p.0.start root (edges_to_come c.push-2.new.self)) (sym c.new-tokens.ensures)

pub loop-step-smaller-in-Turn : goal.loop-step-smaller-in-Turn
loop-step-smaller-in-Turn c = turn_weight _ c.pop.new.self _ _ (c.in-Some.ensures ∙ ap (λ s. c.pop.new.self ++ (s ∷ [])) c.in-Turn.is)

pub loop-step-preserved-in-Turn : goal.loop-step-preserved-in-Turn
loop-step-preserved-in-Turn c =
    let b = c.loop-step.brush in
    c.loop-step.invariant ∙ ap (λ es. c.loop-step.tokens ++ tokens_left b.from b.owner b.at b.next es) (turn_edges _ c.pop.new.self _ _ (c.in-Some.ensures ∙ ap (λ s. c.pop.new.self ++ (s ∷ [])) c.in-Turn.is)) ∙ sym (c.in_ok-brush-in-Turn.ensures (edges_to_come c.pop.new.self))

pub loop-step-smaller-in_default-split_first : goal.loop-step-smaller-in_default-split_first
loop-step-smaller-in_default-split_first c = none_weight _ c.pop.new.self _ _ (c.in-Some.ensures ∙ ap (λ s. c.pop.new.self ++ (s ∷ [])) c.in-Visit.is)

pub loop-step-preserved-in_default-split_first : goal.loop-step-preserved-in_default-split_first
loop-step-preserved-in_default-split_first c =
    let b = c.loop-step.brush in
    c.loop-step.invariant ∙ ap (λ es. c.loop-step.tokens ++ tokens_left b.from b.owner b.at b.next es) (none_edges _ c.pop.new.self _ _ (c.in-Some.ensures ∙ ap (λ s. c.pop.new.self ++ (s ∷ [])) c.in-Visit.is) c.in_default-split_first.ensures)

pub loop-step-smaller : goal.loop-step-smaller
loop-step-smaller c = next_weight _ c.pop.new.self _ _ _ _ _ _ (c.in-Some.ensures ∙ ap (λ s. c.pop.new.self ++ (s ∷ [])) c.in-Visit.is) c.in-Some-split_first.ensures c.in_ok-push-in-Visit.ensures.ok c.in_ok-open-in-Visit.ensures.lighter

pub loop-step-preserved : goal.loop-step-preserved
loop-step-preserved c =
    let b = c.loop-step.brush in
    c.loop-step.invariant ∙ ap (λ es. c.loop-step.tokens ++ tokens_left b.from b.owner b.at b.next es) (next_edges _ c.pop.new.self _ _ _ _ _ _ (c.in-Some.ensures ∙ ap (λ s. c.pop.new.self ++ (s ∷ [])) c.in-Visit.is) c.in-Some-split_first.ensures c.in_ok-push-in-Visit.ensures.ok c.in_ok-open-in-Visit.ensures.edges)

pub returns : goal.returns
returns c =
    let b = c.loop-step.brush in
    c.in_ok-list_run.ensures ∙ sym (c.loop-step.invariant ∙ ap (λ left. c.loop-step.tokens ++ tokens_left b.from b.owner b.at b.next (edges_to_come left)) c.in_default.ensures.0 ∙ ap (λ es. c.loop-step.tokens ++ tokens_left b.from b.owner b.at b.next es) none_to_come)
