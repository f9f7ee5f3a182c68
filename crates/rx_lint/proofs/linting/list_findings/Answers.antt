use Rattle.std.proofs.Common.{◌≡◌, refl, subst, ℕ, Option, List, [], ◌∷◌, ◌++◌, Bor}
use Rattle.std.specs.Option.{MatchOption}
use Rattle.rx_ast.specs.Tree.{mirror}
use Rattle.rx_lint.proofs.Loop.{listed_first, listed_past, listed_next, listed_all, rows_cut, some_row, fewer_past, fewer_next}
use Rattle.rx_lint.proofs.linting.list_findings.Goals as goal

pub loop-step-init : goal.loop-step-init
loop-step-init c = listed_first c.args.pattern.now _ _ _ _ _ c.new-left.ensures c.in_ok-push.ensures.ok refl c.new-findings.ensures c.requires.rows

pub loop-step-smaller-in_default-split_first : goal.loop-step-smaller-in_default-split_first
loop-step-smaller-in_default-split_first c = fewer_past _ c.pop.new.self _ c.in-Some.ensures c.in_default-split_first.ensures

pub loop-step-preserved-in_default-split_first : goal.loop-step-preserved-in_default-split_first
loop-step-preserved-in_default-split_first c = listed_past _ _ _ c.in-Some.ensures c.in_default-split_first.ensures c.loop-step.invariant

pub unwrap-row-requires : goal.unwrap-row-requires
unwrap-row-requires c =
    some_row c.loop-step.rows c.pop-in-Some.new.self _ _ c.pop-in-Some.result (rows_cut _ c.pop.new.self _ _ c.children_of-within.result _ c.in-Some.ensures c.in-Some-split_first.ensures c.children_of-within.ensures c.loop-step.invariant) c.pop-in-Some.ensures

pub loop-step-smaller : goal.loop-step-smaller
loop-step-smaller c = fewer_next _ c.pop.new.self _ _ _ _ _ _ c.in-Some.ensures c.in-Some-split_first.ensures c.in_ok-push-2.ensures.ok c.in_ok-push-3.ensures.ok c.children_of-within.ensures

pub loop-step-preserved : goal.loop-step-preserved
loop-step-preserved c =
    let p = mirror c.args.pattern.now in
    let rows = c.loop-step.rows in
    let fewer = c.pop-in-Some.new.self in
    let taken : rows ≡ fewer ++ (c.unwrap-row.result ∷ []) = subst (λ (r : Option (Bor (List ℕ))). MatchOption r ((rows ≡ []) × (fewer ≡ [])) (λ last. rows ≡ fewer ++ (last ∷ []))) c.unwrap-row.ensures c.pop-in-Some.ensures in
    listed_next _ c.pop.new.self _ _ c.in-Some.step c.in-Some-split_first.siblings c.children_of-within.result c.add.new.self c.new-earlier.result c.in-Some-split_first.node c.in_ok-mark.mark c.unwrap-row.result
    c.in-Some.ensures c.in-Some-split_first.ensures taken c.in_ok-mark.ensures (c.in_ok-list_found.ensures p c.requires.names) c.in_ok-push-2.ensures.ok c.in_ok-push-3.ensures.ok c.children_of-within.ensures c.new-earlier.ensures c.loop-step.invariant

pub returns : goal.returns
returns c = listed_all c.in_default.ensures.0 c.loop-step.invariant
