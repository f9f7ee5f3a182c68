use Rattle.std.proofs.Common.{◌∙◌, ◌∷◌, ◌==◌, ap, arith, drop, length-drop, ne_eqb, refl, subst, sym}
use Rattle.rx_parser.proofs.Common.{cond-false, cond-true, seen_environment, found_front, Leaf, Character, Rises, unit_kind, values}
use Rattle.rx_parser.proofs.FrontFound.{read_by_first, read_by_values, read_none}
use Rattle.rx_parser.proofs.Items.{after_first}
use Rattle.rx_parser.proofs.Looks.{looks_same, syntax_steps}
use Rattle.rx_parser.proofs.front.front_at.Goals as goal

pub returns-in_default-clause-found : goal.returns-in_default-clause-found
returns-in_default-clause-found g c = ap found_front (sym (read_none (seen_environment c.args.environment) c.args.units.now c.in_default.ensures.values))

pub returns-then-first-clause-found : goal.returns-then-first-clause-found
returns-then-first-clause-found g c =
    c.backslash_at.ensures.found ∙ ap found_front (sym (read_by_first (seen_environment c.args.environment) c.args.units.now 92 _ (c.in-Some.ensures.values ∙ ap (λ v. v ∷ values c.in-Some.following) c.if-first.true) refl))

pub returns-then-first-clause-steps : goal.returns-then-first-clause-steps
returns-then-first-clause-steps g c =
    let us = c.args.units.now in
    subst (Rises (g.C.Counter.count c.args.steps.now) (g.C.Counter.count c.backslash_at.new.steps) 0)
    (looks_same c.in-Some.following (drop 1 us) (after_first us c.in-Some.following c.in-Some.first c.in-Some.ensures.values) c.backslash_at.result) c.backslash_at.ensures.steps

pub returns-then-first-2-clause-found : goal.returns-then-first-2-clause-found
returns-then-first-2-clause-found g c = ap found_front (sym (read_by_first (seen_environment c.args.environment) c.args.units.now 91 _ (c.in-Some.ensures.values ∙ ap (λ v. v ∷ values c.in-Some.following) c.if-first-2.true) refl))

pub returns-then-is_raw-clause-found : goal.returns-then-is_raw-clause-found
returns-then-is_raw-clause-found g c =
    ap (λ k. Leaf (Character k c.in-Some.first) 1) (c.unit_kind.ensures ∙ ap unit_kind c.escape_kind.ensures)
    ∙ ap found_front (sym (read_by_values (seen_environment c.args.environment) c.args.units.now _ _ c.in-Some.ensures.values ∙ cond-true _ _ _ (sym c.is_raw.ensures.raw ∙ c.if-is_raw.true)))

pub returns-clause-found : goal.returns-clause-found
returns-clause-found g c =
    c.syntax_at.ensures.found
    ∙ ap found_front (sym (read_by_values (seen_environment c.args.environment) c.args.units.now _ _ c.in-Some.ensures.values ∙ cond-false _ _ _ (sym c.is_raw.ensures.raw ∙ c.if-is_raw.false)
    ∙ cond-false (c.in-Some.first == 92) _ _ (ne_eqb _ _ c.if-first.false) ∙ cond-false (c.in-Some.first == 91) _ _ (ne_eqb _ _ c.if-first-2.false)))

pub returns-clause-steps : goal.returns-clause-steps
returns-clause-steps g c =
    syntax_steps (drop 1 c.args.units.now) (g.C.Counter.count c.args.steps.now) (g.C.Counter.count c.is_raw.new.steps) (g.C.Counter.count c.syntax_at.new.steps) _ c.syntax_at.result
    c.is_raw.ensures.steps (omega (arith, c.in-Some.ensures.counted, length-drop 1 c.args.units.now)) c.syntax_at.ensures.steps
