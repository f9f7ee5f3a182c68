-- What a walk knows of the beginnings and ends of nodes.
use Rattle.std.proofs.Common.{◌≡◌, refl, ap, sym, ◌∙◌, true, false, arith, ◌↔◌, IsTrue, Option, Some, None, List, [], ◌∷◌, ◌++◌}
use Rattle.std.specs.Option.{option_map}
use Rattle.std.proofs.lemmas.Bool.Decides.{nat_tests}
use Rattle.rx_ast.specs.declared.leaf.Modifiers.{Modifiers}
use Rattle.rx_ast.specs.Kinds as kinds
use Rattle.rx_ast.specs.Kinds.{kind_span, children}
use Rattle.rx_ast.specs.Tree.{Whole}
use Rattle.rx_visit.specs.Visits.{Visited, VisitedAll, descend, pass, none, next}
use Rattle.rx_paint.specs.declared.nesting.Nesting.{Nesting}
use Rattle.rx_paint.specs.declared.token.Kind.{Kind}
use Rattle.rx_paint.specs.declared.token.Token.{Token}
use Rattle.rx_paint.specs.NestingSteps.{move_to, after_modifiers, after_enter, after_leave, Enters, Leaves}
use Rattle.rx_paint.proofs.Relabelled.{tokens_nested, pattern_nested}
use Rattle.rx_ast.specs.Forest.{Forest, nothing}
use Rattle.rx_ast.specs.Parts.{modifiers_forest, modifiers_in, in_pattern, IsNestedPattern}
use Rattle.rx_paint.specs.Paints.{token_of, own_paint, part_token, root_token, token_forest, token_forest_of_all}
use Rattle.rx_paint.specs.Edges.{Edge, edges}
use Rattle.rx_paint.proofs.Parts.{node_forest_as, forest_is, edges_all}
use Rattle.rx_paint.proofs.Runs.{IsRising, rises, nested_from_rising}

-- the edges are passed
abbrev after_edges : Nesting → List Edge → Nesting
after_edges v [] = v
after_edges v (e ∷ es) = after_edges (move_to v e.0) es

after_both : (v : Nesting) (xs ys : List Edge) → after_edges v (xs ++ ys) ≡ after_edges (after_edges v xs) ys
after_both v [] ys = refl
after_both v (e ∷ es) ys = after_both (move_to v e.0) es ys

modifiers_first : (m : Option Modifiers) (own : Token) (f : Forest Token) (v : Nesting) → after_edges v (edges own (modifiers_forest part_token m f)) ≡ after_edges (after_modifiers (option_map (λ m. m.span) m) v) (edges own f)
modifiers_first None own f v = refl
modifiers_first (Some m) own f v = refl

-- a node and what is in it
whole_node : (k : kinds.Kind) (o : Option Kind) (v n : Nesting) (parent : Token) → own_paint k ≡ o →
    ((own : Token) → n ≡ after_edges (after_enter o (option_map (λ m. m.span) (modifiers_in k)) (kind_span k) v) (edges own (token_forest_of_all (children k) nothing))) →
    after_leave o (kind_span k) n ≡ after_edges v (edges parent (token_forest k nothing))
whole_node k None v n parent is inner = inner parent ∙ ap (λ f. after_edges v (edges parent f)) (sym (forest_is k nothing ∙ ap (λ o. node_forest_as k o nothing) is))
whole_node k (Some c) v n parent is inner =
    let own = token_of (kind_span k) c in
    let f = token_forest_of_all (children k) nothing in
    let s = move_to v (kind_span k).start in
    ap (λ n. move_to n (kind_span k).end) (inner own ∙ sym (modifiers_first (modifiers_in k) own f s))
    ∙ sym (after_both s (edges own (modifiers_forest part_token (modifiers_in k) f)) (((kind_span k).end, parent) ∷ []))
    ∙ ap (λ f. after_edges v (edges parent f)) (sym (forest_is k nothing ∙ ap (λ o. node_forest_as k o nothing) is))

mutual
  pub nesting_visit : (v : Nesting) (k : kinds.Kind) (w : Nesting) → Visited Enters Leaves v k w → (parent : Token) → w ≡ after_edges v (edges parent (token_forest k nothing))
  nesting_visit v k w (descend _ _ m n _ enters visits leaves) parent =
      leaves ∙ whole_node k (own_paint k) v n parent refl (λ own. nesting_visits m (children k) n visits own ∙ ap (λ m. after_edges m (edges own (token_forest_of_all (children k) nothing))) enters.1)
  nesting_visit v k w (pass _ _ m _ enters leaves) parent = let no : false ≡ true = enters.0 in cc

  nesting_visits : (v : Nesting) (ks : List kinds.Kind) (w : Nesting) → VisitedAll Enters Leaves v ks w → (parent : Token) → w ≡ after_edges v (edges parent (token_forest_of_all ks nothing))
  nesting_visits v _ _ (none _) parent = refl
  nesting_visits v _ w (next _ k m ks _ first others) parent =
      nesting_visits m ks w others parent ∙ ap (λ m. after_edges m (edges parent (token_forest_of_all ks nothing))) (nesting_visit v k m first parent)
      ∙ sym (after_both v (edges parent (token_forest k nothing)) (edges parent (token_forest_of_all ks nothing)))
      ∙ ap (after_edges v) (sym (edges_all (k ∷ []) (token_forest_of_all ks nothing) parent))

rising_is : (es : List Edge) (v : Nesting) → (after_edges v es).in_order ≡ true → (v.in_order ≡ true) × IsRising v.at es
rising_is [] v is = (is, tt)
rising_is (e ∷ es) v is =
    let more = rising_is es (move_to v e.0) is in
    let both = more.0 in
    (grind (arith, nat_tests), (grind (arith, nat_tests), more.1))

is_rising : (es : List Edge) (v : Nesting) → v.in_order ≡ true → IsRising v.at es → (after_edges v es).in_order ≡ true
is_rising [] v is r = is
is_rising (e ∷ es) v is r =
    let le = r.0 in
    is_rising es (move_to v e.0) (grind (arith, nat_tests)) r.1

-- what the walk of a pattern tells
pub walk_tells : (p : Whole) (w : Nesting) → Visited Enters Leaves (record { at = p.0.start; in_order = true }) (kinds.pattern p) w → IsTrue w.in_order ↔ IsNestedPattern p
walk_tells p w visits =
    let root = root_token p in
    let start : Nesting = record { at = p.0.start; in_order = true } in
    let f = in_pattern part_token p in
    let all = nesting_visit _ (kinds.pattern p) w visits root in
    let es = edges root f ++ ((p.0.end, root) ∷ []) in
    let whole : w ≡ after_edges (move_to start p.0.start) es = all ∙ ap (λ f. after_edges start (edges root f)) (forest_is (kinds.pattern p) nothing) in (
      λ yes. pattern_nested p (nested_from_rising f p.0.start p.0.end root root (rising_is es (move_to start p.0.start) (ap (λ w. w.in_order) (sym whole) ∙ yes)).1),
      λ nested. ap (λ w. w.in_order) whole ∙ is_rising es (move_to start p.0.start) (grind (arith, nat_tests)) (rises f p.0.start p.0.end root root (tokens_nested p nested)),
    )
