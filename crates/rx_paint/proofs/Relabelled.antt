-- The spans of the tokens of a forest are the spans of its nodes.
use Rattle.std.proofs.Common.{◌≡◌, refl, ap, subst, sym, ◌∙◌, ℕ, Option, Some, None, List, [], ◌∷◌}
use Rattle.rx_base.specs.declared.span.Span.{Span}
use Rattle.rx_ast.specs.declared.leaf.Modifiers.{Modifiers}
use Rattle.rx_ast.specs.declared.leaf.Character.{Character}
use Rattle.rx_ast.specs.declared.class.ClassString.{ClassString}
use Rattle.rx_ast.specs.ClassTree as in_class
use Rattle.rx_ast.specs.ClassTree.{Member, Members, Class, no_member, member}
use Rattle.rx_ast.specs.Tree as ast
use Rattle.rx_ast.specs.Tree.{Leaf, Node, Nodes, Alternatives, Whole, leaf, quantified, group, no_node, node, no_alternative}
use Rattle.rx_ast.specs.Kinds as kinds
use Rattle.rx_paint.specs.declared.token.Token.{Token}
use Rattle.rx_ast.specs.Forest.{Forest, nothing, tree, relabel, IsNested}
use Rattle.rx_ast.specs.Parts.{node_part, part_span, characters_forest, strings_forest, member_forest, members_forest, class_forest, leaf_forest, modifiers_forest, node_forest, nodes_forest, alternatives_forest, forest, in_pattern, IsNestedPattern}
use Rattle.rx_paint.specs.Paints.{part_token}
use Rattle.rx_paint.specs.Owners.{token_span}

-- the spans of tokens
abbrev pub spans : Forest Token → Forest Span
spans f = relabel token_span f

-- nested tokens have nested spans, and the converse
pub spans_nested : (f : Forest Token) (low high : ℕ) → IsNested token_span low high f → IsNested (λ (s : Span). s) low high (spans f)
spans_nested nothing low high n = n
spans_nested (tree t inner after) low high n = (n.0, spans_nested inner _ _ n.1, spans_nested after _ high n.2)

pub nested_spans : (f : Forest Token) (low high : ℕ) → IsNested (λ (s : Span). s) low high (spans f) → IsNested token_span low high f
nested_spans nothing low high n = n
nested_spans (tree t inner after) low high n = (n.0, nested_spans inner _ _ n.1, nested_spans after _ high n.2)

characters : (cs : List Character) → characters_forest part_span cs ≡ spans (characters_forest part_token cs)
characters [] = refl
characters (c ∷ cs) = ap (tree c.span nothing) (characters cs)

strings : (ss : List ClassString) → strings_forest part_span ss ≡ spans (strings_forest part_token ss)
strings [] = refl
strings (s ∷ ss) = ap (λ f. tree s.span f (strings_forest part_span ss)) (characters s.body) ∙ ap (tree s.span (spans (characters_forest part_token s.body))) (strings ss)

mutual
  of_member : (m : Member) (after : Forest Token) → member_forest part_span m (spans after) ≡ spans (member_forest part_token m after)
  of_member (in_class.range r) after = refl
  of_member (in_class.escape e) after = refl
  of_member (in_class.property p) after = refl
  of_member (in_class.character c) after = refl
  of_member (in_class.nested c) after = of_class c after
  of_member (in_class.strings d) after = ap (λ f. tree d.span f (spans after)) (strings d.body)

  of_members : (ms : Members) → members_forest part_span ms ≡ spans (members_forest part_token ms)
  of_members no_member = refl
  of_members (member m ms) = ap (member_forest part_span m) (of_members ms) ∙ of_member m (members_forest part_token ms)

  of_class : (c : Class) (after : Forest Token) → class_forest part_span c (spans after) ≡ spans (class_forest part_token c after)
  of_class (in_class.class s negative may_have_strings kind ms) after = ap (λ f. tree s f (spans after)) (of_members ms)

of_leaf : (l : Leaf) (after : Forest Token) → leaf_forest part_span l (spans after) ≡ spans (leaf_forest part_token l after)
of_leaf (ast.boundary b) after = refl
of_leaf (ast.character c) after = refl
of_leaf (ast.dot d) after = refl
of_leaf (ast.class_escape e) after = refl
of_leaf (ast.property p) after = refl
of_leaf (ast.class c) after = of_class c after
of_leaf (ast.indexed r) after = refl
of_leaf (ast.named r) after = refl

of_modifiers : (m : Option Modifiers) (after : Forest Token) → modifiers_forest part_span m (spans after) ≡ spans (modifiers_forest part_token m after)
of_modifiers None after = refl
of_modifiers (Some m) after = refl

mutual
  of_node : (n : Node) (after : Forest Token) → node_forest part_span n (spans after) ≡ spans (node_forest part_token n after)
  of_node (leaf l) after = of_leaf l after
  of_node (quantified s min max greedy n) after = ap (λ f. tree s f (spans after)) (of_node n nothing)
  of_node (group s (ast.capturing name) d more) after = ap (λ f. tree s (tree d f nothing) (spans after)) (of_alternatives more)
  of_node (group s (ast.ignoring m) d more) after =
      let body = tree (part_token (node_part (kinds.disjunction (d, more)))) (alternatives_forest part_token more) nothing in
      ap (λ f. tree s (modifiers_forest part_span m (tree d f nothing)) (spans after)) (of_alternatives more) ∙ ap (λ f. tree s f (spans after)) (of_modifiers m body)
  of_node (group s (ast.looking kind) d more) after = ap (λ f. tree s (tree d f nothing) (spans after)) (of_alternatives more)

  of_nodes : (ns : Nodes) → nodes_forest part_span ns ≡ spans (nodes_forest part_token ns)
  of_nodes no_node = refl
  of_nodes (node n ns) = ap (node_forest part_span n) (of_nodes ns) ∙ of_node n (nodes_forest part_token ns)

  of_alternatives : (more : Alternatives) → alternatives_forest part_span more ≡ spans (alternatives_forest part_token more)
  of_alternatives no_alternative = refl
  of_alternatives (ast.alternative s ns more) =
      ap (λ f. tree s f (alternatives_forest part_span more)) (of_nodes ns) ∙ ap (tree s (spans (nodes_forest part_token ns))) (of_alternatives more)

of_pattern : (p : Whole) → in_pattern part_span p ≡ spans (in_pattern part_token p)
unfolding forest
of_pattern p = ap (λ f. tree p.1.0 f nothing) (of_alternatives p.1.1)

-- A pattern is nested exactly where its tokens are.
pub tokens_nested : (p : Whole) → IsNestedPattern p → IsNested token_span p.0.start p.0.end (in_pattern part_token p)
tokens_nested p n = nested_spans (in_pattern part_token p) _ _ (subst (IsNested (λ (s : Span). s) p.0.start p.0.end) (of_pattern p) n)

pub pattern_nested : (p : Whole) → IsNested token_span p.0.start p.0.end (in_pattern part_token p) → IsNestedPattern p
pattern_nested p n = subst (IsNested (λ (s : Span). s) p.0.start p.0.end) (sym (of_pattern p)) (spans_nested (in_pattern part_token p) _ _ n)
