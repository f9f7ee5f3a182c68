-- A tree has the tokens and the shape that it has without its spans.
use Rattle.std.proofs.Common.{◌≡◌, refl, ap, ap₂, sym, ◌∙◌, append-nil, Bool, true, Some, None, List, [], ◌∷◌, ◌++◌}
use Rattle.rx_base.specs.declared.span.Span.{Span}
use Rattle.rx_ast.specs.Forget.{nowhere, forget_leaf, forget_opener, forget_node, forget_nodes, forget_alternatives, same_kind}
use Rattle.rx_ast.specs.Tree as tree
use Rattle.rx_ast.specs.Tree.{Leaf, Node, Nodes, Alternatives, leaf, quantified, group, no_node, node, no_alternative, alternative}
use Rattle.rx_ast.proofs.Forget.{forget_class_twice, three_bits_twice}
use Rattle.rx_model.specs.declared.mode.Mode.{Mode}
use Rattle.rx_model.specs.Trees.Events.{Events, within, tokens_of, node_events, nodes_events, alternatives_events, barred_events}
use Rattle.rx_model.specs.Trees.Shapes.{leaf_takes, group_takes, takes, IsNode, AreNodes, HasAlternatives, AreAlternatives}
use Rattle.rx_model.specs.Trees.Token.{Token, class, opener, closer, bar, quantifier, ignoring, opener_of, leaf_token}
use Rattle.rx_model.proofs.Trees.Flat.{before, before-append, before_leaf, before_quantified, before_group, before_alternative}

leaf_same : (l : Leaf) → leaf_token (forget_leaf same_kind l) ≡ leaf_token l
leaf_same (tree.boundary b) = refl
leaf_same (tree.character c) = refl
leaf_same (tree.dot d) = refl
leaf_same (tree.class_escape e) = refl
leaf_same (tree.property p) = refl
leaf_same (tree.class c) = ap class (forget_class_twice same_kind same_kind c)
leaf_same m = refl

opener_same : (o : tree.Opener) → opener_of (forget_opener same_kind o) ≡ opener_of o
opener_same (tree.capturing name) = refl
opener_same (tree.ignoring None) = refl
opener_same (tree.ignoring (Some m)) = ap (λ bits. ignoring (Some (bits.enabling.0, bits.disabling.0))) (three_bits_twice m)
opener_same (tree.looking kind) = refl

alternative_same : (s : Span) (ns : Nodes) (es fs : Events) (ts : List Token) → ((ts : List Token) → before (nodes_events (forget_nodes same_kind ns)) ts ≡ before (nodes_events ns) ts) →
    before es ts ≡ before fs ts → before (within nowhere (nodes_events (forget_nodes same_kind ns)) ++ es) ts ≡ before (within s (nodes_events ns) ++ fs) ts
alternative_same s ns es fs ts here more =
    before_alternative nowhere (nodes_events (forget_nodes same_kind ns)) es ts
    ∙ here (before es ts) ∙ ap (before (nodes_events ns)) more
    ∙ sym (before_alternative s (nodes_events ns) fs ts)

mutual
  node_same : (n : Node) (ts : List Token) → before (node_events (forget_node same_kind n)) ts ≡ before (node_events n) ts
  node_same (leaf l) ts = before_leaf (forget_leaf same_kind l) _ ts ∙ ap (λ t. t ∷ ts) (leaf_same l) ∙ sym (before_leaf l _ ts)
  node_same (quantified s min max greedy n) ts =
      before_quantified nowhere (node_events (forget_node same_kind n)) (quantifier min max greedy) ts
      ∙ node_same n (quantifier min max greedy ∷ ts)
      ∙ sym (before_quantified s (node_events n) (quantifier min max greedy) ts)
  node_same (group s o d more) ts =
      before_group nowhere nowhere (forget_opener same_kind o) (alternatives_events (forget_alternatives same_kind more)) ts
      ∙ ap₂ (λ o ss. opener o ∷ ss) (opener_same o) (alternatives_same more (closer ∷ ts))
      ∙ sym (before_group s d o (alternatives_events more) ts)

  pub nodes_same : (ns : Nodes) (ts : List Token) → before (nodes_events (forget_nodes same_kind ns)) ts ≡ before (nodes_events ns) ts
  nodes_same no_node ts = refl
  nodes_same (node n ns) ts =
      before-append (node_events (forget_node same_kind n)) (nodes_events (forget_nodes same_kind ns)) ts
      ∙ node_same n (before (nodes_events (forget_nodes same_kind ns)) ts)
      ∙ ap (before (node_events n)) (nodes_same ns ts)
      ∙ sym (before-append (node_events n) (nodes_events ns) ts)

  alternatives_same : (more : Alternatives) (ts : List Token) → before (alternatives_events (forget_alternatives same_kind more)) ts ≡ before (alternatives_events more) ts
  alternatives_same no_alternative ts = refl
  alternatives_same (alternative s ns more) ts =
      alternative_same s ns (barred_events (forget_alternatives same_kind more)) (barred_events more) ts (λ ts. nodes_same ns ts) (barred_same more ts)

  barred_same : (more : Alternatives) (ts : List Token) → before (barred_events (forget_alternatives same_kind more)) ts ≡ before (barred_events more) ts
  barred_same no_alternative ts = refl
  barred_same (alternative s ns more) ts =
      ap (λ ss. bar ∷ ss) (alternative_same s ns (barred_events (forget_alternatives same_kind more)) (barred_events more) ts (λ ts. nodes_same ns ts) (barred_same more ts))

pub nodes_tokens : (ns : Nodes) → tokens_of (nodes_events (forget_nodes same_kind ns)) ≡ tokens_of (nodes_events ns)
nodes_tokens ns = sym (append-nil (tokens_of (nodes_events (forget_nodes same_kind ns)))) ∙ nodes_same ns [] ∙ append-nil (tokens_of (nodes_events ns))

module _ (mode : Mode) where
  leaf_takes_same : (l : Leaf) → leaf_takes (forget_leaf same_kind l) ≡ leaf_takes l
  leaf_takes_same (tree.boundary b) = refl
  leaf_takes_same (tree.character c) = refl
  leaf_takes_same (tree.dot d) = refl
  leaf_takes_same (tree.class_escape e) = refl
  leaf_takes_same (tree.property p) = refl
  leaf_takes_same (tree.class c) = refl
  leaf_takes_same (tree.indexed r) = refl
  leaf_takes_same (tree.named r) = refl

  takes_same : (n : Node) → takes mode (forget_node same_kind n) ≡ takes mode n
  takes_same (leaf l) = leaf_takes_same l
  takes_same (quantified s min max greedy n) = refl
  takes_same (group s o d more) = ap (group_takes mode) (opener_same o)

  mutual
    node_shape : (n : Node) → IsNode mode (forget_node same_kind n) ≡ IsNode mode n
    node_shape (leaf l) = refl
    node_shape (quantified s min max greedy n) = ap₂ (λ (takes : Bool) (A : Type 0). (takes ≡ true) × A) (takes_same n) (node_shape n)
    node_shape (group s o d more) = some_shape more

    pub nodes_shape : (ns : Nodes) → AreNodes mode (forget_nodes same_kind ns) ≡ AreNodes mode ns
    nodes_shape no_node = refl
    nodes_shape (node n ns) = ap₂ (λ (A B : Type 0). A × B) (node_shape n) (nodes_shape ns)

    some_shape : (more : Alternatives) → HasAlternatives mode (forget_alternatives same_kind more) ≡ HasAlternatives mode more
    some_shape no_alternative = refl
    some_shape (alternative s ns more) = ap₂ (λ (A B : Type 0). A × B) (nodes_shape ns) (alternatives_shape more)

    alternatives_shape : (more : Alternatives) → AreAlternatives mode (forget_alternatives same_kind more) ≡ AreAlternatives mode more
    alternatives_shape no_alternative = refl
    alternatives_shape (alternative s ns more) = ap₂ (λ (A B : Type 0). A × B) (nodes_shape ns) (alternatives_shape more)
