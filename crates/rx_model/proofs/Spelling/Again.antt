-- The tree that a canonical text is read as: each character has the kind that the text gives it, and all else is kept. As in the text, a flag says
-- whether an unquantified indexed reference stands right before.
use Rattle.std.proofs.Common.{◌≡◌, ◌+◌, refl, ap, sym, ◌∙◌, subst, Bool, false, List, ◌∷◌, ◌++◌}
use Rattle.rx_base.specs.declared.span.Span.{Span}
use Rattle.rx_ast.specs.declared.leaf.Character.{Character}
use Rattle.rx_ast.specs.Forget.{nowhere, forget_leaf, forget_opener, forget_node, forget_nodes, forget_alternatives, no_kind}
use Rattle.rx_ast.specs.Tree as tree
use Rattle.rx_ast.specs.Tree.{Leaf, Node, Nodes, Alternatives, leaf, quantified, group, no_node, node, no_alternative, alternative}
use Rattle.rx_model.specs.declared.mode.Mode.{Mode}
use Rattle.rx_model.specs.Trees.Events.{Events, within, node_events, nodes_events, alternatives_events, barred_events}
use Rattle.rx_model.specs.Trees.Names.{opener_groups, opener_names, node_groups, nodes_groups, alternatives_groups, node_names, nodes_names, alternatives_names, AreApart, IsNodeApart, AreNodesApart, AreAlternativesApart}
use Rattle.rx_model.specs.Trees.Shapes.{leaf_takes, takes, IsNode, AreNodes, HasAlternatives, AreAlternatives}
use Rattle.rx_model.specs.Spelling.Spelling.{leaf_refers, refers}
use Rattle.rx_model.specs.Trees.Token.{Token, class, opener, closer, bar, quantifier, opener_of, leaf_token}
use Rattle.rx_model.proofs.Spelling.Backs.{spelled_kind}
use Rattle.rx_model.proofs.Spelling.BackRows.{again_tokens}
use Rattle.rx_model.proofs.Spelling.ClassAgain.{again_class, bare_class, unspanned_class}
use Rattle.rx_model.proofs.Trees.Flat.{before, before-append, before_leaf, before_quantified, before_group, before_alternative}

module _ (mode : Mode) where
  abbrev pub again_character : Bool → Character → Character
  again_character after_reference c = record { span = c.span; kind = spelled_kind mode after_reference c.value; value = c.value }

  abbrev pub again_leaf : Bool → Leaf → Leaf
  again_leaf after_reference (tree.boundary b) = tree.boundary b
  again_leaf after_reference (tree.character c) = tree.character (again_character after_reference c)
  again_leaf after_reference (tree.dot d) = tree.dot d
  again_leaf after_reference (tree.class_escape e) = tree.class_escape e
  again_leaf after_reference (tree.property p) = tree.property p
  again_leaf after_reference (tree.class c) = tree.class (again_class mode c)
  again_leaf after_reference (tree.indexed r) = tree.indexed r
  again_leaf after_reference (tree.named r) = tree.named r

  abbrev mutual
    pub again_node : Bool → Node → Node
    again_node after_reference (leaf l) = leaf (again_leaf after_reference l)
    again_node after_reference (quantified s min max greedy n) = quantified s min max greedy (again_node after_reference n)
    again_node after_reference (group s o d more) = group s o d (again_alternatives more)

    pub again_nodes : Bool → Nodes → Nodes
    again_nodes after_reference no_node = no_node
    again_nodes after_reference (node n ns) = node (again_node after_reference n) (again_nodes (refers n) ns)

    pub again_alternatives : Alternatives → Alternatives
    again_alternatives no_alternative = no_alternative
    again_alternatives (alternative s ns more) = alternative s (again_nodes false ns) (again_alternatives more)

  -- the bare tree is the same

  bare_leaf : (r : Bool) (l : Leaf) → forget_leaf no_kind (again_leaf r l) ≡ forget_leaf no_kind l
  bare_leaf r (tree.boundary b) = refl
  bare_leaf r (tree.character c) = refl
  bare_leaf r (tree.dot d) = refl
  bare_leaf r (tree.class_escape e) = refl
  bare_leaf r (tree.property p) = refl
  bare_leaf r (tree.class c) = ap tree.class (bare_class mode c)
  bare_leaf r m = refl

  mutual
    bare_node : (r : Bool) (n : Node) → forget_node no_kind (again_node r n) ≡ forget_node no_kind n
    bare_node r (leaf l) = ap (λ k. leaf k) (bare_leaf r l)
    bare_node r (quantified s min max greedy n) = ap (λ k. quantified nowhere min max greedy k) (bare_node r n)
    bare_node r (group s o d more) = ap (λ rest. group nowhere (forget_opener no_kind o) nowhere rest) (bare_alternatives more)

    bare_nodes : (r : Bool) (ns : Nodes) → forget_nodes no_kind (again_nodes r ns) ≡ forget_nodes no_kind ns
    bare_nodes r no_node = refl
    bare_nodes r (node n ns) =
        ap (λ m. node m (forget_nodes no_kind (again_nodes (refers n) ns))) (bare_node r n) ∙ ap (λ rest. node (forget_node no_kind n) rest) (bare_nodes (refers n) ns)

    pub bare_alternatives : (more : Alternatives) → forget_alternatives no_kind (again_alternatives more) ≡ forget_alternatives no_kind more
    bare_alternatives no_alternative = refl
    bare_alternatives (alternative s ns more) =
        ap (λ ms. alternative nowhere ms (forget_alternatives no_kind (again_alternatives more))) (bare_nodes false ns)
        ∙ ap (λ rest. alternative nowhere (forget_nodes no_kind ns) rest) (bare_alternatives more)

  -- the tokens are those that the text is read as

  leaf_again : (r : Bool) (l : Leaf) (ts : List Token) → leaf_token (again_leaf r l) ∷ again_tokens mode (leaf_refers l) ts ≡ again_tokens mode r (leaf_token l ∷ ts)
  leaf_again r (tree.boundary b) ts = refl
  leaf_again r (tree.character c) ts = refl
  leaf_again r (tree.dot d) ts = refl
  leaf_again r (tree.class_escape e) ts = refl
  leaf_again r (tree.property p) ts = refl
  leaf_again r (tree.class c) ts = ap (λ c. class c ∷ again_tokens mode false ts) (unspanned_class mode c)
  leaf_again r m ts = refl

  -- The tokens of the first events are those of the second, read again, whatever follows.
  abbrev IsAgain : Bool → Events → Events → Type 0
  IsAgain r fs es = (q : Bool) × ((ts : List Token) → before fs (again_tokens mode q ts) ≡ again_tokens mode r (before es ts))

  alternative_again : (s : Span) (fs gs es hs : Events) (r : Bool) → IsAgain r fs es → ((q : Bool) → IsAgain q gs hs) → IsAgain r (within s fs ++ gs) (within s es ++ hs)
  alternative_again s fs gs es hs r p more =
      let m = more p.0 in (
        m.0,
        λ ts. before_alternative s fs gs (again_tokens mode m.0 ts) ∙ ap (before fs) (m.1 ts) ∙ p.1 (before hs ts)
            ∙ sym (ap (again_tokens mode r) (before_alternative s es hs ts)),
      )

  mutual
    node_again : (n : Node) (r : Bool) (ts : List Token) → before (node_events (again_node r n)) (again_tokens mode (refers n) ts) ≡ again_tokens mode r (before (node_events n) ts)
    node_again (leaf l) r ts =
        before_leaf (again_leaf r l) _ (again_tokens mode (leaf_refers l) ts) ∙ leaf_again r l ts ∙ sym (ap (again_tokens mode r) (before_leaf l _ ts))
    node_again (quantified s min max greedy n) r ts =
        before_quantified s (node_events (again_node r n)) (quantifier min max greedy) (again_tokens mode false ts) ∙ node_again n r (quantifier min max greedy ∷ ts)
        ∙ sym (ap (again_tokens mode r) (before_quantified s (node_events n) (quantifier min max greedy) ts))
    node_again (group s o d more) r ts =
        before_group s d o (alternatives_events (again_alternatives more)) (again_tokens mode false ts) ∙ ap (λ ss. opener (opener_of o) ∷ ss) ((alternatives_again more).1 (closer ∷ ts))
        ∙ sym (ap (again_tokens mode r) (before_group s d o (alternatives_events more) ts))

    nodes_again : (ns : Nodes) (r : Bool) → IsAgain r (nodes_events (again_nodes r ns)) (nodes_events ns)
    nodes_again no_node r = (r, λ ts. refl)
    nodes_again (node n ns) r =
        let h = nodes_again ns (refers n) in (
          h.0,
          λ ts. before-append (node_events (again_node r n)) (nodes_events (again_nodes (refers n) ns)) (again_tokens mode h.0 ts)
              ∙ ap (before (node_events (again_node r n))) (h.1 ts)
              ∙ node_again n r (before (nodes_events ns) ts) ∙ sym (ap (again_tokens mode r) (before-append (node_events n) (nodes_events ns) ts)),
        )

    pub alternatives_again : (more : Alternatives) → IsAgain false (alternatives_events (again_alternatives more)) (alternatives_events more)
    alternatives_again no_alternative = (false, λ ts. refl)
    alternatives_again (alternative s ns more) =
        alternative_again s (nodes_events (again_nodes false ns)) (barred_events (again_alternatives more)) (nodes_events ns) (barred_events more) false
        (nodes_again ns false) (λ q. barred_again more q)

    barred_again : (more : Alternatives) (r : Bool) → IsAgain r (barred_events (again_alternatives more)) (barred_events more)
    barred_again no_alternative r = (r, λ ts. refl)
    barred_again (alternative s ns more) r =
        let h = alternative_again s (nodes_events (again_nodes false ns)) (barred_events (again_alternatives more)) (nodes_events ns) (barred_events more) false
        (nodes_again ns false) (λ q. barred_again more q) in
        (h.0, λ ts. ap (λ ss. bar ∷ ss) (h.1 ts))

  -- the tree is as well made

  again_leaf_takes : (r : Bool) (l : Leaf) → leaf_takes (again_leaf r l) ≡ leaf_takes l
  again_leaf_takes r (tree.boundary b) = refl
  again_leaf_takes r (tree.character c) = refl
  again_leaf_takes r (tree.dot d) = refl
  again_leaf_takes r (tree.class_escape e) = refl
  again_leaf_takes r (tree.property p) = refl
  again_leaf_takes r (tree.class c) = refl
  again_leaf_takes r (tree.indexed i) = refl
  again_leaf_takes r (tree.named n) = refl

  again_takes : (r : Bool) (n : Node) → takes mode (again_node r n) ≡ takes mode n
  again_takes r (leaf l) = again_leaf_takes r l
  again_takes r q = refl

  mutual
    made_node : (r : Bool) (n : Node) → IsNode mode n → IsNode mode (again_node r n)
    made_node r (leaf l) w = tt
    made_node r (quantified s min max greedy n) w = (again_takes r n ∙ w.0, made_node r n w.1)
    made_node r (group s o d more) w = made_alternatives more w

    made_nodes : (r : Bool) (ns : Nodes) → AreNodes mode ns → AreNodes mode (again_nodes r ns)
    made_nodes r no_node w = tt
    made_nodes r (node n ns) w = (made_node r n w.0, made_nodes (refers n) ns w.1)

    pub made_alternatives : (more : Alternatives) → HasAlternatives mode more → HasAlternatives mode (again_alternatives more)
    made_alternatives no_alternative w = w
    made_alternatives (alternative s ns more) w = (made_nodes false ns w.0, made_barred more w.1)

    made_barred : (more : Alternatives) → AreAlternatives mode more → AreAlternatives mode (again_alternatives more)
    made_barred no_alternative w = tt
    made_barred (alternative s ns more) w = (made_nodes false ns w.0, made_barred more w.1)

  -- the groups and their names are the same

  mutual
    same_node_groups : (r : Bool) (n : Node) → node_groups (again_node r n) ≡ node_groups n
    same_node_groups r (leaf l) = refl
    same_node_groups r (quantified s min max greedy n) = same_node_groups r n
    same_node_groups r (group s o d more) = ap (λ k. opener_groups o + k) (same_groups more)

    same_nodes_groups : (r : Bool) (ns : Nodes) → nodes_groups (again_nodes r ns) ≡ nodes_groups ns
    same_nodes_groups r no_node = refl
    same_nodes_groups r (node n ns) = rw (same_node_groups r n, same_nodes_groups (refers n) ns) refl

    pub same_groups : (more : Alternatives) → alternatives_groups (again_alternatives more) ≡ alternatives_groups more
    same_groups no_alternative = refl
    same_groups (alternative s ns more) = rw (same_nodes_groups false ns, same_groups more) refl

  mutual
    same_node_names : (r : Bool) (n : Node) → node_names (again_node r n) ≡ node_names n
    same_node_names r (leaf l) = refl
    same_node_names r (quantified s min max greedy n) = same_node_names r n
    same_node_names r (group s o d more) = ap (λ names. opener_names o ++ names) (same_names more)

    same_nodes_names : (r : Bool) (ns : Nodes) → nodes_names (again_nodes r ns) ≡ nodes_names ns
    same_nodes_names r no_node = refl
    same_nodes_names r (node n ns) = rw (same_node_names r n, same_nodes_names (refers n) ns) refl

    pub same_names : (more : Alternatives) → alternatives_names (again_alternatives more) ≡ alternatives_names more
    same_names no_alternative = refl
    same_names (alternative s ns more) = rw (same_nodes_names false ns, same_names more) refl

  mutual
    apart_node : (r : Bool) (n : Node) → IsNodeApart n → IsNodeApart (again_node r n)
    apart_node r (leaf l) h = tt
    apart_node r (quantified s min max greedy n) h = apart_node r n h
    apart_node r (group s o d more) h = (subst (AreApart (opener_names o)) (sym (same_names more)) h.0, apart_alternatives more h.1)

    apart_nodes : (r : Bool) (ns : Nodes) → AreNodesApart ns → AreNodesApart (again_nodes r ns)
    apart_nodes r no_node h = tt
    apart_nodes r (node n ns) h = (
      subst (λ names. AreApart names (nodes_names (again_nodes (refers n) ns))) (sym (same_node_names r n)) (subst (AreApart (node_names n)) (sym (same_nodes_names (refers n) ns)) h.0),
      apart_node r n h.1,
      apart_nodes (refers n) ns h.2,
    )

    pub apart_alternatives : (more : Alternatives) → AreAlternativesApart more → AreAlternativesApart (again_alternatives more)
    apart_alternatives no_alternative h = tt
    apart_alternatives (alternative s ns more) h = (apart_nodes false ns h.0, apart_alternatives more h.1)
