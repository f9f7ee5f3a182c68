-- The tokens of a well made tree tell the tree but for spans: a stack machine builds it from them.
use Rattle.std.proofs.Common.{◌≡◌, refl, ap, sym, ◌∙◌, ℕ, Bool, Option, Some, None, List, [], ◌∷◌, append-nil}
use Rattle.rx_ast.specs.declared.leaf.Modifiers.{Modifiers}
use Rattle.rx_ast.specs.declared.term.Pattern.{Pattern}
use Rattle.rx_ast.specs.Forget.{nowhere, forget_leaf, forget_opener, forget_node, forget_nodes, forget_alternatives, same_kind, without_spans}
use Rattle.rx_ast.specs.Tree as tree
use Rattle.rx_ast.specs.Tree.{Leaf, Node, Nodes, Alternatives, leaf, quantified, group, no_node, node, no_alternative, alternative, mirror_disjunction}
use Rattle.rx_model.specs.declared.mode.Mode.{Mode}
use Rattle.rx_model.specs.Trees.Token.{Token, Opener, boundary, character, dot, class_escape, property, class, indexed, named, opener, closer, bar, quantifier, capturing, ignoring, looking, opener_of, leaf_token}
use Rattle.rx_model.specs.Trees.Events.{Events, tokens_of, node_events, nodes_events, alternatives_events, barred_events, tokens}
use Rattle.rx_model.specs.Trees.Shapes.{IsNode, AreNodes, HasAlternatives, AreAlternatives, IsWellMade}
use Rattle.rx_model.proofs.Trees.Flat.{before, before-append, before_leaf, before_quantified, before_group, before_alternative, tokens_are}

-- the first in turned order, in front of the second
abbrev pub onto : Nodes → Nodes → Nodes
onto no_node ms = ms
onto (node n ns) ms = onto ns (node n ms)

abbrev joined : Nodes → Nodes → Nodes
joined no_node ms = ms
joined (node n ns) ms = node n (joined ns ms)

abbrev pub alternatives_onto : Alternatives → Alternatives → Alternatives
alternatives_onto no_alternative more = more
alternatives_onto (alternative s ns rest) more = alternatives_onto rest (alternative s ns more)

onto-onto : (ns ms ls : Nodes) → onto (onto ns ms) ls ≡ onto ms (joined ns ls)
onto-onto no_node ms ls = refl
onto-onto (node n ns) ms ls = onto-onto ns (node n ms) ls

joined_none : (ns : Nodes) → joined ns no_node ≡ ns
joined_none no_node = refl
joined_none (node n ns) = ap (λ ms. node n ms) (joined_none ns)

turned_twice : (ns : Nodes) → onto (onto ns no_node) no_node ≡ ns
turned_twice ns = onto-onto ns no_node no_node ∙ joined_none ns

-- An open group: what it began with, and what stood before it, the last first.
pub record Waiting : Type 0 where
  pub begun : tree.Opener
  pub alternatives : Alternatives
  pub nodes : Nodes

-- the open groups, the innermost first, and what has been read in it, the last first
pub record State : Type 0 where
  pub waiting : List Waiting
  pub alternatives : Alternatives
  pub nodes : Nodes

abbrev pub at : List Waiting → Alternatives → Nodes → State
at waiting more ns = record { waiting = waiting; alternatives = more; nodes = ns }

-- the disjunction that ends here
abbrev pub ended : Alternatives → Nodes → Alternatives
ended more ns = alternatives_onto more (alternative nowhere (onto ns no_node) no_alternative)

abbrev some_bits : ℕ × ℕ → Modifiers
some_bits b = record { span = nowhere; enabling = record { 0 = b.0 }; disabling = record { 0 = b.1 } }

abbrev pub opener_tree : Opener → tree.Opener
opener_tree (capturing name) = tree.capturing name
opener_tree (ignoring None) = tree.ignoring None
opener_tree (ignoring (Some b)) = tree.ignoring (Some (some_bits b))
opener_tree (looking kind) = tree.looking kind

opener_tree_of : (o : tree.Opener) → opener_tree (opener_of o) ≡ forget_opener same_kind o
opener_tree_of (tree.capturing name) = refl
opener_tree_of (tree.ignoring None) = refl
opener_tree_of (tree.ignoring (Some m)) = refl
opener_tree_of (tree.looking kind) = refl

abbrev push : Leaf → State → State
push l s = at s.waiting s.alternatives (node (leaf l) s.nodes)

abbrev pub close : List Waiting → Alternatives → Nodes → State
close [] more ns = at [] more ns
close (w ∷ waiting) more ns = at waiting w.alternatives (node (group nowhere w.begun nowhere (ended more ns)) w.nodes)

abbrev pub quantify : ℕ → Option ℕ → Bool → List Waiting → Alternatives → Nodes → State
quantify min max greedy waiting more no_node = at waiting more no_node
quantify min max greedy waiting more (node n ns) = at waiting more (node (quantified nowhere min max greedy n) ns)

abbrev pub step : Token → State → State
step (boundary kind) s = push (tree.boundary (record { span = nowhere; kind = kind })) s
step (character kind value) s = push (tree.character (record { span = nowhere; kind = kind; value = value })) s
step dot s = push (tree.dot (record { span = nowhere })) s
step (class_escape kind) s = push (tree.class_escape (record { span = nowhere; kind = kind })) s
step (property negative strings name value) s = push (tree.property (record { span = nowhere; negative = negative; strings = strings; name = name; value = value })) s
step (class c) s = push (tree.class c) s
step (indexed n) s = push (tree.indexed (record { span = nowhere; index = n })) s
step (named name) s = push (tree.named (record { span = nowhere; name = name })) s
step (opener o) s = at (record { begun = opener_tree o; alternatives = s.alternatives; nodes = s.nodes } ∷ s.waiting) no_alternative no_node
step closer s = close s.waiting s.alternatives s.nodes
step bar s = at s.waiting (alternative nowhere (onto s.nodes no_node) s.alternatives) no_node
step (quantifier min max greedy) s = quantify min max greedy s.waiting s.alternatives s.nodes

abbrev pub build : List Token → State → State
build [] s = s
build (t ∷ ts) s = build ts (step t s)

leaf_step : (l : Leaf) (waiting : List Waiting) (more : Alternatives) (ns : Nodes) →
    step (leaf_token l) (at waiting more ns) ≡ at waiting more (node (leaf (forget_leaf same_kind l)) ns)
leaf_step (tree.boundary b) waiting more ns = refl
leaf_step (tree.character c) waiting more ns = refl
leaf_step (tree.dot d) waiting more ns = refl
leaf_step (tree.class_escape e) waiting more ns = refl
leaf_step (tree.property p) waiting more ns = refl
leaf_step (tree.class c) waiting more ns = refl
leaf_step (tree.indexed r) waiting more ns = refl
leaf_step (tree.named r) waiting more ns = refl

-- From here the events lead to the end of a disjunction with these alternatives.
abbrev Leads : Events → List Waiting → Alternatives → Nodes → Alternatives → Type 0
Leads es waiting more ns all =
    (last : Alternatives) × (ms : Nodes) × (ended last ms ≡ all) × ((ts : List Token) → build (before es ts) (at waiting more ns) ≡ build ts (at waiting last ms))

module _ (mode : Mode) where
  mutual
    node_builds : (n : Node) → IsNode mode n → (ts : List Token) (waiting : List Waiting) (more : Alternatives) (ns : Nodes) →
        build (before (node_events n) ts) (at waiting more ns) ≡ build ts (at waiting more (node (forget_node same_kind n) ns))
    node_builds (leaf l) w ts waiting more ns = ap (λ ss. build ss (at waiting more ns)) (before_leaf l _ ts) ∙ ap (build ts) (leaf_step l waiting more ns)
    node_builds (quantified s min max greedy n) w ts waiting more ns =
        ap (λ ss. build ss (at waiting more ns)) (before_quantified s (node_events n) (quantifier min max greedy) ts)
        ∙ node_builds n w.1 (quantifier min max greedy ∷ ts) waiting more ns
    node_builds (group s o d inner) w ts waiting more ns =
        let h = alternatives_build inner w (record { begun = opener_tree (opener_of o); alternatives = more; nodes = ns } ∷ waiting) in
        ap (λ ss. build ss (at waiting more ns)) (before_group s d o (alternatives_events inner) ts)
        ∙ h.3 (closer ∷ ts)
        ∙ ap (λ all. build ts (at waiting more (node (group nowhere (opener_tree (opener_of o)) nowhere all) ns))) h.2
        ∙ ap (λ it. build ts (at waiting more (node (group nowhere it nowhere (forget_alternatives same_kind inner)) ns))) (opener_tree_of o)

    nodes_build : (ns : Nodes) → AreNodes mode ns → (ts : List Token) (waiting : List Waiting) (more : Alternatives) (ms : Nodes) →
        build (before (nodes_events ns) ts) (at waiting more ms) ≡ build ts (at waiting more (onto (forget_nodes same_kind ns) ms))
    nodes_build no_node w ts waiting more ms = refl
    nodes_build (node n ns) w ts waiting more ms =
        ap (λ ss. build ss (at waiting more ms)) (before-append (node_events n) (nodes_events ns) ts)
        ∙ node_builds n w.0 (before (nodes_events ns) ts) waiting more ms
        ∙ nodes_build ns w.1 ts waiting more (node (forget_node same_kind n) ms)

    alternatives_build : (more : Alternatives) → HasAlternatives mode more → (waiting : List Waiting) →
        Leads (alternatives_events more) waiting no_alternative no_node (forget_alternatives same_kind more)
    alternatives_build no_alternative w waiting = absurd w
    alternatives_build (alternative s ns more) w waiting =
        let h = barred_build more w.1 waiting no_alternative (forget_nodes same_kind ns) in (
          h.0,
          h.1,
          h.2,
          λ ts. ap (λ ss. build ss (at waiting no_alternative no_node)) (before_alternative s (nodes_events ns) (barred_events more) ts)
              ∙ nodes_build ns w.0 (before (barred_events more) ts) waiting no_alternative no_node ∙ h.3 ts,
        )

    -- after an alternative with these nodes, which the others stand before
    barred_build : (more : Alternatives) → AreAlternatives mode more → (waiting : List Waiting) (others : Alternatives) (ns : Nodes) →
        Leads (barred_events more) waiting others (onto ns no_node) (alternatives_onto others (alternative nowhere ns (forget_alternatives same_kind more)))
    barred_build no_alternative w waiting others ns =
        (others, onto ns no_node, ap (λ ms. alternatives_onto others (alternative nowhere ms no_alternative)) (turned_twice ns), λ ts. refl)
    barred_build (alternative s ms more) w waiting others ns =
        let h = barred_build more w.1 waiting (alternative nowhere ns others) (forget_nodes same_kind ms) in (
          h.0,
          h.1,
          h.2,
          λ ts. ap (λ ss. build (bar ∷ ss) (at waiting others (onto ns no_node))) (before_alternative s (nodes_events ms) (barred_events more) ts)
              ∙ ap (λ ls. build (before (nodes_events ms) (before (barred_events more) ts)) (at waiting (alternative nowhere ls others) no_node)) (turned_twice ns)
              ∙ nodes_build ms w.0 (before (barred_events more) ts) waiting (alternative nowhere ns others) no_node ∙ h.3 ts,
        )

nodes_built : (mode : Mode) (ns : Nodes) → AreNodes mode ns → onto (build (tokens_of (nodes_events ns)) (at [] no_alternative no_node)).nodes no_node ≡ forget_nodes same_kind ns
nodes_built mode ns w =
    ap (λ ts. onto (build ts (at [] no_alternative no_node)).nodes no_node) (sym (append-nil (tokens_of (nodes_events ns))))
    ∙ ap (λ s. onto s.nodes no_node) (nodes_build mode ns w [] [] no_alternative no_node)
    ∙ turned_twice (forget_nodes same_kind ns)

-- Two alternatives with the same tokens are equal but for spans.
pub one_alternative : (mode : Mode) (ns ms : Nodes) → AreNodes mode ns → AreNodes mode ms → tokens_of (nodes_events ns) ≡ tokens_of (nodes_events ms) → forget_nodes same_kind ns ≡ forget_nodes same_kind ms
one_alternative mode ns ms v w e =
    sym (nodes_built mode ns v) ∙ ap (λ ts. onto (build ts (at [] no_alternative no_node)).nodes no_node) e ∙ nodes_built mode ms w

abbrev pub built : List Token → Alternatives
built ts = let s = build ts (at [] no_alternative no_node) in ended s.alternatives s.nodes

pub pattern_built : (mode : Mode) (p : Pattern) → IsWellMade mode p → built (tokens p) ≡ without_spans p
pattern_built mode p w =
    let h = alternatives_build mode (mirror_disjunction p.body).1 w [] in
    ap built (tokens_are p) ∙ ap (λ s. ended s.alternatives s.nodes) (h.3 []) ∙ h.2

-- also of two modes
pub one_tree : (mode other : Mode) (p q : Pattern) → IsWellMade mode p → IsWellMade other q → tokens p ≡ tokens q → without_spans p ≡ without_spans q
one_tree mode other p q v w e = sym (pattern_built mode p v) ∙ ap built e ∙ pattern_built other q w
