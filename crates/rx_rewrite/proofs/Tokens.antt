-- What holds of each token of a tree, and of the tokens that they are rewritten to.
use Rattle.std.proofs.Common.{◌≡◌, ◌≢◌, sym, subst, ◌∙◌, ℕ, Bool, Option, List, [], ◌∷◌}
use Rattle.std.specs.List.{All}
use Rattle.std.proofs.lemmas.List.Elements.{All-nil, All-cons, All-head, All-tail}
use Rattle.rx_ast.specs.declared.leaf.LookAroundAssertionKind.{LookAroundAssertionKind}
use Rattle.rx_ast.specs.declared.leaf.Modifiers.{Modifiers}
use Rattle.rx_ast.specs.Spans.{leaf_span}
use Rattle.rx_ast.specs.Tree as tree
use Rattle.rx_ast.specs.Tree.{Leaf, Node, Nodes, Alternatives, leaf, quantified, group, no_node, node, no_alternative, alternative}
use Rattle.rx_model.specs.Trees.Events.{leaf_event, node_events, nodes_events, alternatives_events, barred_events}
use Rattle.rx_model.specs.Trees.Token.{Token, opener, closer, bar, quantifier, capturing, ignoring, looking, bits, opener_of, leaf_token}
use Rattle.rx_model.proofs.Trees.Flat.{before, before-append, before_leaf, before_within, before_quantified, before_group, before_alternative}
use Rattle.rx_trace.specs.Groups.{Names}
use Rattle.rx_trace.specs.declared.settings.Settings.{Settings}
use Rattle.rx_trace.specs.Matching.{update_settings}
use Rattle.rx_rewrite.specs.declared.rewrites.Rewrites.{Rewrites}
use Rattle.rx_rewrite.specs.Rewriting.{name_rewritten, modifiers_rewritten, leaf_rewritten, node_rewritten, nodes_rewritten, alternatives_rewritten}

leaf-tokens : (l : Leaf) (ts : List Token) → before (node_events (leaf l)) ts ≡ leaf_token l ∷ ts
leaf-tokens l ts = before_within (leaf_span l) (leaf_event l ∷ []) ts ∙ before_leaf l [] ts

module _ (P : Token → Type 0) where
  -- It holds of each token of a tree but bars and closers.
  abbrev mutual
    pub OfNode : Node → Type 0
    OfNode (leaf l) = P (leaf_token l)
    OfNode (quantified s min max greedy n) = OfNode n × P (quantifier min max greedy)
    OfNode (group s o d more) = P (opener (opener_of o)) × OfEach more

    pub OfAll : Nodes → Type 0
    OfAll no_node = Unit {0}
    OfAll (node n ns) = OfNode n × OfAll ns

    pub OfEach : Alternatives → Type 0
    OfEach no_alternative = Unit {0}
    OfEach (alternative s ns more) = OfAll ns × OfEach more

  -- So it does where it holds of all tokens,
  mutual
    from-node : (n : Node) (ts : List Token) → All P (before (node_events n) ts) → OfNode n × All P ts
    from-node (leaf l) ts all =
        let it = subst (All P) (leaf-tokens l ts) all in
        (All-head P (leaf_token l) ts it, All-tail P (leaf_token l) ts it)
    from-node (quantified s min max greedy n) ts all =
        let it = from-node n (quantifier min max greedy ∷ ts) (subst (All P) (before_quantified s (node_events n) (quantifier min max greedy) ts) all) in
        ((it.0, All-head P (quantifier min max greedy) ts it.1), All-tail P (quantifier min max greedy) ts it.1)
    from-node (group s o d more) ts all =
        let it = subst (All P) (before_group s d o (alternatives_events more) ts) all in
        let inside = from-each more (closer ∷ ts) (All-tail P (opener (opener_of o)) (before (alternatives_events more) (closer ∷ ts)) it) in
        ((All-head P (opener (opener_of o)) (before (alternatives_events more) (closer ∷ ts)) it, inside.0), All-tail P closer ts inside.1)

    from-all : (ns : Nodes) (ts : List Token) → All P (before (nodes_events ns) ts) → OfAll ns × All P ts
    from-all no_node ts all = (tt, all)
    from-all (node n ns) ts all =
        let first = from-node n (before (nodes_events ns) ts) (subst (All P) (before-append (node_events n) (nodes_events ns) ts) all) in
        let rest = from-all ns ts first.1 in
        ((first.0, rest.0), rest.1)

    pub from-each : (more : Alternatives) (ts : List Token) → All P (before (alternatives_events more) ts) → OfEach more × All P ts
    from-each no_alternative ts all = (tt, all)
    from-each (alternative s ns more) ts all =
        let first = from-all ns (before (barred_events more) ts) (subst (All P) (before_alternative s (nodes_events ns) (barred_events more) ts) all) in
        let rest = from-barred more ts first.1 in
        ((first.0, rest.0), rest.1)

    from-barred : (more : Alternatives) (ts : List Token) → All P (before (barred_events more) ts) → OfEach more × All P ts
    from-barred no_alternative ts all = (tt, all)
    from-barred (alternative s ns more) ts all =
        let after = before (nodes_events ns) (before (barred_events more) ts) in
        let it = subst (λ ss. All P (bar ∷ ss)) (before_alternative s (nodes_events ns) (barred_events more) ts) all in
        let first = from-all ns (before (barred_events more) ts) (All-tail P bar after it) in
        let rest = from-barred more ts first.1 in
        ((first.0, rest.0), rest.1)

  -- and the other way, where it holds of bars and closers.
  module _ (of_bar : P bar) (of_closer : P closer) where
    mutual
      to-node : (n : Node) (ts : List Token) → OfNode n → All P ts → All P (before (node_events n) ts)
      to-node (leaf l) ts holds all = subst (All P) (sym (leaf-tokens l ts)) (All-cons P (leaf_token l) ts holds all)
      to-node (quantified s min max greedy n) ts holds all =
          subst (All P) (sym (before_quantified s (node_events n) (quantifier min max greedy) ts))
          (to-node n (quantifier min max greedy ∷ ts) holds.0 (All-cons P (quantifier min max greedy) ts holds.1 all))
      to-node (group s o d more) ts holds all =
          subst (All P) (sym (before_group s d o (alternatives_events more) ts))
          (All-cons P (opener (opener_of o)) (before (alternatives_events more) (closer ∷ ts)) holds.0 (to-each more (closer ∷ ts) holds.1 (All-cons P closer ts of_closer all)))

      to-all : (ns : Nodes) (ts : List Token) → OfAll ns → All P ts → All P (before (nodes_events ns) ts)
      to-all no_node ts holds all = all
      to-all (node n ns) ts holds all =
          subst (All P) (sym (before-append (node_events n) (nodes_events ns) ts)) (to-node n (before (nodes_events ns) ts) holds.0 (to-all ns ts holds.1 all))

      pub to-each : (more : Alternatives) (ts : List Token) → OfEach more → All P ts → All P (before (alternatives_events more) ts)
      to-each no_alternative ts holds all = all
      to-each (alternative s ns more) ts holds all =
          subst (All P) (sym (before_alternative s (nodes_events ns) (barred_events more) ts)) (to-all ns (before (barred_events more) ts) holds.0 (to-barred more ts holds.1 all))

      to-barred : (more : Alternatives) (ts : List Token) → OfEach more → All P ts → All P (before (barred_events more) ts)
      to-barred no_alternative ts holds all = all
      to-barred (alternative s ns more) ts holds all =
          let after = before (nodes_events ns) (before (barred_events more) ts) in
          subst (λ ss. All P (bar ∷ ss)) (sym (before_alternative s (nodes_events ns) (barred_events more) ts))
          (All-cons P bar after of_bar (to-all ns (before (barred_events more) ts) holds.0 (to-barred more ts holds.1 all)))

-- What holds of tokens gives what holds of those that they are rewritten to: of what each leaf becomes, and of what each group begins with.
module _ (what : Rewrites) (names : Names) (P Q : Token → Type 0)
    (of_leaf : (old new : Settings) (l : Leaf) → P (leaf_token l) → OfNode Q (leaf_rewritten what names old new l))
    (of_quantifier : (min : ℕ) (max : Option ℕ) (greedy : Bool) → P (quantifier min max greedy) → Q (quantifier min max greedy))
    (of_name : (name : Option (List ℕ)) → P (opener (capturing name)) → Q (opener (capturing (name_rewritten what names name))))
    (of_modifiers : (m : Option Modifiers) → P (opener (ignoring (bits m))) → Q (opener (ignoring (bits (modifiers_rewritten what names m)))))
    (of_look : (k : LookAroundAssertionKind) → P (opener (looking k)) → Q (opener (looking k))) where
  mutual
    kept-node : (old new : Settings) (n : Node) → OfNode P n → OfNode Q (node_rewritten what names old new n)
    kept-node old new (leaf l) holds = of_leaf old new l holds
    kept-node old new (quantified s min max greedy n) holds = (kept-node old new n holds.0, of_quantifier min max greedy holds.1)
    kept-node old new (group s (tree.capturing name) d more) holds = (of_name name holds.0, kept-each old new more holds.1)
    kept-node old new (group s (tree.ignoring m) d more) holds = (of_modifiers m holds.0, kept-each (update_settings m old) (update_settings (modifiers_rewritten what names m) new) more holds.1)
    kept-node old new (group s (tree.looking k) d more) holds = (of_look k holds.0, kept-each old new more holds.1)

    kept-all : (old new : Settings) (ns : Nodes) → OfAll P ns → OfAll Q (nodes_rewritten what names old new ns)
    kept-all old new no_node holds = tt
    kept-all old new (node n ns) holds = (kept-node old new n holds.0, kept-all old new ns holds.1)

    pub kept-each : (old new : Settings) (more : Alternatives) → OfEach P more → OfEach Q (alternatives_rewritten what names old new more)
    kept-each old new no_alternative holds = tt
    kept-each old new (alternative s ns more) holds = (kept-all old new ns holds.0, kept-each old new more holds.1)

  pub kept-tokens : Q bar → Q closer → (old new : Settings) (more : Alternatives) →
      All P (before (alternatives_events more) []) → All Q (before (alternatives_events (alternatives_rewritten what names old new more)) [])
  kept-tokens of_bar of_closer old new more all =
      to-each Q of_bar of_closer (alternatives_rewritten what names old new more) [] (kept-each old new more (from-each P more [] all).0) (All-nil Q)

-- A tree has tokens unless it is one empty alternative.
some_tokens : (t : Token) (ts us : List Token) → us ≡ t ∷ ts → us ≢ []
some_tokens t ts us is none = let no : [] ≡ t ∷ ts = sym none ∙ is in absurd (cc)

node-some : (n : Node) (ts : List Token) → before (node_events n) ts ≢ []
node-some (leaf l) ts = some_tokens (leaf_token l) ts (before (node_events (leaf l)) ts) (leaf-tokens l ts)
node-some (quantified s min max greedy n) ts =
    subst (λ us. us ≢ []) (sym (before_quantified s (node_events n) (quantifier min max greedy) ts)) (node-some n (quantifier min max greedy ∷ ts))
node-some (group s o d more) ts =
    some_tokens (opener (opener_of o)) (before (alternatives_events more) (closer ∷ ts)) (before (node_events (group s o d more)) ts) (before_group s d o (alternatives_events more) ts)

pub some-rewritten : (what : Rewrites) (names : Names) (old new : Settings) (more : Alternatives) →
    before (alternatives_events more) [] ≢ [] → before (alternatives_events (alternatives_rewritten what names old new more)) [] ≢ []
some-rewritten what names old new no_alternative some = some
some-rewritten what names old new (alternative s no_node no_alternative) some = some
some-rewritten what names old new (alternative s no_node (alternative d ns more)) some =
    let rest = alternatives_rewritten what names old new (alternative d ns more) in
    subst (λ us. us ≢ []) (sym (before_alternative s (nodes_events no_node) (barred_events rest) [])) (λ none. cc)
some-rewritten what names old new (alternative s (node n ns) more) some =
    let m = node_rewritten what names old new n in
    let ms = nodes_rewritten what names old new ns in
    let rest = alternatives_rewritten what names old new more in
    subst (λ us. us ≢ []) (sym (before_alternative s (nodes_events (node m ms)) (barred_events rest) [] ∙ before-append (node_events m) (nodes_events ms) (before (barred_events rest) [])))
    (node-some m (before (nodes_events ms) (before (barred_events rest) [])))
