-- The tokens of a well made tree are accepted.
use Rattle.std.proofs.Common.{◌≡◌, refl, ap, ◌∙◌, Bool, true, false, Some, List, [], ◌∷◌, ◌++◌}
use Rattle.rx_base.specs.declared.span.Span.{Span}
use Rattle.rx_ast.specs.declared.term.Pattern.{Pattern}
use Rattle.rx_ast.specs.Tree as tree
use Rattle.rx_ast.specs.Tree.{Leaf, Node, Nodes, Alternatives, leaf, quantified, group, no_node, node, no_alternative, alternative, mirror_disjunction}
use Rattle.rx_model.specs.declared.mode.Mode.{Mode}
use Rattle.rx_model.specs.Trees.Token.{Token, Opener, boundary, character, dot, class_escape, property, class, indexed, named, opener, closer, bar, quantifier, opener_of, leaf_token}
use Rattle.rx_model.specs.Trees.Events.{Events, within, node_events, nodes_events, alternatives_events, barred_events, tokens}
use Rattle.rx_model.proofs.Trees.Flat.{before, before-append, before_leaf, before_quantified, before_group, before_alternative, tokens_are}
use Rattle.rx_model.specs.Trees.Shapes.{run, leaf_takes, group_takes, takes, IsNode, AreNodes, HasAlternatives, AreAlternatives, IsWellMade}

module _ (mode : Mode) where
  leaf_runs : (l : Leaf) (ts : List Token) (open_groups : List Opener) (ready : Bool) → run mode (leaf_token l ∷ ts) open_groups ready ≡ run mode ts open_groups (leaf_takes l)
  leaf_runs (tree.boundary b) ts open_groups ready = refl
  leaf_runs (tree.character c) ts open_groups ready = refl
  leaf_runs (tree.dot d) ts open_groups ready = refl
  leaf_runs (tree.class_escape e) ts open_groups ready = refl
  leaf_runs (tree.property p) ts open_groups ready = refl
  leaf_runs (tree.class c) ts open_groups ready = refl
  leaf_runs (tree.indexed r) ts open_groups ready = refl
  leaf_runs (tree.named r) ts open_groups ready = refl

  -- After these tokens the same groups are open.
  abbrev pub Passes : Events → List Opener → Bool → Type 0
  Passes es open_groups ready = (after : Bool) × ((ts : List Token) → run mode (before es ts) open_groups ready ≡ run mode ts open_groups after)

  alternative_passes : (s : Span) (es fs : Events) (open_groups : List Opener) (ready : Bool) →
      Passes es open_groups ready → ((between : Bool) → Passes fs open_groups between) → Passes (within s es ++ fs) open_groups ready
  alternative_passes s es fs open_groups ready p more =
      let q = more p.0 in
      (q.0, λ ts. ap (λ ss. run mode ss open_groups ready) (before_alternative s es fs ts) ∙ p.1 (before fs ts) ∙ q.1 ts)

  mutual
    pub node_runs : (n : Node) → IsNode mode n → (ts : List Token) (open_groups : List Opener) (ready : Bool) →
        run mode (before (node_events n) ts) open_groups ready ≡ run mode ts open_groups (takes mode n)
    node_runs (leaf l) w ts open_groups ready = ap (λ ss. run mode ss open_groups ready) (before_leaf l _ ts) ∙ leaf_runs l ts open_groups ready
    node_runs (quantified s min max greedy n) w ts open_groups ready =
        ap (λ ss. run mode ss open_groups ready) (before_quantified s (node_events n) (quantifier min max greedy) ts)
        ∙ node_runs n w.1 (quantifier min max greedy ∷ ts) open_groups ready
        ∙ ap (λ r. run mode (quantifier min max greedy ∷ ts) open_groups r) w.0
    node_runs (group s o d more) w ts open_groups ready =
        ap (λ ss. run mode ss open_groups ready) (before_group s d o (alternatives_events more) ts)
        ∙ (alternatives_run more w (opener_of o ∷ open_groups) false).1 (closer ∷ ts)

    pub nodes_run : (ns : Nodes) → AreNodes mode ns → (open_groups : List Opener) (ready : Bool) → Passes (nodes_events ns) open_groups ready
    nodes_run no_node w open_groups ready = (ready, λ ts. refl)
    nodes_run (node n ns) w open_groups ready =
        let p = nodes_run ns w.1 open_groups (takes mode n) in (
          p.0,
          λ ts. ap (λ ss. run mode ss open_groups ready) (before-append (node_events n) (nodes_events ns) ts)
              ∙ node_runs n w.0 (before (nodes_events ns) ts) open_groups ready ∙ p.1 ts,
        )

    pub alternatives_run : (more : Alternatives) → HasAlternatives mode more → (open_groups : List Opener) (ready : Bool) → Passes (alternatives_events more) open_groups ready
    alternatives_run no_alternative w open_groups ready = absurd w
    alternatives_run (alternative s ns more) w open_groups ready =
        alternative_passes s (nodes_events ns) (barred_events more) open_groups ready (nodes_run ns w.0 open_groups ready) (λ r. barred_run more w.1 open_groups r)

    pub barred_run : (more : Alternatives) → AreAlternatives mode more → (open_groups : List Opener) (ready : Bool) → Passes (barred_events more) open_groups ready
    barred_run no_alternative w open_groups ready = (ready, λ ts. refl)
    barred_run (alternative s ns more) w open_groups ready =
        let p = alternative_passes s (nodes_events ns) (barred_events more) open_groups false (nodes_run ns w.0 open_groups false) (λ r. barred_run more w.1 open_groups r) in
        (p.0, p.1)

  -- the tokens of a well made pattern leave no group open
  pub pattern_runs : (p : Pattern) → IsWellMade mode p → (ready : Bool) × (run mode (tokens p) [] false ≡ Some ([], ready))
  pattern_runs p w =
      let h = alternatives_run (mirror_disjunction p.body).1 w [] false in
      (h.0, ap (λ ss. run mode ss [] false) (tokens_are p) ∙ h.1 [])

  pub run-append : (ts ss : List Token) (open_groups : List Opener) (ready : Bool) (open_after : List Opener) (ready_after : Bool) →
      run mode ts open_groups ready ≡ Some (open_after, ready_after) → run mode (ts ++ ss) open_groups ready ≡ run mode ss open_after ready_after
  run-append [] ss open_groups ready open_after ready_after e =
      let here : List Opener × Bool = (open_groups, ready) in
      let there : List Opener × Bool = (open_after, ready_after) in
      let p : here ≡ there = cc e in ap (λ x. run mode ss x.0 x.1) p
  run-append (closer ∷ ts) ss [] ready open_after ready_after e = cc
  run-append (closer ∷ ts) ss (o ∷ open_groups) ready open_after ready_after e = run-append ts ss open_groups (group_takes mode o) open_after ready_after e
  run-append ((opener o) ∷ ts) ss open_groups ready open_after ready_after e = run-append ts ss (o ∷ open_groups) false open_after ready_after e
  run-append (bar ∷ ts) ss open_groups ready open_after ready_after e = run-append ts ss open_groups false open_after ready_after e
  run-append ((quantifier min max greedy) ∷ ts) ss open_groups true open_after ready_after e = run-append ts ss open_groups false open_after ready_after e
  run-append ((quantifier min max greedy) ∷ ts) ss open_groups false open_after ready_after e = cc
  run-append ((boundary kind) ∷ ts) ss open_groups ready open_after ready_after e = run-append ts ss open_groups false open_after ready_after e
  run-append (dot ∷ ts) ss open_groups ready open_after ready_after e = run-append ts ss open_groups true open_after ready_after e
  run-append ((character kind value) ∷ ts) ss open_groups ready open_after ready_after e = run-append ts ss open_groups true open_after ready_after e
  run-append ((class_escape kind) ∷ ts) ss open_groups ready open_after ready_after e = run-append ts ss open_groups true open_after ready_after e
  run-append ((property negative strings name value) ∷ ts) ss open_groups ready open_after ready_after e = run-append ts ss open_groups true open_after ready_after e
  run-append ((class c) ∷ ts) ss open_groups ready open_after ready_after e = run-append ts ss open_groups true open_after ready_after e
  run-append ((indexed n) ∷ ts) ss open_groups ready open_after ready_after e = run-append ts ss open_groups true open_after ready_after e
  run-append ((named name) ∷ ts) ss open_groups ready open_after ready_after e = run-append ts ss open_groups true open_after ready_after e
