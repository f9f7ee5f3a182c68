-- The rewritten tree has the groups of the tree. Each keeps its name, or where names are rewritten none has one.
use Rattle.std.proofs.Common.{◌≡◌, refl, ap, ap₂, sym, ◌∙◌, ◌+◌, [], ◌∷◌, ◌++◌, length, map}
use Rattle.std.proofs.lemmas.List.{map-append, length-map}
use Rattle.rx_ast.specs.Tree as tree
use Rattle.rx_ast.specs.Tree.{Leaf, Node, Nodes, Alternatives, leaf, quantified, group, no_node, node, no_alternative, alternative, capturing, ignoring, looking}
use Rattle.rx_trace.specs.Groups.{Names, groups_in, groups_in_all, groups_in_each, names_in, names_in_all, names_in_each}
use Rattle.rx_trace.specs.declared.settings.Settings.{Settings}
use Rattle.rx_trace.specs.Matching.{update_settings}
use Rattle.rx_trace.proofs.GroupNames.{names-length, names-length-all, names-length-each}
use Rattle.rx_rewrite.specs.declared.rewrites.Rewrites.{Rewrites}
use Rattle.rx_rewrite.specs.Rewriting.{name_rewritten, modifiers_rewritten, node_rewritten, nodes_rewritten, alternatives_rewritten}
use Rattle.rx_rewrite.proofs.LeafRewrites.{HoldsOfAll, leaf-all}

module _ (what : Rewrites) (names : Names) where
  no_names : (l : Leaf) → HoldsOfAll what names (λ n. names_in n ≡ []) l
  no_names (tree.boundary b) = (refl, λ k. (refl, refl))
  no_names (tree.character c) = refl
  no_names (tree.dot d) = (refl, refl, refl)
  no_names (tree.class_escape k) = refl
  no_names (tree.property p) = refl
  no_names (tree.class k) = refl
  no_names (tree.indexed r) = refl
  no_names (tree.named r) = refl

  -- The name of each group is rewritten.
  mutual
    pub names-node : (old new : Settings) (n : Node) → names_in (node_rewritten what names old new n) ≡ map (name_rewritten what names) (names_in n)
    names-node old new (leaf l) = leaf-all what names (λ n. names_in n ≡ []) old new l (no_names l)
    names-node old new (quantified s min max greedy n) = names-node old new n
    names-node old new (group s (capturing name) d more) = ap (λ ns. name_rewritten what names name ∷ ns) (names-each old new more)
    names-node old new (group s (ignoring m) d more) = names-each (update_settings m old) (update_settings (modifiers_rewritten what names m) new) more
    names-node old new (group s (looking kind) d more) = names-each old new more

    pub names-all : (old new : Settings) (ns : Nodes) → names_in_all (nodes_rewritten what names old new ns) ≡ map (name_rewritten what names) (names_in_all ns)
    names-all old new no_node = refl
    names-all old new (node n ns) = ap₂ (λ a b. a ++ b) (names-node old new n) (names-all old new ns) ∙ sym (map-append (name_rewritten what names) (names_in n) (names_in_all ns))

    pub names-each : (old new : Settings) (more : Alternatives) → names_in_each (alternatives_rewritten what names old new more) ≡ map (name_rewritten what names) (names_in_each more)
    names-each old new no_alternative = refl
    names-each old new (alternative s ns more) =
        ap₂ (λ a b. a ++ b) (names-all old new ns) (names-each old new more) ∙ sym (map-append (name_rewritten what names) (names_in_all ns) (names_in_each more))

  -- So there are as many groups.
  pub groups-node : (old new : Settings) (n : Node) → groups_in (node_rewritten what names old new n) ≡ groups_in n
  groups-node old new n = sym (names-length (node_rewritten what names old new n)) ∙ ap length (names-node old new n) ∙ length-map (names_in n) (name_rewritten what names) ∙ names-length n

  pub groups-all : (old new : Settings) (ns : Nodes) → groups_in_all (nodes_rewritten what names old new ns) ≡ groups_in_all ns
  groups-all old new ns = sym (names-length-all (nodes_rewritten what names old new ns)) ∙ ap length (names-all old new ns) ∙ length-map (names_in_all ns) (name_rewritten what names) ∙ names-length-all ns

  pub groups-each : (old new : Settings) (more : Alternatives) → groups_in_each (alternatives_rewritten what names old new more) ≡ groups_in_each more
  groups-each old new more = sym (names-length-each (alternatives_rewritten what names old new more)) ∙ ap length (names-each old new more) ∙ length-map (names_in_each more) (name_rewritten what names) ∙ names-length-each more
