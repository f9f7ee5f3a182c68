-- The code of a tree. What follows a term is compiled first, so that a term knows it.
use Rattle.std.specs.Prelude.{ℕ, suc, ◌+◌, Bool, true, false, ◌||◌, ◌==◌, not}
use Rattle.rx_ast.specs.Tree as tree
use Rattle.rx_ast.specs.Tree.{Leaf, Node, Nodes, Alternatives, leaf, quantified, group, no_node, node, no_alternative, alternative, capturing, ignoring, looking}
use Rattle.rx_trace.specs.Holding.{is_line_terminator, escape_holds, class_holds}
use Rattle.rx_trace.specs.Groups.{Names, slot_of, slot_named, groups_in, groups_in_all}
use Rattle.rx_trace.specs.declared.settings.Settings.{Settings}
use Rattle.rx_trace.specs.Matching.{update_settings, looks_back}
use Rattle.rx_program.specs.Codes.{Code, accept, reject, consume, assert, refer, enter_group, choose, sequence, capture, look_around, repeat}

-- A choice between an alternative and the next ones; the last alternative needs none.
abbrev pub chosen : Code → Alternatives → Code → Code
chosen first no_alternative other = first
chosen first (alternative d ns more) other = choose first other

module _ (names : Names) where
  abbrev pub leaf_code : Settings → Leaf → Code → Code
  leaf_code e (tree.boundary b) next = assert b.kind e.multiline next
  leaf_code e (tree.character c) next = consume (λ u. u == c.value) next
  leaf_code e (tree.dot d) next = consume (λ u. e.dot_all || not (is_line_terminator u)) next
  leaf_code e (tree.class_escape k) next = consume (escape_holds k.kind) next
  leaf_code e (tree.property p) next = consume (λ u. false) next
  leaf_code e (tree.class k) next = consume (class_holds k) next
  leaf_code e (tree.indexed r) next = refer (λ slots. slot_of slots r.index) next
  leaf_code e (tree.named r) next = refer (slot_named r.name names) next

  abbrev mutual
    pub node_code : Node → Settings → Bool → ℕ → Code → Code
    node_code (leaf l) e back before next = leaf_code e l next
    node_code (quantified d min max greedy n) e back before next = repeat min max greedy before (groups_in n) (node_code n e back before accept) next
    node_code (group d (capturing name) c more) e back before next = capture before (each_code more e back (suc before) accept) next
    node_code (group d (ignoring m) c more) e back before next = enter_group (each_code more (update_settings m e) back before next)
    node_code (group d (looking kind) c more) e back before next = look_around kind (each_code more e (looks_back kind) before accept) next

    pub nodes_code : Nodes → Settings → Bool → ℕ → Code → Code
    nodes_code no_node e back before next = next
    nodes_code (node n ns) e false before next = node_code n e false before (nodes_code ns e false (before + groups_in n) next)
    nodes_code (node n ns) e true before next = sequence (nodes_code ns e true (before + groups_in n) accept) (node_code n e true before next)

    pub each_code : Alternatives → Settings → Bool → ℕ → Code → Code
    each_code no_alternative e back before next = reject
    each_code (alternative d ns more) e back before next = chosen (nodes_code ns e back before next) more (each_code more e back (before + groups_in_all ns) next)
