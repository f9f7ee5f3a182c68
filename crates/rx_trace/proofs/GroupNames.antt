-- A tree has as many names as groups.
use Rattle.std.proofs.Common.{◌≡◌, refl, ap₂, ◌∙◌, ◌+◌, length, length-append, arith}
use Rattle.rx_ast.specs.Tree.{Node, Nodes, Alternatives, leaf, quantified, group, no_node, node, no_alternative, alternative, capturing, ignoring, looking}
use Rattle.rx_trace.specs.Groups.{groups_in, groups_in_all, groups_in_each, names_in, names_in_all, names_in_each}

mutual
  pub names-length : (n : Node) → length (names_in n) ≡ groups_in n
  names-length (leaf l) = refl
  names-length (quantified s min max greedy n) = names-length n
  names-length (group s (capturing name) d more) = let e = names-length-each more in omega arith
  names-length (group s (ignoring m) d more) = names-length-each more
  names-length (group s (looking kind) d more) = names-length-each more

  pub names-length-all : (ns : Nodes) → length (names_in_all ns) ≡ groups_in_all ns
  names-length-all no_node = refl
  names-length-all (node n ns) = length-append (names_in n) (names_in_all ns) ∙ ap₂ (λ a b. a + b) (names-length n) (names-length-all ns)

  pub names-length-each : (more : Alternatives) → length (names_in_each more) ≡ groups_in_each more
  names-length-each no_alternative = refl
  names-length-each (alternative s ns more) = length-append (names_in_all ns) (names_in_each more) ∙ ap₂ (λ a b. a + b) (names-length-all ns) (names-length-each more)
