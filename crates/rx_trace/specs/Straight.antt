-- Trees without quantifiers in which each disjunction has one alternative.
use Rattle.std.specs.Prelude.{ℕ, ◌+◌}
use Rattle.rx_ast.specs.Tree.{Node, Nodes, Alternatives, leaf, quantified, group, no_node, node, no_alternative, alternative}

abbrev mutual
  pub IsStraight : Node → Type 0
  IsStraight (leaf l) = Unit {0}
  IsStraight (quantified d min max greedy n) = ⊥
  IsStraight (group d o c more) = IsStraightDisjunction more

  pub AreStraight : Nodes → Type 0
  AreStraight no_node = Unit {0}
  AreStraight (node n ns) = IsStraight n × AreStraight ns

  pub IsStraightDisjunction : Alternatives → Type 0
  IsStraightDisjunction no_alternative = ⊥
  IsStraightDisjunction (alternative d ns no_alternative) = AreStraight ns
  IsStraightDisjunction (alternative d ns (alternative d' ns' more)) = ⊥

-- how many terms there are
abbrev mutual
  pub terms_in : Node → ℕ
  terms_in (leaf l) = 1
  terms_in (quantified d min max greedy n) = 1 + terms_in n
  terms_in (group d o c more) = 1 + terms_in_each more

  pub terms_in_all : Nodes → ℕ
  terms_in_all no_node = 0
  terms_in_all (node n ns) = terms_in n + terms_in_all ns

  pub terms_in_each : Alternatives → ℕ
  terms_in_each no_alternative = 0
  terms_in_each (alternative d ns more) = terms_in_all ns + terms_in_each more
