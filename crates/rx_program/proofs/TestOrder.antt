-- The tests of classes, where a term or an alternative comes after others.
use Rattle.std.proofs.Common.{◌≡◌, refl}
use Rattle.rx_base.specs.declared.span.Span.{Span}
use Rattle.rx_ast.specs.Tree.{Node, Nodes, Alternatives, no_node, node, no_alternative, alternative}
use Rattle.rx_program.specs.ClassTests.{Tests, node_tests, nodes_tests, each_tests}
use Rattle.rx_program.proofs.SmallerWorks.{with_last, with_last_alternative}

pub nodes_tests-last : (ns : Nodes) (n : Node) (before : Tests) → nodes_tests (with_last ns n) before ≡ node_tests n (nodes_tests ns before)
nodes_tests-last no_node n before = refl
nodes_tests-last (node m ns) n before = nodes_tests-last ns n (node_tests m before)

pub each_tests-last : (more : Alternatives) (d : Span) (ns : Nodes) (before : Tests) → each_tests (with_last_alternative more d ns) before ≡ nodes_tests ns (each_tests more before)
each_tests-last no_alternative d ns before = refl
each_tests-last (alternative d' ns' more) d ns before = each_tests-last more d ns (nodes_tests ns' before)
