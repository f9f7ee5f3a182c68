-- What has been found of the classes of a tree, and what is still to be looked at.
use Rattle.std.specs.Prelude.{◌≡◌, ℕ, ◌+◌, ◌<◌, List, [], ◌∷◌, ◌++◌, map, reverse}
use Rattle.rx_ast.specs.ClassTree.{Class}
use Rattle.rx_ast.specs.Tree.{alternatives, nodes, mirror_alternative, mirror_term}
use Rattle.rx_program.specs.declared.checks.ClassRow.{ClassRow}
use Rattle.rx_program.specs.declared.classes.ClassFinder.{ClassFinder}
use Rattle.rx_program.specs.declared.classes.Unseen.{Unseen}
use Rattle.rx_program.specs.declared.classes.Unseen.TheVariants as unseen
use Rattle.rx_program.specs.ClassTests.{Tests, row_tests, node_tests, nodes_tests, each_tests}
use Rattle.rx_trace.specs.Holding.{class_holds}
use Rattle.rx_program.specs.Works.{node_weight, nodes_weight, each_weight}

abbrev pub unseen_tests : Unseen → Tests → Tests
unseen_tests (unseen.Alternatives more) before = each_tests (alternatives (map mirror_alternative more.now)) before
unseen_tests (unseen.Terms ts) before = nodes_tests (nodes (map mirror_term ts.now)) before
unseen_tests (unseen.Term t) before = node_tests (mirror_term t.now) before

abbrev pub tests_of : List Unseen → Tests
tests_of [] = []
tests_of (u ∷ us) = unseen_tests u (tests_of us)

abbrev pub unseen_of : ClassFinder → List Unseen
unseen_of f = reverse f.unseen

-- the most looks that something takes
abbrev pub unseen_weight : Unseen → ℕ
unseen_weight (unseen.Alternatives more) = 1 + each_weight (alternatives (map mirror_alternative more.now))
unseen_weight (unseen.Terms ts) = 1 + nodes_weight (nodes (map mirror_term ts.now))
unseen_weight (unseen.Term t) = node_weight (mirror_term t.now)

abbrev pub unseen_weights : List Unseen → ℕ
unseen_weights [] = 0
unseen_weights (u ∷ us) = unseen_weight u + unseen_weights us

abbrev pub with_unseen : ClassFinder → Unseen → ClassFinder
with_unseen f u = record f { unseen = f.unseen ++ (u ∷ []) }

abbrev pub with_row : ClassFinder → ClassRow → ClassFinder
with_row f row = record f { rows = f.rows ++ (row ∷ []) }

-- Something was looked at that has these tests and takes at most `most` looks: the same tests come out in the end.
pub record Finds (f : ClassFinder) (tests : Tests → Tests) (most : ℕ) (after : ClassFinder) : Type 0 where
  pub same : row_tests f.rows ++ tests (tests_of (unseen_of f)) ≡ row_tests after.rows ++ tests_of (unseen_of after)
  pub fewer : unseen_weights (unseen_of after) < most + unseen_weights (unseen_of f)

-- a row was added that holds what the class holds
pub record FindsClass (f : ClassFinder) (k : Class) (after : ClassFinder) : Type 0 where
  pub rows : row_tests after.rows ≡ row_tests f.rows ++ (class_holds k ∷ [])
  pub unseen : after.unseen ≡ f.unseen
