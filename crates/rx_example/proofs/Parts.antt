-- What the parts of a term hold, and what waits with one part more.
use Rattle.std.proofs.Common.{◌≡◌, refl, ap, ◌∙◌, ℕ, ◌+◌, arith, List, [], ◌∷◌, ◌++◌, map}
use Rattle.std.specs.declared.alloc.Global.{Global}
use Rattle.std.specs.declared.boxed.Box.{Box}
use Rattle.rx_base.specs.declared.span.Span.{Span}
use Rattle.rx_ast.specs.declared.term.Alternative.{Alternative}
use Rattle.rx_ast.specs.declared.term.CapturingGroup.{CapturingGroup, out-CapturingGroup}
use Rattle.rx_ast.specs.declared.term.Disjunction.{Disjunction, out-Disjunction}
use Rattle.rx_ast.specs.declared.term.IgnoreGroup.{IgnoreGroup, out-IgnoreGroup}
use Rattle.rx_ast.specs.declared.term.LookAroundAssertion.{LookAroundAssertion, out-LookAroundAssertion}
use Rattle.rx_ast.specs.declared.term.Quantifier.{Quantifier}
use Rattle.rx_ast.specs.declared.term.Term.{Term}
use Rattle.rx_ast.specs.declared.term.Term.TheVariants as term
use Rattle.rx_ast.specs.Size.{node_size, alternatives_size}
use Rattle.rx_ast.specs.Tree as tree
use Rattle.rx_ast.specs.Tree.{Alternatives, Node, Nodes, alternatives, nodes, mirror_alternative, mirror_disjunction, mirror_term}
use Rattle.rx_ast.proofs.Equations.{alternative_is, tree_of_quantifier, tree_of_capturing, tree_of_ignore, tree_of_look, disjunction_is, boundary_is, character_is, escape_is, property_is, class_is, indexed_is, named_is, dot_is}
use Rattle.rx_model.specs.Trees.Names.{node_groups, alternatives_groups}
use Rattle.rx_example.specs.declared.groups.Part.{Part}
use Rattle.rx_example.specs.Parts.{part_groups, part_size, waiting_groups, waiting_size}

-- the groups and the size of the alternatives that a disjunction has
abbrev pub groups_in : Disjunction → ℕ
groups_in d = alternatives_groups (alternatives (map mirror_alternative (out-Disjunction d).body))

abbrev pub size_in : Disjunction → ℕ
size_in d = alternatives_size (alternatives (map mirror_alternative (out-Disjunction d).body))

pub groups_of_disjunction : (d : Disjunction) → alternatives_groups (mirror_disjunction d).1 ≡ groups_in d
groups_of_disjunction d = ap (λ m. alternatives_groups m.1) (disjunction_is d)

size_of_disjunction : (d : Disjunction) → alternatives_size (mirror_disjunction d).1 ≡ size_in d
size_of_disjunction d = ap (λ m. alternatives_size m.1) (disjunction_is d)

pub quantifier_groups : (q : Box Quantifier Global) → node_groups (mirror_term (term.Quantifier q)) ≡ node_groups (mirror_term q.value.body)
quantifier_groups q = ap node_groups (tree_of_quantifier q)

pub quantifier_size : (q : Box Quantifier Global) → node_size (mirror_term (term.Quantifier q)) ≡ 1 + node_size (mirror_term q.value.body)
quantifier_size q = ap node_size (tree_of_quantifier q)

pub capturing_groups : (g : Box CapturingGroup Global) → node_groups (mirror_term (term.CapturingGroup g)) ≡ 1 + groups_in (out-CapturingGroup g.value).body
capturing_groups g = ap node_groups (tree_of_capturing g) ∙ ap (λ n. 1 + n) (groups_of_disjunction (out-CapturingGroup g.value).body)

pub capturing_size : (g : Box CapturingGroup Global) → node_size (mirror_term (term.CapturingGroup g)) ≡ 1 + size_in (out-CapturingGroup g.value).body
capturing_size g = ap node_size (tree_of_capturing g) ∙ ap (λ n. 1 + n) (size_of_disjunction (out-CapturingGroup g.value).body)

pub ignore_groups : (g : Box IgnoreGroup Global) → node_groups (mirror_term (term.IgnoreGroup g)) ≡ 0 + groups_in (out-IgnoreGroup g.value).body
ignore_groups g = ap node_groups (tree_of_ignore g) ∙ ap (λ n. 0 + n) (groups_of_disjunction (out-IgnoreGroup g.value).body)

pub ignore_size : (g : Box IgnoreGroup Global) → node_size (mirror_term (term.IgnoreGroup g)) ≡ 1 + size_in (out-IgnoreGroup g.value).body
ignore_size g = ap node_size (tree_of_ignore g) ∙ ap (λ n. 1 + n) (size_of_disjunction (out-IgnoreGroup g.value).body)

pub look_groups : (g : Box LookAroundAssertion Global) → node_groups (mirror_term (term.LookAroundAssertion g)) ≡ 0 + groups_in (out-LookAroundAssertion g.value).body
look_groups g = ap node_groups (tree_of_look g) ∙ ap (λ n. 0 + n) (groups_of_disjunction (out-LookAroundAssertion g.value).body)

pub look_size : (g : Box LookAroundAssertion Global) → node_size (mirror_term (term.LookAroundAssertion g)) ≡ 1 + size_in (out-LookAroundAssertion g.value).body
look_size g = ap node_size (tree_of_look g) ∙ ap (λ n. 1 + n) (size_of_disjunction (out-LookAroundAssertion g.value).body)

pub waiting_groups-last : (ps : List Part) (p : Part) → waiting_groups (ps ++ (p ∷ [])) ≡ waiting_groups ps + part_groups p
unfolding waiting_groups
waiting_groups-last [] p = omega arith
waiting_groups-last (q ∷ ps) p = let h = waiting_groups-last ps p in omega arith

pub waiting_size-last : (ps : List Part) (p : Part) → waiting_size (ps ++ (p ∷ [])) ≡ waiting_size ps + part_size p
unfolding waiting_size
waiting_size-last [] p = omega arith
waiting_size-last (q ∷ ps) p = let h = waiting_size-last ps p in omega arith

pub waiting_groups-nil : waiting_groups [] ≡ 0
unfolding waiting_groups
waiting_groups-nil = refl

pub waiting_size-nil : waiting_size [] ≡ 0
unfolding waiting_size
waiting_size-nil = refl

pub ruleset parts = (quantifier_groups, quantifier_size, capturing_groups, capturing_size, ignore_groups, ignore_size, look_groups, look_size, boundary_is, character_is, escape_is, property_is, class_is, indexed_is, named_is, dot_is, waiting_groups-last, waiting_size-last)

-- a part that is taken out, the last
pub popped_groups : (before between : List Part) (p : Part) → before ≡ between ++ (p ∷ []) → waiting_groups before ≡ waiting_groups between + part_groups p
popped_groups before between p popped = ap waiting_groups popped ∙ waiting_groups-last between p

pub popped_size : (before between : List Part) (p : Part) → before ≡ between ++ (p ∷ []) → waiting_size before ≡ waiting_size between + part_size p
popped_size before between p popped = ap waiting_size popped ∙ waiting_size-last between p

-- The measure of some alternatives or terms, which is a sum, is that of the first and that of the others.
pub first_alternative : (whole : Alternatives → ℕ) (one : Nodes → ℕ) → ((s : Span) (ns : Nodes) (more : Alternatives) → whole (tree.alternative s ns more) ≡ one ns + whole more)
    → (all : List Alternative) (first : Alternative) (others : List Alternative) → all ≡ first ∷ others
    → whole (alternatives (map mirror_alternative all)) ≡ one (nodes (map mirror_term first.body)) + whole (alternatives (map mirror_alternative others))
first_alternative whole one sum all first others cut =
    ap (λ as'. whole (alternatives (map mirror_alternative as'))) cut ∙ sum _ _ _ ∙ ap (λ m. one m.1 + whole (alternatives (map mirror_alternative others))) (alternative_is first)

pub first_term : (whole : Nodes → ℕ) (one : Node → ℕ) → ((n : Node) (ns : Nodes) → whole (tree.node n ns) ≡ one n + whole ns)
    → (all : List Term) (first : Term) (others : List Term) → all ≡ first ∷ others → whole (nodes (map mirror_term all)) ≡ one (mirror_term first) + whole (nodes (map mirror_term others))
first_term whole one sum all first others cut = ap (λ ts. whole (nodes (map mirror_term ts))) cut ∙ sum _ _
