-- What is found in a tree, and what is still to be looked at.
use Rattle.std.specs.Prelude.{◌≡◌, ℕ, ◌+◌, ◌<◌, Option, Some, None, List, [], ◌∷◌, ◌++◌, map, reverse}
use Rattle.rx_base.specs.declared.span.Span.{Span}
use Rattle.rx_ast.specs.ClassTree as in_class
use Rattle.rx_ast.specs.ClassTree.{Member, Members, Class, no_member, member, members, mirror_contents}
use Rattle.rx_ast.specs.Tree as tree
use Rattle.rx_ast.specs.Tree.{Leaf, Opener, Node, Nodes, Alternatives, leaf, quantified, group, no_node, node, nodes, no_alternative, alternative, alternatives, mirror_term, mirror_alternative}
use Rattle.rx_program.specs.declared.survey.Rest.{Rest}
use Rattle.rx_program.specs.declared.survey.Rest.TheVariants as rest
use Rattle.rx_program.specs.declared.survey.Survey.{Survey}
use Rattle.rx_program.specs.declared.survey.Survey.TheVariants as survey
use Rattle.rx_program.specs.declared.survey.Surveyor.{Surveyor}
use Rattle.rx_trace.specs.Groups.{Names, names_in, names_in_all, names_in_each}
use Rattle.rx_trace.specs.Supported.{unsupported_modifiers, or_later}

-- the span of the first part of a class that is not supported
abbrev mutual
  pub unsupported_member : Member → Option Span
  unsupported_member (in_class.range r) = None
  unsupported_member (in_class.escape e) = None
  unsupported_member (in_class.property p) = Some p.span
  unsupported_member (in_class.character c) = None
  unsupported_member (in_class.nested c) = unsupported_class c
  unsupported_member (in_class.strings d) = Some d.span

  pub unsupported_members : Members → Option Span
  unsupported_members no_member = None
  unsupported_members (member m ms) = or_later (unsupported_member m) (unsupported_members ms)

  pub unsupported_class : Class → Option Span
  unsupported_class (in_class.class s negative may_have_strings kind ms) = unsupported_members ms

abbrev pub unsupported_leaf : Leaf → Option Span
unsupported_leaf (tree.boundary b) = None
unsupported_leaf (tree.character c) = None
unsupported_leaf (tree.dot d) = None
unsupported_leaf (tree.class_escape e) = None
unsupported_leaf (tree.property p) = Some p.span
unsupported_leaf (tree.class c) = unsupported_class c
unsupported_leaf (tree.indexed r) = None
unsupported_leaf (tree.named r) = None

abbrev pub unsupported_opener : Opener → Option Span
unsupported_opener (tree.capturing name) = None
unsupported_opener (tree.ignoring None) = None
unsupported_opener (tree.ignoring (Some m)) = unsupported_modifiers m
unsupported_opener (tree.looking kind) = None

-- and of a tree
abbrev mutual
  pub unsupported_node : Node → Option Span
  unsupported_node (leaf l) = unsupported_leaf l
  unsupported_node (quantified s min max greedy n) = unsupported_node n
  unsupported_node (group s o d more) = or_later (unsupported_opener o) (unsupported_each more)

  pub unsupported_nodes : Nodes → Option Span
  unsupported_nodes no_node = None
  unsupported_nodes (node n ns) = or_later (unsupported_node n) (unsupported_nodes ns)

  pub unsupported_each : Alternatives → Option Span
  unsupported_each no_alternative = None
  unsupported_each (alternative s ns more) = or_later (unsupported_nodes ns) (unsupported_each more)

-- what is still to be looked at: its first part that is not supported, and the names of its groups
abbrev pub unsupported_rest : Rest → Option Span
unsupported_rest (rest.Alternatives more) = unsupported_each (alternatives (map mirror_alternative more.now))
unsupported_rest (rest.Terms ts) = unsupported_nodes (nodes (map mirror_term ts.now))
unsupported_rest (rest.Term t) = unsupported_node (mirror_term t.now)
unsupported_rest (rest.Contents cs) = unsupported_members (members (map mirror_contents cs.now))

abbrev pub names_rest : Rest → Names
names_rest (rest.Alternatives more) = names_in_each (alternatives (map mirror_alternative more.now))
names_rest (rest.Terms ts) = names_in_all (nodes (map mirror_term ts.now))
names_rest (rest.Term t) = names_in (mirror_term t.now)
names_rest (rest.Contents cs) = []

abbrev pub unsupported_rests : List Rest → Option Span
unsupported_rests [] = None
unsupported_rests (r ∷ rs) = or_later (unsupported_rest r) (unsupported_rests rs)

abbrev pub names_rests : List Rest → Names
names_rests [] = []
names_rests (r ∷ rs) = names_rest r ++ names_rests rs

-- the most looks that something takes
abbrev mutual
  pub member_looks : Member → ℕ
  member_looks (in_class.range r) = 0
  member_looks (in_class.escape e) = 0
  member_looks (in_class.property p) = 0
  member_looks (in_class.character c) = 0
  member_looks (in_class.nested c) = 1 + class_looks c
  member_looks (in_class.strings d) = 0

  pub members_looks : Members → ℕ
  members_looks no_member = 0
  members_looks (member m ms) = 1 + member_looks m + members_looks ms

  pub class_looks : Class → ℕ
  class_looks (in_class.class s negative may_have_strings kind ms) = members_looks ms

abbrev pub leaf_looks : Leaf → ℕ
leaf_looks (tree.boundary b) = 0
leaf_looks (tree.character c) = 0
leaf_looks (tree.dot d) = 0
leaf_looks (tree.class_escape e) = 0
leaf_looks (tree.property p) = 0
leaf_looks (tree.class c) = 1 + class_looks c
leaf_looks (tree.indexed r) = 0
leaf_looks (tree.named r) = 0

abbrev mutual
  pub node_looks : Node → ℕ
  node_looks (leaf l) = 1 + leaf_looks l
  node_looks (quantified s min max greedy n) = 1 + node_looks n
  node_looks (group s o d more) = 2 + each_looks more

  pub nodes_looks : Nodes → ℕ
  nodes_looks no_node = 0
  nodes_looks (node n ns) = 1 + node_looks n + nodes_looks ns

  pub each_looks : Alternatives → ℕ
  each_looks no_alternative = 0
  each_looks (alternative s ns more) = 2 + nodes_looks ns + each_looks more

abbrev pub looks : Rest → ℕ
looks (rest.Alternatives more) = 1 + each_looks (alternatives (map mirror_alternative more.now))
looks (rest.Terms ts) = 1 + nodes_looks (nodes (map mirror_term ts.now))
looks (rest.Term t) = node_looks (mirror_term t.now)
looks (rest.Contents cs) = 1 + members_looks (members (map mirror_contents cs.now))

abbrev pub all_looks : List Rest → ℕ
all_looks [] = 0
all_looks (r ∷ rs) = looks r + all_looks rs

abbrev pub rests_of : Surveyor → List Rest
rests_of s = reverse s.rests

abbrev pub with_rest : Surveyor → Rest → Surveyor
with_rest s r = record s { rests = s.rests ++ (r ∷ []) }

-- Something was looked at: `refused` is the first part of it that is not supported, `names` the names in it, and it takes at most `most` looks. Either that part
-- was found, or it is in what is left, and the names come out in the same order.
abbrev pub LookedAt : Surveyor → Option Span → Names → ℕ → Surveyor → Option Span → Type 0
LookedAt s refused names most after (Some span) = refused ≡ Some span
LookedAt s refused names most after None =
    (or_later refused (unsupported_rests (rests_of s)) ≡ unsupported_rests (rests_of after))
    × (s.names ++ (names ++ names_rests (rests_of s)) ≡ after.names ++ names_rests (rests_of after))
    × (all_looks (rests_of after) < most + all_looks (rests_of s))

abbrev pub IsSurvey : Alternatives → Survey → Type 0
IsSurvey more (survey.Names names) = (unsupported_each more ≡ None) × (names ≡ names_in_each more)
IsSurvey more (survey.Unsupported span) = unsupported_each more ≡ Some span
