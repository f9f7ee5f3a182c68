-- A tree as JSON.
use Rattle.std.specs.Prelude.{List, [], ◌∷◌, map}
use Rattle.json.specs.Json.{Json}
use Rattle.rx_base.specs.declared.span.Span.{Span}
use Rattle.rx_ast.specs.declared.leaf.Character.{Character}
use Rattle.rx_ast.specs.declared.class.ClassString.{ClassString}
use Rattle.rx_ast.specs.ClassTree as in_class
use Rattle.rx_ast.specs.ClassTree.{Member, Members, Class, no_member, member}
use Rattle.rx_ast.specs.Tree as tree
use Rattle.rx_ast.specs.Tree.{Node, Nodes, Alternatives, SpannedAlternatives, leaf, quantified, group, no_node, node, no_alternative}
use Rattle.rx_ast.specs.Kinds.{Kind, pattern, disjunction, alternative, term, look_around, quantifier, capturing_group, ignore_group, boundary_assertion, character, dot, class_escape, property_escape, class, class_contents, class_range, string_disjunction, class_string, indexed_reference, named_reference, group_as_kind}
use Rattle.rx_json.specs.Nodes.{node_json}
use Rattle.rx_json.specs.Values.{Field}

module _ (place : Span → List Field) where
  abbrev pub character_json : Character → Json
  character_json c = node_json place (character c) []

  abbrev pub string_json : ClassString → Json
  string_json s = node_json place (class_string s) (map character_json s.body)

  -- in a class: what is in its contents, and each of them
  abbrev mutual
    pub member_json : Member → Json
    member_json (in_class.range r) = node_json place (class_range r) []
    member_json (in_class.escape e) = node_json place (class_escape e) []
    member_json (in_class.property p) = node_json place (property_escape p) []
    member_json (in_class.character c) = character_json c
    member_json (in_class.nested c) = class_json c
    member_json (in_class.strings d) = node_json place (string_disjunction d) (map string_json d.body)

    pub members_json : Members → List Json
    members_json no_member = []
    members_json (member m ms) = member_json m ∷ members_json ms

    pub class_json : Class → Json
    class_json (in_class.class s negative may_have_strings kind ms) = node_json place (class (in_class.class s negative may_have_strings kind ms)) (members_json ms)

  -- the node that a term is
  abbrev mutual
    pub term_json : Node → Json
    term_json (leaf (tree.boundary b)) = node_json place (boundary_assertion b) []
    term_json (leaf (tree.character c)) = character_json c
    term_json (leaf (tree.dot d)) = node_json place (dot d) []
    term_json (leaf (tree.class_escape e)) = node_json place (class_escape e) []
    term_json (leaf (tree.property p)) = node_json place (property_escape p) []
    term_json (leaf (tree.class c)) = class_json c
    term_json (leaf (tree.indexed r)) = node_json place (indexed_reference r) []
    term_json (leaf (tree.named r)) = node_json place (named_reference r) []
    term_json (quantified s min max greedy n) = node_json place (quantifier s min max greedy n) (term_json n ∷ [])
    term_json (group s o d more) = node_json place (group_as_kind s o (d, more)) (node_json place (disjunction (d, more)) (alternatives_json more) ∷ [])

    pub terms_json : Nodes → List Json
    terms_json no_node = []
    terms_json (node n ns) = term_json n ∷ terms_json ns

    pub alternatives_json : Alternatives → List Json
    alternatives_json no_alternative = []
    alternatives_json (tree.alternative s ns more) = node_json place (alternative (s, ns)) (terms_json ns) ∷ alternatives_json more

  abbrev pub disjunction_json : SpannedAlternatives → Json
  disjunction_json d = node_json place (disjunction d) (alternatives_json d.1)

  -- Any node: `tree_json_is` of `proofs/Trees.antt` says that it is the node with what its children are.
  unfoldable pub tree_json : Kind → Json
  tree_json (pattern p) = node_json place (pattern p) (disjunction_json p.1 ∷ [])
  tree_json (disjunction d) = disjunction_json d
  tree_json (alternative a) = node_json place (alternative a) (terms_json a.1)
  tree_json (term n) = term_json n
  tree_json (look_around s kind d) = node_json place (look_around s kind d) (disjunction_json d ∷ [])
  tree_json (quantifier s min max greedy n) = node_json place (quantifier s min max greedy n) (term_json n ∷ [])
  tree_json (capturing_group s name d) = node_json place (capturing_group s name d) (disjunction_json d ∷ [])
  tree_json (ignore_group s modifiers d) = node_json place (ignore_group s modifiers d) (disjunction_json d ∷ [])
  tree_json (boundary_assertion b) = node_json place (boundary_assertion b) []
  tree_json (character c) = character_json c
  tree_json (dot d) = node_json place (dot d) []
  tree_json (class_escape e) = node_json place (class_escape e) []
  tree_json (property_escape p) = node_json place (property_escape p) []
  tree_json (class c) = class_json c
  tree_json (class_contents m) = member_json m
  tree_json (class_range r) = node_json place (class_range r) []
  tree_json (string_disjunction d) = node_json place (string_disjunction d) (map string_json d.body)
  tree_json (class_string s) = string_json s
  tree_json (indexed_reference r) = node_json place (indexed_reference r) []
  tree_json (named_reference r) = node_json place (named_reference r) []
