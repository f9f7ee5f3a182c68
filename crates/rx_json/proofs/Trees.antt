-- A tree as JSON, node by node.
use Rattle.std.proofs.Common.{◌≡◌, refl, ap, List, [], ◌∷◌, map}
use Rattle.json.specs.Json.{Json}
use Rattle.rx_base.specs.declared.span.Span.{Span}
use Rattle.rx_ast.specs.declared.class.ClassString.{ClassString}
use Rattle.rx_ast.specs.declared.leaf.Character.{Character}
use Rattle.rx_ast.specs.ClassTree as in_class
use Rattle.rx_ast.specs.ClassTree.{Member, Members, no_member, member}
use Rattle.rx_ast.specs.Tree as tree
use Rattle.rx_ast.specs.Tree.{Node, Nodes, Alternatives, leaf, quantified, group, no_node, node, no_alternative}
use Rattle.rx_ast.specs.Kinds.{Kind, pattern, disjunction, alternative, term, look_around, quantifier, capturing_group, ignore_group, boundary_assertion, character, dot, class_escape, property_escape, class, class_contents, class_range, string_disjunction, class_string, indexed_reference, named_reference, in_term, in_contents, each_term, each_alternative, each_contents, children}
use Rattle.rx_json.specs.Nodes.{node_json}
use Rattle.rx_json.specs.Trees.{character_json, string_json, member_json, members_json, term_json, terms_json, alternatives_json, tree_json}
use Rattle.rx_json.specs.Values.{Field}

module _ (place : Span → List Field) where
  abbrev trees : List Kind → List Json
  trees ks = map (tree_json place) ks

  term_is : (n : Node) → term_json place n ≡ tree_json place (in_term n)
  unfolding tree_json
  term_is (leaf (tree.boundary b)) = refl
  term_is (leaf (tree.character c)) = refl
  term_is (leaf (tree.dot d)) = refl
  term_is (leaf (tree.class_escape e)) = refl
  term_is (leaf (tree.property p)) = refl
  term_is (leaf (tree.class c)) = refl
  term_is (leaf (tree.indexed r)) = refl
  term_is (leaf (tree.named r)) = refl
  term_is (quantified s min max greedy n) = refl
  term_is (group s (tree.capturing name) d more) = refl
  term_is (group s (tree.ignoring modifiers) d more) = refl
  term_is (group s (tree.looking kind) d more) = refl

  contents_is : (m : Member) → member_json place m ≡ tree_json place (in_contents m)
  unfolding tree_json
  contents_is (in_class.range r) = refl
  contents_is (in_class.escape e) = refl
  contents_is (in_class.property p) = refl
  contents_is (in_class.character c) = refl
  contents_is (in_class.nested c) = refl
  contents_is (in_class.strings d) = refl

  terms_are : (ns : Nodes) → terms_json place ns ≡ trees (each_term ns)
  unfolding tree_json
  terms_are no_node = refl
  terms_are (node n ns) = ap (λ js. term_json place n ∷ js) (terms_are ns)

  alternatives_are : (more : Alternatives) → alternatives_json place more ≡ trees (each_alternative more)
  unfolding tree_json
  alternatives_are no_alternative = refl
  alternatives_are (tree.alternative s ns more) = ap (λ js. node_json place (alternative (s, ns)) (terms_json place ns) ∷ js) (alternatives_are more)

  members_are : (ms : Members) → members_json place ms ≡ trees (each_contents ms)
  unfolding tree_json
  members_are no_member = refl
  members_are (member m ms) = ap (λ js. member_json place m ∷ js) (members_are ms)

  characters_are : (cs : List Character) → map (character_json place) cs ≡ trees (map character cs)
  unfolding tree_json
  characters_are [] = refl
  characters_are (c ∷ cs) = ap (λ js. character_json place c ∷ js) (characters_are cs)

  strings_are : (ss : List ClassString) → map (string_json place) ss ≡ trees (map class_string ss)
  unfolding tree_json
  strings_are [] = refl
  strings_are (s ∷ ss) = ap (λ js. string_json place s ∷ js) (strings_are ss)

  -- A node is its own fields and what its children are.
  pub tree_json_is : (k : Kind) → tree_json place k ≡ node_json place k (trees (children k))
  unfolding tree_json
  tree_json_is (pattern p) = refl
  tree_json_is (disjunction d) = ap (node_json place (disjunction d)) (alternatives_are d.1)
  tree_json_is (alternative a) = ap (node_json place (alternative a)) (terms_are a.1)
  tree_json_is (term n) = term_is n
  tree_json_is (look_around s kind d) = refl
  tree_json_is (quantifier s min max greedy n) = refl
  tree_json_is (capturing_group s name d) = refl
  tree_json_is (ignore_group s modifiers d) = refl
  tree_json_is (boundary_assertion b) = refl
  tree_json_is (character c) = refl
  tree_json_is (dot d) = refl
  tree_json_is (class_escape e) = refl
  tree_json_is (property_escape p) = refl
  tree_json_is (class (in_class.class s negative may_have_strings kind ms)) = ap (node_json place (class (in_class.class s negative may_have_strings kind ms))) (members_are ms)
  tree_json_is (class_contents m) = contents_is m
  tree_json_is (class_range r) = refl
  tree_json_is (string_disjunction d) = ap (node_json place (string_disjunction d)) (strings_are d.body)
  tree_json_is (class_string s) = ap (node_json place (class_string s)) (characters_are s.body)
  tree_json_is (indexed_reference r) = refl
  tree_json_is (named_reference r) = refl
