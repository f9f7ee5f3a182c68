-- The canonical spelling of a tree: of the values that one text can spell, the one text that is written. It looks at no span and at no character kind.
use Rattle.std.specs.Prelude.{ℕ, Bool, true, false, List, [], ◌++◌, codes}
use Rattle.rx_ast.specs.Texts.{boundary_text, class_escape_text, indexed_text, named_text, opener_text, property_text, quantifier_text}
use Rattle.rx_ast.specs.Tree as tree
use Rattle.rx_ast.specs.Tree.{Leaf, Node, Nodes, Alternatives, leaf, quantified, group, no_node, node, no_alternative, alternative}
use Rattle.rx_model.specs.declared.mode.Mode.{Mode}
use Rattle.rx_model.specs.Spelling.CharacterText.{outside, character_text}
use Rattle.rx_model.specs.Spelling.ClassText.{class_text}

-- The flag says whether an unquantified indexed reference stands right before.
abbrev pub leaf_text : Mode → Bool → Leaf → List ℕ
leaf_text mode after_reference (tree.boundary b) = boundary_text b.kind
leaf_text mode after_reference (tree.character c) = character_text mode (outside after_reference) c.value
leaf_text mode after_reference (tree.dot d) = codes "."
leaf_text mode after_reference (tree.class_escape e) = class_escape_text e.kind
leaf_text mode after_reference (tree.property p) = property_text p.negative p.name p.value
leaf_text mode after_reference (tree.class c) = class_text mode c
leaf_text mode after_reference (tree.indexed r) = indexed_text r.index
leaf_text mode after_reference (tree.named r) = named_text r.name

-- whether a node is an unquantified indexed reference
abbrev pub leaf_refers : Leaf → Bool
leaf_refers (tree.boundary b) = false
leaf_refers (tree.character c) = false
leaf_refers (tree.dot d) = false
leaf_refers (tree.class_escape e) = false
leaf_refers (tree.property p) = false
leaf_refers (tree.class c) = false
leaf_refers (tree.indexed r) = true
leaf_refers (tree.named r) = false

abbrev pub refers : Node → Bool
refers (leaf l) = leaf_refers l
refers (quantified s min max greedy n) = false
refers (group s o d more) = false

abbrev mutual
  pub node_text : Mode → Bool → Node → List ℕ
  node_text mode after_reference (leaf l) = leaf_text mode after_reference l
  node_text mode after_reference (quantified s min max greedy n) = node_text mode after_reference n ++ quantifier_text min max greedy
  node_text mode after_reference (group s o d more) = opener_text o ++ (alternatives_text mode more ++ codes ")")

  pub nodes_text : Mode → Bool → Nodes → List ℕ
  nodes_text mode after_reference no_node = []
  nodes_text mode after_reference (node n ns) = node_text mode after_reference n ++ nodes_text mode (refers n) ns

  pub alternatives_text : Mode → Alternatives → List ℕ
  alternatives_text mode no_alternative = []
  alternatives_text mode (alternative s ns more) = nodes_text mode false ns ++ barred_text mode more

  -- each after a bar
  pub barred_text : Mode → Alternatives → List ℕ
  barred_text mode no_alternative = []
  barred_text mode (alternative s ns more) = codes "|" ++ (nodes_text mode false ns ++ barred_text mode more)

-- of the bare tree
abbrev pub spelling : Alternatives → Mode → List ℕ
spelling tree mode = alternatives_text mode tree
