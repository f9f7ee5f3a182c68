-- What a tree is but for spans, and the bare tree. A span that does not count is put to 0..0, a kind that does
-- not count to `Symbol`, and of modifiers only the three bits count.
use Rattle.std.specs.Prelude.{◌%◌, map}
use Rattle.std.specs.Option.{option_map}
use Rattle.rx_base.specs.declared.span.Span.{Span}
use Rattle.rx_ast.specs.declared.leaf.Character.{Character}
use Rattle.rx_ast.specs.declared.leaf.CharacterKind.{CharacterKind}
use Rattle.rx_ast.specs.declared.leaf.CharacterKind.TheVariants.{Symbol}
use Rattle.rx_ast.specs.declared.leaf.Modifiers.{Modifiers}
use Rattle.rx_ast.specs.declared.class.CharacterClassRange.{CharacterClassRange}
use Rattle.rx_ast.specs.declared.class.ClassString.{ClassString}
use Rattle.rx_ast.specs.declared.class.ClassStringDisjunction.{ClassStringDisjunction}
use Rattle.rx_ast.specs.declared.term.Pattern.{Pattern}
use Rattle.rx_ast.specs.ClassTree.{Member, Members, Class, no_member, member}
use Rattle.rx_ast.specs.ClassTree as in_class
use Rattle.rx_ast.specs.Tree.{Leaf, Opener, Node, Nodes, Alternatives, leaf, quantified, group, no_node, node, no_alternative, alternative, mirror_disjunction}
use Rattle.rx_ast.specs.Tree as tree

abbrev pub nowhere : Span
nowhere = record { start = 0; end = 0 }

-- the three bits that count
abbrev pub three_bits : Modifiers → Modifiers
three_bits m = record {
  span = nowhere;
  enabling = record { 0 = m.enabling.0 % 8 };
  disabling = record { 0 = m.disabling.0 % 8 };
}

-- `kept` is what is kept of the kind of a character.
module _ (kept : CharacterKind → CharacterKind) where
  abbrev pub forget_character : Character → Character
  forget_character c = record { span = nowhere; kind = kept c.kind; value = c.value }

  abbrev pub forget_range : CharacterClassRange → CharacterClassRange
  forget_range r = record { span = nowhere; min = forget_character r.min; max = forget_character r.max }

  abbrev pub forget_string : ClassString → ClassString
  forget_string s = record { span = nowhere; strings = s.strings; body = map forget_character s.body }

  abbrev pub forget_strings : ClassStringDisjunction → ClassStringDisjunction
  forget_strings d = record { span = nowhere; strings = d.strings; body = map forget_string d.body }

  abbrev mutual
    pub forget_member : Member → Member
    forget_member (in_class.range r) = in_class.range (forget_range r)
    forget_member (in_class.escape e) = in_class.escape (record e { span = nowhere })
    forget_member (in_class.property p) = in_class.property (record p { span = nowhere })
    forget_member (in_class.character c) = in_class.character (forget_character c)
    forget_member (in_class.nested c) = in_class.nested (forget_class c)
    forget_member (in_class.strings d) = in_class.strings (forget_strings d)

    pub forget_members : Members → Members
    forget_members no_member = no_member
    forget_members (member m ms) = member (forget_member m) (forget_members ms)

    pub forget_class : Class → Class
    forget_class (in_class.class s negative strings kind ms) = in_class.class nowhere negative strings kind (forget_members ms)

  abbrev pub forget_leaf : Leaf → Leaf
  forget_leaf (tree.boundary b) = tree.boundary (record b { span = nowhere })
  forget_leaf (tree.character c) = tree.character (forget_character c)
  forget_leaf (tree.dot d) = tree.dot (record { span = nowhere })
  forget_leaf (tree.class_escape e) = tree.class_escape (record e { span = nowhere })
  forget_leaf (tree.property p) = tree.property (record p { span = nowhere })
  forget_leaf (tree.class c) = tree.class (forget_class c)
  forget_leaf (tree.indexed r) = tree.indexed (record r { span = nowhere })
  forget_leaf (tree.named r) = tree.named (record r { span = nowhere })

  abbrev pub forget_opener : Opener → Opener
  forget_opener (tree.capturing name) = tree.capturing name
  forget_opener (tree.ignoring modifiers) = tree.ignoring (option_map three_bits modifiers)
  forget_opener (tree.looking kind) = tree.looking kind

  abbrev mutual
    pub forget_node : Node → Node
    forget_node (leaf l) = leaf (forget_leaf l)
    forget_node (quantified s min max greedy n) = quantified nowhere min max greedy (forget_node n)
    forget_node (group s o d more) = group nowhere (forget_opener o) nowhere (forget_alternatives more)

    pub forget_nodes : Nodes → Nodes
    forget_nodes no_node = no_node
    forget_nodes (node n ns) = node (forget_node n) (forget_nodes ns)

    pub forget_alternatives : Alternatives → Alternatives
    forget_alternatives no_alternative = no_alternative
    forget_alternatives (alternative s ns more) = alternative nowhere (forget_nodes ns) (forget_alternatives more)

abbrev pub same_kind : CharacterKind → CharacterKind
same_kind kind = kind

abbrev pub no_kind : CharacterKind → CharacterKind
no_kind kind = Symbol

-- The tree without its spans: two patterns are equal but for spans where these are equal.
-- Why: docs/DECISIONS.md, 3.
abbrev pub without_spans : Pattern → Alternatives
without_spans p = forget_alternatives same_kind (mirror_disjunction p.body).1

-- The bare tree: without its spans and without the kinds of its characters.
abbrev pub bare : Pattern → Alternatives
bare p = forget_alternatives no_kind (mirror_disjunction p.body).1
