-- The text that `Display` writes of a node. It shows how each character was escaped, and joins surrogates that stand one after the other. ECMA-262 has no such
-- text. The format is that of the Rust crate, but for control letters and for bits of modifiers that have no meaning (docs/DIFFERENCES.md).
use Rattle.std.specs.Prelude.{ℕ, ◌+◌, ◌-◌, Bool, true, false, ◌==◌, ◌&&◌, not, nat_le, if◌then◌else◌, List, [], ◌∷◌, ◌++◌, length, replicate, Option, Some, None, is_some, codes}
use Rattle.std.specs.Fmt.{digits}
use Rattle.rx_base.specs.Ascii as ascii
use Rattle.rx_base.specs.Characters.{is_character, is_lead, is_trail}
use Rattle.rx_base.specs.SurrogatePair.{surrogate_pair}
use Rattle.rx_ast.specs.declared.leaf.Character.{Character}
use Rattle.rx_ast.specs.declared.leaf.CharacterKind.{CharacterKind}
use Rattle.rx_ast.specs.declared.leaf.CharacterKind.TheVariants as kind
use Rattle.rx_ast.specs.declared.class.CharacterClassRange.{CharacterClassRange}
use Rattle.rx_ast.specs.declared.class.ClassString.{ClassString}
use Rattle.rx_ast.specs.declared.class.ClassStringDisjunction.{ClassStringDisjunction}
use Rattle.rx_ast.specs.declared.term.Pattern.{Pattern}
use Rattle.rx_ast.specs.ClassTree as in_class
use Rattle.rx_ast.specs.ClassTree.{Member, Members, Class, no_member, member}
use Rattle.rx_ast.specs.Kinds as kinds
use Rattle.rx_ast.specs.Kinds.{Kind}
use Rattle.rx_ast.specs.Texts.{boundary_text, class_escape_text, class_opener, indexed_text, look_text, named_text, opener_text, operator_text, property_text, quantifier_text}
use Rattle.rx_ast.specs.Tree as tree
use Rattle.rx_ast.specs.Tree.{Leaf, Node, Nodes, Alternatives, leaf, quantified, group, no_node, node, no_alternative, alternative, mirror_disjunction}

-- zeros before the digits, so that there are k of them at least
abbrev pub at_least : ℕ → List ℕ → List ℕ
at_least k ds = replicate (k - length ds) ascii.zero ++ ds

-- in upper case
abbrev pub hexadecimal : ℕ → List ℕ
hexadecimal n = digits 16 true n

abbrev pub octal : ℕ → List ℕ
octal n = digits 8 false n

-- `\uXXXX` up to FFFF, and past it `\u{H..}`
unfoldable pub unicode_shown : ℕ → List ℕ
unicode_shown v = if nat_le v 0xFFFF then codes "\\u" ++ at_least 4 (hexadecimal v) else codes "\\u{" ++ (hexadecimal v ++ codes "}")

-- `\x` and two digits at least
unfoldable pub hexadecimal_shown : ℕ → List ℕ
hexadecimal_shown v = codes "\\x" ++ at_least 2 (hexadecimal v)

-- a backslash, and k octal digits at least
unfoldable pub octal_shown : ℕ → ℕ → List ℕ
octal_shown k v = codes "\\" ++ at_least k (octal v)

-- a backslash and the character
abbrev pub with_backslash : ℕ → List ℕ
with_backslash v = ascii.backslash ∷ v ∷ []

unfoldable pub single_escape_shown : ℕ → List ℕ
single_escape_shown v =
    if v == ascii.line_feed then codes "\\n"
    else (if v == ascii.carriage_return then codes "\\r"
    else (if v == ascii.tab then codes "\\t"
    else (if v == ascii.vertical_tab then codes "\\v"
    else (if v == ascii.form_feed then codes "\\f"
    else (if v == ascii.backspace then codes "\\b"
    else with_backslash v)))))

-- `\c` and the capital letter of the number 1 to 26
unfoldable pub control_shown : ℕ → List ℕ
control_shown v =
    if nat_le 1 v && nat_le v 26 then codes "\\c" ++ ((64 + v) ∷ [])
    else (if nat_le v 0xFF then hexadecimal_shown v else unicode_shown v)

-- the text of a character, by its kind
abbrev pub kind_shown : CharacterKind → ℕ → List ℕ
kind_shown kind.Symbol v = v ∷ []
kind_shown kind.UnicodeEscape v = unicode_shown v
kind_shown kind.HexadecimalEscape v = hexadecimal_shown v
kind_shown kind.Identifier v = with_backslash v
kind_shown kind.SingleEscape v = single_escape_shown v
kind_shown kind.ControlLetter v = control_shown v
kind_shown kind.Null v = codes "\\0"
kind_shown kind.Octal1 v = octal_shown 1 v
kind_shown kind.Octal2 v = octal_shown 2 v
kind_shown kind.Octal3 v = octal_shown 3 v

-- whether a value that is no character is written as a number: in every kind but `\0`
abbrev pub shows_number : CharacterKind → Bool
shows_number kind.Null = false
shows_number kind.Symbol = true
shows_number kind.UnicodeEscape = true
shows_number kind.HexadecimalEscape = true
shows_number kind.Identifier = true
shows_number kind.SingleEscape = true
shows_number kind.ControlLetter = true
shows_number kind.Octal1 = true
shows_number kind.Octal2 = true
shows_number kind.Octal3 = true

-- a character by itself
unfoldable pub character_shown : Character → List ℕ
character_shown c = if shows_number c.kind && not (is_character c.value) then unicode_shown c.value else kind_shown c.kind c.value

-- a lead surrogate of such a kind is joined with a trail surrogate right after it
abbrev pub may_join : CharacterKind → Bool
may_join kind.Symbol = true
may_join kind.UnicodeEscape = true
may_join kind.HexadecimalEscape = false
may_join kind.Identifier = false
may_join kind.SingleEscape = false
may_join kind.ControlLetter = false
may_join kind.Null = false
may_join kind.Octal1 = false
may_join kind.Octal2 = false
may_join kind.Octal3 = false

-- Two characters of an alternative or of a class, one right after the other, are written together, as the one that the pair of surrogates stands for.
unfoldable pub are_joined : Character → Character → Bool
are_joined c d = (may_join c.kind && is_lead c.value) && is_trail d.value

-- the character that two neighbours are written as, where they are characters that are joined
abbrev pub joined_pair : Option Character → Option Character → Option ℕ
joined_pair None next = None
joined_pair (Some c) None = None
joined_pair (Some c) (Some d) = if are_joined c d then Some (surrogate_pair c.value d.value) else None

-- the pair, or the text of what stands alone
abbrev pub pair_or : Option ℕ → List ℕ → List ℕ
pair_or None text = text
pair_or (Some pair) text = pair ∷ []

abbrev pub characters_shown : List Character → List ℕ
characters_shown [] = []
characters_shown (c ∷ cs) = character_shown c ++ characters_shown cs

-- each after a bar
abbrev pub barred_strings_shown : List ClassString → List ℕ
barred_strings_shown [] = []
barred_strings_shown (s ∷ ss) = codes "|" ++ (characters_shown s.body ++ barred_strings_shown ss)

abbrev pub strings_shown : List ClassString → List ℕ
strings_shown [] = []
strings_shown (s ∷ ss) = characters_shown s.body ++ barred_strings_shown ss

-- the character that one of a class's contents is, if it is one
abbrev pub member_character : Member → Option Character
member_character (in_class.range r) = None
member_character (in_class.escape e) = None
member_character (in_class.property p) = None
member_character (in_class.character c) = Some c
member_character (in_class.nested c) = None
member_character (in_class.strings d) = None

abbrev pub first_of_members : Members → Option Character
first_of_members no_member = None
first_of_members (member m ms) = member_character m

-- the pair that it is written as with the first of those after it
abbrev pub member_pair : Member → Members → Option ℕ
member_pair m ms = joined_pair (member_character m) (first_of_members ms)

abbrev pub range_shown : CharacterClassRange → List ℕ
range_shown r = character_shown r.min ++ (codes "-" ++ character_shown r.max)

abbrev pub string_disjunction_shown : ClassStringDisjunction → List ℕ
string_disjunction_shown d = codes "\\q{" ++ (strings_shown d.body ++ codes "}")

abbrev mutual
  pub member_shown : Member → List ℕ
  member_shown (in_class.range r) = range_shown r
  member_shown (in_class.escape e) = class_escape_text e.kind
  member_shown (in_class.property p) = property_text p.negative p.name p.value
  member_shown (in_class.character c) = character_shown c
  member_shown (in_class.nested c) = class_shown c
  member_shown (in_class.strings d) = string_disjunction_shown d

  pub class_shown : Class → List ℕ
  class_shown (in_class.class s negative may kind ms) = class_opener negative ++ (members_shown (operator_text kind) ms ++ codes "]")

  pub members_shown : List ℕ → Members → List ℕ
  members_shown operator no_member = []
  members_shown operator (member m ms) = pair_or (member_pair m ms) (member_shown m) ++ more_members_shown operator (is_some (member_pair m ms)) ms

  -- Each after the operator, but for the first where it was written together with the one before it: the two are one operand.
  pub more_members_shown : List ℕ → Bool → Members → List ℕ
  more_members_shown operator joined no_member = []
  more_members_shown operator joined (member m ms) =
      (if joined then [] else operator ++ pair_or (member_pair m ms) (member_shown m)) ++ more_members_shown operator (is_some (member_pair m ms)) ms

abbrev pub leaf_shown : Leaf → List ℕ
leaf_shown (tree.boundary b) = boundary_text b.kind
leaf_shown (tree.character c) = character_shown c
leaf_shown (tree.dot d) = codes "."
leaf_shown (tree.class_escape e) = class_escape_text e.kind
leaf_shown (tree.property p) = property_text p.negative p.name p.value
leaf_shown (tree.class c) = class_shown c
leaf_shown (tree.indexed r) = indexed_text r.index
leaf_shown (tree.named r) = named_text r.name

abbrev pub leaf_character : Leaf → Option Character
leaf_character (tree.boundary b) = None
leaf_character (tree.character c) = Some c
leaf_character (tree.dot d) = None
leaf_character (tree.class_escape e) = None
leaf_character (tree.property p) = None
leaf_character (tree.class c) = None
leaf_character (tree.indexed r) = None
leaf_character (tree.named r) = None

-- the character that a term is, if it is one
abbrev pub node_character : Node → Option Character
node_character (leaf l) = leaf_character l
node_character (quantified s min max greedy n) = None
node_character (group s o d more) = None

abbrev pub first_of_nodes : Nodes → Option Character
first_of_nodes no_node = None
first_of_nodes (node n ns) = node_character n

-- the pair that it is written as with the first of those after it
abbrev pub node_pair : Node → Nodes → Option ℕ
node_pair n ns = joined_pair (node_character n) (first_of_nodes ns)

abbrev mutual
  pub node_shown : Node → List ℕ
  node_shown (leaf l) = leaf_shown l
  node_shown (quantified s min max greedy n) = node_shown n ++ quantifier_text min max greedy
  node_shown (group s o d more) = opener_text o ++ (alternatives_shown more ++ codes ")")

  -- the terms of an alternative; the flag says whether the first was written together with the one before it
  pub nodes_shown : Bool → Nodes → List ℕ
  nodes_shown joined no_node = []
  nodes_shown joined (node n ns) = (if joined then [] else pair_or (node_pair n ns) (node_shown n)) ++ nodes_shown (is_some (node_pair n ns)) ns

  pub alternatives_shown : Alternatives → List ℕ
  alternatives_shown no_alternative = []
  alternatives_shown (alternative s ns more) = nodes_shown false ns ++ barred_shown more

  -- each after a bar
  pub barred_shown : Alternatives → List ℕ
  barred_shown no_alternative = []
  barred_shown (alternative s ns more) = codes "|" ++ (nodes_shown false ns ++ barred_shown more)

abbrev pub pattern_shown : Pattern → List ℕ
pattern_shown p = alternatives_shown (mirror_disjunction p.body).1

-- the text of any node
abbrev pub shown : Kind → List ℕ
shown (kinds.pattern p) = alternatives_shown p.1.1
shown (kinds.disjunction d) = alternatives_shown d.1
shown (kinds.alternative a) = nodes_shown false a.1
shown (kinds.term n) = node_shown n
shown (kinds.look_around s kind d) = look_text kind ++ (alternatives_shown d.1 ++ codes ")")
shown (kinds.quantifier s min max greedy n) = node_shown n ++ quantifier_text min max greedy
shown (kinds.capturing_group s name d) = opener_text (tree.capturing name) ++ (alternatives_shown d.1 ++ codes ")")
shown (kinds.ignore_group s modifiers d) = opener_text (tree.ignoring modifiers) ++ (alternatives_shown d.1 ++ codes ")")
shown (kinds.boundary_assertion b) = boundary_text b.kind
shown (kinds.character c) = character_shown c
shown (kinds.dot d) = codes "."
shown (kinds.class_escape e) = class_escape_text e.kind
shown (kinds.property_escape p) = property_text p.negative p.name p.value
shown (kinds.class c) = class_shown c
shown (kinds.class_contents m) = member_shown m
shown (kinds.class_range r) = range_shown r
shown (kinds.string_disjunction d) = string_disjunction_shown d
shown (kinds.class_string s) = characters_shown s.body
shown (kinds.indexed_reference r) = indexed_text r.index
shown (kinds.named_reference r) = named_text r.name
