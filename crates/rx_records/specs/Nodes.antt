-- What the record of a node says of that node alone.
use Rattle.std.specs.Prelude.{ℕ, ◌+◌, Bool, false, List, [], ◌∷◌, ◌++◌, Option, Some, None, is_some, unwrap_or, encode_utf8_all, length}
use Rattle.rx_base.specs.declared.span.Span.{Span}
use Rattle.rx_ast.specs.declared.leaf.Modifiers.{Modifiers}
use Rattle.rx_ast.specs.ClassTree as in_class
use Rattle.rx_ast.specs.Kinds.{Kind, pattern, disjunction, alternative, term, look_around, quantifier, capturing_group, ignore_group, boundary_assertion, character, dot, class_escape, property_escape, class, class_contents, class_range, string_disjunction, class_string, indexed_reference, named_reference, kind_span}
use Rattle.rx_records.specs.declared.node.Node.{Node}
use Rattle.rx_records.specs.declared.node.Range.{Range}
use Rattle.rx_kinds.specs.Codes.{boundary_code, character_code, class_escape_code, contents_code, look_code}
use Rattle.rx_records.specs.Ranges.{bytes_at, no_range, range_of}

-- The number of each type of node. A term and the contents of a class have no record.
abbrev pub no_node_type : ℕ
no_node_type = 0

abbrev pub pattern_type : ℕ
pattern_type = 1

abbrev pub disjunction_type : ℕ
disjunction_type = 2

abbrev pub alternative_type : ℕ
alternative_type = 3

abbrev pub look_around_assertion_type : ℕ
look_around_assertion_type = 4

abbrev pub quantifier_type : ℕ
quantifier_type = 5

abbrev pub capturing_group_type : ℕ
capturing_group_type = 6

abbrev pub ignore_group_type : ℕ
ignore_group_type = 7

abbrev pub boundary_assertion_type : ℕ
boundary_assertion_type = 8

abbrev pub character_type : ℕ
character_type = 9

abbrev pub dot_type : ℕ
dot_type = 10

abbrev pub character_class_escape_type : ℕ
character_class_escape_type = 11

abbrev pub unicode_property_escape_type : ℕ
unicode_property_escape_type = 12

abbrev pub character_class_type : ℕ
character_class_type = 13

abbrev pub character_class_range_type : ℕ
character_class_range_type = 14

abbrev pub class_string_disjunction_type : ℕ
class_string_disjunction_type = 15

abbrev pub class_string_type : ℕ
class_string_type = 16

abbrev pub indexed_reference_type : ℕ
indexed_reference_type = 17

abbrev pub named_reference_type : ℕ
named_reference_type = 18

-- What was recorded before a node: how many nodes, how many capturing groups, and how many bytes of names and values.
pub record Before : Type 0 where
  pub nodes : ℕ
  pub groups : ℕ
  pub bytes : ℕ

-- a node of which nothing is told but its type and its span
abbrev pub plain : ℕ → Span → Node
plain node_type span = record {
  node_type = node_type;
  kind = 0;
  enabling = 0;
  disabling = 0;
  negative = false;
  strings = false;
  greedy = false;
  has_max = false;
  has_name = false;
  has_property_value = false;
  has_modifiers = false;
  spare = false;
  number = 0;
  span = range_of span;
  children = 0;
  next = 0;
  modifiers = no_range;
  name = no_range;
  property_value = no_range;
  min = 0;
  max = 0;
}

abbrev pub of_kind : ℕ → Node → Node
of_kind kind node = record node { kind = kind }

abbrev pub with_number : ℕ → Node → Node
with_number number node = record node { number = number }

abbrev pub with_strings : Bool → Node → Node
with_strings strings node = record node { strings = strings }

abbrev pub with_negative : Bool → Node → Node
with_negative negative node = record node { negative = negative }

-- where the bytes of a text stand that begin after so many, if there is a text
abbrev pub optional_range : ℕ → Option (List ℕ) → Range
optional_range start None = no_range
optional_range start (Some text) = bytes_at start (encode_utf8_all text)

-- a name whose bytes begin after so many, if there is one
abbrev pub with_name : ℕ → Option (List ℕ) → Node → Node
with_name start name node = record node { has_name = is_some name; name = optional_range start name }

abbrev pub with_property_value : ℕ → Option (List ℕ) → Node → Node
with_property_value start value node = record node { has_property_value = is_some value; property_value = optional_range start value }

abbrev pub with_counts : ℕ → Option ℕ → Bool → Node → Node
with_counts min max greedy node = record node { min = min; has_max = is_some max; max = unwrap_or max 0; greedy = greedy }

-- the bits of the modifiers that a group enables and disables, and where they stand
abbrev pub enabled : Option Modifiers → ℕ
enabled None = 0
enabled (Some it) = it.enabling.0

abbrev pub disabled : Option Modifiers → ℕ
disabled None = 0
disabled (Some it) = it.disabling.0

abbrev pub modifiers_range : Option Modifiers → Range
modifiers_range None = no_range
modifiers_range (Some it) = range_of it.span

abbrev pub with_modifiers : Option Modifiers → Node → Node
with_modifiers modifiers node =
    record node { has_modifiers = is_some modifiers; enabling = enabled modifiers; disabling = disabled modifiers; modifiers = modifiers_range modifiers }

-- The record of a node but for the nodes in it: `children` and `next`. A term and the contents of a class have no record.
abbrev pub own : Before → Kind → Node
own before (pattern p) = plain pattern_type p.0
own before (disjunction d) = plain disjunction_type d.0
own before (alternative a) = plain alternative_type a.0
own before (look_around s kind d) = of_kind (look_code kind) (plain look_around_assertion_type s)
own before (quantifier s min max greedy n) = with_counts min max greedy (plain quantifier_type s)
own before (capturing_group s name d) = with_number (before.groups + 1) (with_name before.bytes name (plain capturing_group_type s))
own before (ignore_group s modifiers d) = with_modifiers modifiers (plain ignore_group_type s)
own before (boundary_assertion b) = of_kind (boundary_code b.kind) (plain boundary_assertion_type b.span)
own before (character c) = with_number c.value (of_kind (character_code c.kind) (plain character_type c.span))
own before (dot d) = plain dot_type d.span
own before (class_escape e) = of_kind (class_escape_code e.kind) (plain character_class_escape_type e.span)
own before (property_escape p) =
    with_property_value (before.bytes + length (encode_utf8_all p.name)) p.value (with_name before.bytes (Some p.name) (with_strings p.strings (with_negative p.negative (plain unicode_property_escape_type p.span))))
own before (class (in_class.class s negative may_have_strings kind ms)) = of_kind (contents_code kind) (with_strings may_have_strings (with_negative negative (plain character_class_type s)))
own before (class_range r) = plain character_class_range_type r.span
own before (string_disjunction d) = with_strings d.strings (plain class_string_disjunction_type d.span)
own before (class_string s) = with_strings s.strings (plain class_string_type s.span)
own before (indexed_reference r) = with_number r.index (plain indexed_reference_type r.span)
own before (named_reference r) = with_name before.bytes (Some r.name) (plain named_reference_type r.span)
own before (term n) = plain no_node_type (kind_span (term n))
own before (class_contents m) = plain no_node_type (kind_span (class_contents m))

-- the bytes of a text, if there is one
abbrev pub bytes_of : Option (List ℕ) → List ℕ
bytes_of None = []
bytes_of (Some text) = encode_utf8_all text

-- the bytes of a node's names and values
abbrev pub own_text : Kind → List ℕ
own_text (capturing_group s name d) = bytes_of name
own_text (property_escape p) = encode_utf8_all p.name ++ bytes_of p.value
own_text (named_reference r) = encode_utf8_all r.name
own_text _ = []

-- the index of a capturing group; of other nodes nothing
abbrev pub own_index : Before → Kind → List ℕ
own_index before (capturing_group s name d) = before.nodes ∷ []
own_index before _ = []
