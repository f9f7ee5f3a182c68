-- What is compared of alternatives: each node in order, but for its span and, if it is a character, its kind, as numbers.
use Rattle.std.specs.Prelude.{ℕ, ◌%◌, Bool, true, false, Option, Some, None, List, [], ◌∷◌, ◌++◌, length}
use Rattle.std.specs.List.{flat_map}
use Rattle.std.specs.Str.{bytes_eq}
use Rattle.rx_ast.specs.declared.leaf.Modifiers.{Modifiers}
use Rattle.rx_ast.specs.ClassTree as in_class
use Rattle.rx_ast.specs.Tree.{Nodes}
use Rattle.rx_ast.specs.Kinds.{Kind, pattern, disjunction, alternative, term, look_around, quantifier, capturing_group, ignore_group, boundary_assertion, character, dot, class_escape, property_escape, class, class_contents, class_range, string_disjunction, class_string, indexed_reference, named_reference, children, order}
use Rattle.rx_ast.specs.Forget.{nowhere}
use Rattle.rx_kinds.specs.Codes.{boundary_code, class_escape_code, contents_code, look_code}

abbrev pub bit : Bool → ℕ
bit true = 1
bit false = 0

abbrev pub max_numbers : Option ℕ → List ℕ
max_numbers None = 0 ∷ []
max_numbers (Some max) = 1 ∷ max ∷ []

-- a name with its end: 1 before each character, and 0 after the last
abbrev pub name_numbers : List ℕ → List ℕ
name_numbers [] = 0 ∷ []
name_numbers (c ∷ cs) = 1 ∷ c ∷ name_numbers cs

abbrev pub optional_name_numbers : Option (List ℕ) → List ℕ
optional_name_numbers None = 0 ∷ []
optional_name_numbers (Some name) = 1 ∷ name_numbers name

-- of modifiers three bits count
abbrev pub modifiers_numbers : Option Modifiers → List ℕ
modifiers_numbers None = 0 ∷ []
modifiers_numbers (Some m) = 1 ∷ m.enabling.0 % 8 ∷ m.disabling.0 % 8 ∷ []

-- what is compared of a node itself: of which type it is, and what it says besides the nodes in it
abbrev pub own_numbers : Kind → List ℕ
own_numbers (pattern p) = 0 ∷ []
own_numbers (disjunction d) = 1 ∷ []
own_numbers (alternative a) = 2 ∷ []
own_numbers (term n) = 3 ∷ []
own_numbers (look_around s kind d) = 4 ∷ look_code kind ∷ []
own_numbers (quantifier s min max greedy n) = 5 ∷ min ∷ bit greedy ∷ max_numbers max
own_numbers (capturing_group s name d) = 6 ∷ optional_name_numbers name
own_numbers (ignore_group s modifiers d) = 7 ∷ modifiers_numbers modifiers
own_numbers (boundary_assertion b) = 8 ∷ boundary_code b.kind ∷ []
own_numbers (character c) = 9 ∷ c.value ∷ []
own_numbers (dot d) = 10 ∷ []
own_numbers (class_escape e) = 11 ∷ class_escape_code e.kind ∷ []
own_numbers (property_escape p) = 12 ∷ bit p.negative ∷ bit p.strings ∷ (name_numbers p.name ++ optional_name_numbers p.value)
own_numbers (class (in_class.class s negative strings kind ms)) = 13 ∷ bit negative ∷ bit strings ∷ contents_code kind ∷ []
own_numbers (class_contents m) = 14 ∷ []
own_numbers (class_range r) = 15 ∷ []
own_numbers (string_disjunction d) = 16 ∷ bit d.strings ∷ []
own_numbers (class_string s) = 17 ∷ bit s.strings ∷ []
own_numbers (indexed_reference r) = 18 ∷ r.index ∷ []
own_numbers (named_reference r) = 19 ∷ name_numbers r.name

-- how many nodes stand directly in a node, and its own numbers
abbrev pub node_numbers : Kind → List ℕ
node_numbers k = length (children k) ∷ own_numbers k

-- the numbers of a node and of all nodes in it
abbrev pub numbers : Kind → List ℕ
numbers k = flat_map node_numbers (order k)

-- whether two alternatives have one `bare`: `equal_numbers_are_equal_bare` of `laws` says that it is true exactly where they have
abbrev pub are_equal_bare : Nodes → Nodes → Bool
are_equal_bare ns ms = bytes_eq (numbers (alternative (nowhere, ns))) (numbers (alternative (nowhere, ms)))
