-- Nodes of types in which nothing can stand.
use Rattle.std.specs.Prelude.{Bool, true, false}
use Rattle.rx_ast.specs.Kinds.{Kind, alternative, boundary_assertion, capturing_group, character, class, class_contents, class_escape, class_range, class_string, disjunction, dot, ignore_group, indexed_reference, look_around, named_reference, pattern, property_escape, quantifier, string_disjunction, term}

-- A leaf is a node of a type in which nothing can stand. A node of another type is none, even where nothing stands in it, as in an empty alternative; nor is a term or the contents of a class, in which stands the node that it is.
abbrev pub is_leaf : Kind → Bool
is_leaf (pattern p) = false
is_leaf (disjunction d) = false
is_leaf (alternative a) = false
is_leaf (term n) = false
is_leaf (look_around s kind d) = false
is_leaf (quantifier s min max greedy n) = false
is_leaf (capturing_group s name d) = false
is_leaf (ignore_group s modifiers d) = false
is_leaf (boundary_assertion b) = true
is_leaf (character c) = true
is_leaf (dot d) = true
is_leaf (class_escape e) = true
is_leaf (property_escape p) = true
is_leaf (class c) = false
is_leaf (class_contents m) = false
is_leaf (class_range r) = false
is_leaf (string_disjunction d) = false
is_leaf (class_string s) = false
is_leaf (indexed_reference r) = true
is_leaf (named_reference r) = true
