-- Nodes that are not supported.
use Rattle.std.specs.Prelude.{ℕ, ◌+◌, Bool, true, false, ◌&&◌, ◌||◌, Some, List, [], ◌∷◌, if◌then◌else◌, nat_lt}
use Rattle.std.specs.List.{list_any}
use Rattle.rx_base.specs.Texts.{are_same}
use Rattle.rx_ast.specs.declared.leaf.LookAroundAssertionKind.{LookAroundAssertionKind}
use Rattle.rx_ast.specs.declared.leaf.LookAroundAssertionKind.TheVariants.{Lookahead, NegativeLookahead, Lookbehind, NegativeLookbehind}
use Rattle.rx_ast.specs.Kinds.{Kind, look_around, capturing_group, ignore_group, property_escape}
use Rattle.rx_visit.specs.declared.patterns.RegexUnsupportedPatterns.{RegexUnsupportedPatterns}

-- a group of this name
abbrev pub is_named : List ℕ → Kind → Bool
is_named name (capturing_group s (Some other) d) = are_same other name
is_named name _ = false

-- how many of the nodes are groups of this name
abbrev pub count_named : List ℕ → List Kind → ℕ
count_named name [] = 0
count_named name (k ∷ ks) = (if is_named name k then 1 else 0) + count_named name ks

-- two of the nodes, or more, are groups of this name
abbrev pub is_twice : List Kind → List ℕ → Bool
is_twice ks name = nat_lt 1 (count_named name ks)

abbrev pub looks_behind : LookAroundAssertionKind → Bool
looks_behind Lookahead = false
looks_behind NegativeLookahead = false
looks_behind Lookbehind = true
looks_behind NegativeLookbehind = true

-- one of these nodes is not supported: a named group, a group of a name that two of them have, a property escape, a lookbehind, a group with modifiers
abbrev pub is_refused : RegexUnsupportedPatterns → List Kind → Kind → Bool
is_refused set ks (capturing_group s (Some name) d) = set.named_capture_groups || (set.duplicate_named_capture_groups && is_twice ks name)
is_refused set ks (property_escape p) = set.unicode_property_escapes
is_refused set ks (look_around s kind d) = set.look_behind_assertions && looks_behind kind
is_refused set ks (ignore_group s (Some modifiers) d) = set.pattern_modifiers
is_refused set ks _ = false

abbrev pub is_refused_pattern : RegexUnsupportedPatterns → List Kind → Bool
is_refused_pattern set ks = list_any (is_refused set ks) ks
