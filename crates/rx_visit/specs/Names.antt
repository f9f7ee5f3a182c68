-- Groups of one name.
use Rattle.std.specs.Prelude.{ℕ, Bool, false, Option, Some, None, List, []}
use Rattle.std.specs.List.{list_any}
use Rattle.rx_ast.specs.Kinds.{Kind, capturing_group}
use Rattle.rx_visit.specs.declared.patterns.RegexUnsupportedPatterns.{RegexUnsupportedPatterns}
use Rattle.rx_visit.specs.Patterns.{is_refused, is_twice}

-- the name of a group that has one
abbrev pub name_of : Kind → Option (List ℕ)
name_of (capturing_group s name d) = name
name_of _ = None

-- two of the nodes are groups of this name
abbrev pub is_name_twice : List Kind → Option (List ℕ) → Bool
is_name_twice ks (Some name) = is_twice ks name
is_name_twice ks None = false

-- two of the nodes are groups of one name
abbrev pub has_equal_names : List Kind → Bool
has_equal_names ks = list_any (λ k. is_name_twice ks (name_of k)) ks

-- a node that is not supported whatever stands beside it
abbrev pub is_refused_alone : RegexUnsupportedPatterns → Kind → Bool
is_refused_alone set k = is_refused (record set { duplicate_named_capture_groups = false }) [] k
