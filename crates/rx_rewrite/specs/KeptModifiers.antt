-- Modifiers that no rewriting takes away.
use Rattle.std.specs.Prelude.{Option, Some, None, List, [], ◌∷◌}
use Rattle.rx_base.specs.declared.span.Span.{Span}
use Rattle.rx_ast.specs.Kinds.{Kind, pattern, ignore_group, order}
use Rattle.rx_ast.specs.Tree.{Whole}
use Rattle.rx_trace.specs.Supported.{unsupported_modifiers, or_later}

-- The span of the modifiers of a node, where they have the bit `i` on either side.
abbrev pub kept_modifiers_at : Kind → Option Span
kept_modifiers_at (ignore_group s (Some m) d) = unsupported_modifiers m
kept_modifiers_at _ = None

abbrev pub first_left : List Kind → Option Span
first_left [] = None
first_left (k ∷ ks) = or_later (kept_modifiers_at k) (first_left ks)

-- The first in the order of the text. Modifiers stand right after the node of their group.
abbrev pub kept_modifiers_in : Whole → Option Span
kept_modifiers_in tree = first_left (order (pattern tree))
