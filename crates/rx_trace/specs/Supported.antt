-- What the matcher does not support: modifiers that turn the ignoring of case on or off, property escapes, and strings in classes.
use Rattle.std.specs.Prelude.{◌==◌, ◌&&◌, if◌then◌else◌, Option, Some, None, List, [], ◌∷◌, bit_and}
use Rattle.rx_base.specs.declared.span.Span.{Span}
use Rattle.rx_ast.specs.declared.leaf.Modifiers.{Modifiers}
use Rattle.rx_ast.specs.Kinds.{Kind, pattern, ignore_group, property_escape, string_disjunction, order}
use Rattle.rx_ast.specs.Tree.{Whole}

-- the span of modifiers that have the bit `i` on either side
abbrev pub unsupported_modifiers : Modifiers → Option Span
unsupported_modifiers m = if (bit_and m.enabling.0 1 == 0) && (bit_and m.disabling.0 1 == 0) then None else Some m.span

-- The span of what is not supported at a node. Modifiers stand right after the node of their group.
abbrev pub unsupported_span : Kind → Option Span
unsupported_span (ignore_group s (Some m) d) = unsupported_modifiers m
unsupported_span (property_escape p) = Some p.span
unsupported_span (string_disjunction d) = Some d.span
unsupported_span _ = None

abbrev pub or_later : Option Span → Option Span → Option Span
or_later None later = later
or_later (Some span) later = Some span

abbrev pub first_unsupported : List Kind → Option Span
first_unsupported [] = None
first_unsupported (k ∷ ks) = or_later (unsupported_span k) (first_unsupported ks)

-- the first in the order of the text
abbrev pub unsupported_in : Whole → Option Span
unsupported_in tree = first_unsupported (order (pattern tree))
