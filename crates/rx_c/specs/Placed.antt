-- Places that are counted in another way.
use Rattle.std.specs.Prelude.{ℕ, Bool, true, false, List, map, Option, Some, None}
use Rattle.rx_base.specs.declared.span.Span.{Span}
use Rattle.rx_places.specs.Places.{in_utf16}
use Rattle.rx_records.specs.declared.node.Node.{Node}
use Rattle.rx_records.specs.declared.node.Range.{Range}
use Rattle.rx_records.specs.Ranges.{no_range, range_of}

abbrev pub moved_range : (ℕ → ℕ) → Range → Range
moved_range move range = record { start = move range.start; end = move range.end }

abbrev pub with_span : Range → Node → Node
with_span span node = record node { span = span }

-- the modifiers of a group that has some
abbrev pub with_moved_modifiers : (ℕ → ℕ) → Bool → Node → Node
with_moved_modifiers move true node = record node { modifiers = moved_range move node.modifiers }
with_moved_modifiers move false node = node

-- the same record, with its places counted in another way
abbrev pub moved_node : (ℕ → ℕ) → Node → Node
moved_node move node = with_moved_modifiers move node.has_modifiers (with_span (moved_range move node.span) node)

-- the same records, with their places in bytes or in UTF-16 code units of the text in which they lie
abbrev pub in_units : Bool → List ℕ → ℕ → List Node → List Node
in_units false text offset nodes = nodes
in_units true text offset nodes = map (moved_node (in_utf16 text offset)) nodes

-- the same of one range, and of a span that may be absent
abbrev pub range_in_units : Bool → List ℕ → ℕ → Range → Range
range_in_units false text offset range = range
range_in_units true text offset range = moved_range (in_utf16 text offset) range

abbrev pub optional_in_units : Bool → List ℕ → ℕ → Option Span → Range
optional_in_units utf16 text offset None = no_range
optional_in_units utf16 text offset (Some span) = range_in_units utf16 text offset (range_of span)
