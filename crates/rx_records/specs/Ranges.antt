-- Parts of texts.
use Rattle.std.specs.Prelude.{ℕ, ◌+◌, List, [], ◌∷◌, Option, Some, None, length}
use Rattle.rx_base.specs.declared.span.Span.{Span}
use Rattle.rx_records.specs.declared.node.Range.{Range}

abbrev pub range_of : Span → Range
range_of span = record { start = span.start; end = span.end }

abbrev pub no_range : Range
no_range = record { start = 0; end = 0 }

-- the second of two spans, where there is one
abbrev pub second_range : Option Span → Range
second_range None = no_range
second_range (Some span) = range_of span

-- where bytes stand that begin after so many
abbrev pub bytes_at : ℕ → List ℕ → Range
bytes_at start bytes = record { start = start; end = start + length bytes }

-- where texts stand, one after the other, the first of which begins after so many bytes
abbrev pub ranges_at : ℕ → List (List ℕ) → List Range
ranges_at start [] = []
ranges_at start (bytes ∷ rest) = bytes_at start bytes ∷ ranges_at (start + length bytes) rest
