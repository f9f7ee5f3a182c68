-- Where a span lies, in bytes and in UTF-16.
use Rattle.std.specs.Prelude.{ℕ, List, [], ◌∷◌, codes}
use Rattle.std.specs.Str.{chars}
use Rattle.rx_base.specs.declared.span.Span.{Span}
use Rattle.rx_places.specs.declared.places.Places.{Places}
use Rattle.rx_places.specs.Places.{in_utf16}
use Rattle.rx_json.specs.Values.{Field, number}

-- the fields that say where a span lies in a text of these characters, so much being added to each place
abbrev pub place_fields : List ℕ → ℕ → Span → List Field
place_fields text offset span =
    (codes "start", number span.start) ∷ (codes "end", number span.end) ∷ (codes "start16", number (in_utf16 text offset span.start)) ∷ (codes "end16", number (in_utf16 text offset span.end)) ∷ []

abbrev pub located : Places → Span → List Field
located places span = place_fields (chars places.text.now) places.offset span
