-- Places between the characters of a text, in bytes and in UTF-16.
use Rattle.std.specs.Prelude.{◌≡◌, ℕ, ◌+◌, ◌<◌, List, ◌++◌, All, length, encode_utf8_all}
use Rattle.std.specs.Char.Escape.{encode_utf16}
use Rattle.std.specs.List.{flat_map}
use Rattle.rx_places.specs.Places.{in_utf16}

-- The place, in bytes, so much being added, stands between two characters of the text, or before or after all of them: the characters before it take as many
-- bytes.
pub record IsBetweenCharacters (text : List ℕ) (added place : ℕ) : Type 0 where
  pub front : List ℕ
  pub back : List ℕ
  pub cut : text ≡ front ++ back
  pub place_is : place ≡ added + length (encode_utf8_all front)

-- So it does, and in UTF-16, where places are counted in the text `own`, it is the number of code units of the characters before it, so much being added.
pub record HasUnitsBefore (own text : List ℕ) (added place : ℕ) : Type 0 where
  pub between : IsBetweenCharacters text added place
  pub units_are : in_utf16 own added place ≡ added + length (flat_map encode_utf16 between.front)

abbrev pub AreAscii : List ℕ → Type 0
AreAscii text = All (λ c. c < 0x80) text
