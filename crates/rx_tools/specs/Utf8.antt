-- The bytes of a text.
use Rattle.std.specs.Prelude.{ℕ, List}
use Rattle.std.specs.Str.{encode_utf8_all}

-- the UTF-8 of these characters, one after the other
unfoldable pub utf8 : List ℕ → List ℕ
utf8 text = encode_utf8_all text
