-- A pattern in the colours of a terminal.
use Rattle.std.specs.Prelude.{ℕ, ◌+◌, ◌-◌, ◌/◌, ◌%◌, ◌||◌, nat_eq, nat_lt, if◌then◌else◌, List, [], ◌∷◌, ◌++◌, codes, slice_range}
use Rattle.std.specs.List.{flat_map}
use Rattle.rx_base.specs.Ascii as ascii
use Rattle.rx_paint.specs.declared.token.Kind.{Kind}
use Rattle.rx_paint.specs.declared.token.Kind.TheVariants.{Char, Escape, Dot, Set, Class, Assert, Group, Modifier, Quantifier, Reference, Bar, Other}
use Rattle.rx_paint.specs.declared.token.Token.{Token}

-- SELECT GRAPHIC RENDITION of ECMA-48, 8.3.117: ESC (the byte 27), `[`, how the text after it is shown, and `m`
abbrev pub rendition : List ℕ → List ℕ
rendition how = 27 ∷ (codes "[" ++ how ++ codes "m")

-- the colour of a kind, a number of the palette of 256; characters have the colour that text has
abbrev pub color : Kind → List ℕ
color Char = rendition (codes "39")
color Escape = rendition (codes "38;5;130")
color Dot = rendition (codes "38;5;133")
color Set = rendition (codes "38;5;30")
color Class = rendition (codes "38;5;28")
color Assert = rendition (codes "38;5;131")
color Group = rendition (codes "38;5;63")
color Modifier = rendition (codes "38;5;31")
color Quantifier = rendition (codes "38;5;163")
color Reference = rendition (codes "38;5;64")
color Bar = rendition (codes "1;38;5;63")
color Other = rendition (codes "38;5;243")

-- the end of a colour
abbrev pub plain : List ℕ
plain = rendition (codes "0")

-- a digit of a hexadecimal number, in lower case
abbrev pub hex_digit : ℕ → ℕ
hex_digit n = if nat_lt n 10 then ascii.zero + n else (ascii.a - 10) + n

-- A byte as it is shown: a control character, as LF or ESC, as `\x` and two hexadecimal digits; any other by itself.
abbrev pub shown_byte : ℕ → List ℕ
shown_byte b = if nat_lt b 32 || nat_eq b 127 then codes "\\x" ++ (hex_digit (b / 16) ∷ hex_digit (b % 16) ∷ []) else b ∷ []

-- a text as it is shown
abbrev pub shown_text : List ℕ → List ℕ
shown_text bytes = flat_map shown_byte bytes

-- the part of a text that a token covers, as it is shown, between the colour of its kind and the end of that colour
abbrev pub token_in_color : List ℕ → Token → List ℕ
token_in_color text t = color t.kind ++ shown_text (slice_range text t.span.start t.span.end) ++ plain

-- the parts of a text that tokens cover
abbrev pub text_in_color : List ℕ → List Token → List ℕ
text_in_color text ts = flat_map (token_in_color text) ts

-- the reply that shows a pattern with this text in colour, by its tokens
abbrev pub color_reply : List ℕ → List Token → List ℕ
color_reply text ts = codes "ok\t" ++ text_in_color text ts ++ codes "\n"
