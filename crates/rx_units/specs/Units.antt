-- The units of a literal, and the offsets of places between them.
use Rattle.std.specs.Prelude.{ℕ, ◌+◌, ◌-◌, ◌/◌, ◌%◌, Bool, ◌||◌, List, [], ◌∷◌, ◌++◌, map, nat_lt, take, if◌then◌else◌}
use Rattle.std.specs.Char.{len_utf8}
use Rattle.rx_base.specs.Characters.{first_lead, first_trail}
use Rattle.rx_units.specs.declared.code_point.CodePoint.{CodePoint}
use Rattle.rx_units.specs.declared.code_point.EscapeKind.{EscapeKind}
use Rattle.rx_units.specs.declared.code_point.EscapeKind.TheVariants as kind

abbrev pub unit : ℕ → ℕ → ℕ → EscapeKind → CodePoint
unit start end value escape_kind = record { span = record { start = start; end = end }; value = value; escape_kind = escape_kind }

-- The two UTF-16 code units of a code point past FFFF (UTF16EncodeCodePoint, 11.1.1).
abbrev pub lead_of : ℕ → ℕ
lead_of c = first_lead + (c - 0x10000) / 0x400

abbrev pub trail_of : ℕ → ℕ
trail_of c = first_trail + (c - 0x10000) % 0x400

-- The units of one character: one, or without joining a lead and a trail that share the span.
abbrev pub character_units : Bool → ℕ → ℕ → ℕ → EscapeKind → List CodePoint
character_units joined start end c escape_kind =
    if joined || nat_lt c 0x10000 then unit start end c escape_kind ∷ []
    else unit start end (lead_of c) escape_kind ∷ unit start end (trail_of c) escape_kind ∷ []

-- The units of a literal whose first byte is at a place: each character is one unit, its span being its bytes; without
-- joining, a character past FFFF is a lead and a trail (Pattern source text, 22.2.3.4: by code points with `u` or `v`, else by code units).
abbrev pub literal_units : Bool → ℕ → List ℕ → List CodePoint
literal_units joined at [] = []
literal_units joined at (c ∷ cs) =
    character_units joined at (at + len_utf8 c) c kind.None ++ literal_units joined (at + len_utf8 c) cs

abbrev pub values : List CodePoint → List ℕ
values us = map (λ u. u.value) us

-- the end of the last of some units, or a number where there are none
abbrev pub end_of : ℕ → List CodePoint → ℕ
end_of first [] = first
end_of first (u ∷ us) = end_of u.span.end us

-- The offset at a place: the end of the unit before it, and a first offset at place 0.
abbrev pub offset_at : ℕ → List CodePoint → ℕ → ℕ
offset_at first us place = end_of first (take place us)
