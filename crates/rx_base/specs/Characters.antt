-- Characters as numbers: the sets of them that definitions name, and surrogates.
use Rattle.std.specs.Prelude.{ℕ, Bool, false, not, ◌==◌, ◌&&◌, ◌||◌, List, [], ◌∷◌, nat_le}

-- from the first to the last
abbrev pub is_within : ℕ → ℕ → ℕ → Bool
is_within low high c = nat_le low c && nat_le c high

-- one of the characters of a text
abbrev pub is_one_of : List ℕ → ℕ → Bool
is_one_of [] c = false
is_one_of (d ∷ ds) c = c == d || is_one_of ds c

-- a code point (ECMA-262, 6.1.4), surrogates too
abbrev pub is_code_point : ℕ → Bool
is_code_point c = nat_le c 0x10FFFF

-- the bounds of leading and of trailing surrogates (6.1.4)
abbrev pub first_lead : ℕ
first_lead = 0xD800

abbrev pub last_lead : ℕ
last_lead = 0xDBFF

abbrev pub first_trail : ℕ
first_trail = 0xDC00

abbrev pub last_trail : ℕ
last_trail = 0xDFFF

abbrev pub is_lead : ℕ → Bool
is_lead c = is_within first_lead last_lead c

abbrev pub is_trail : ℕ → Bool
is_trail c = is_within first_trail last_trail c

abbrev pub is_surrogate : ℕ → Bool
is_surrogate c = is_within first_lead last_trail c

-- a code point that is no surrogate
abbrev pub is_character : ℕ → Bool
is_character c = is_code_point c && not (is_surrogate c)
