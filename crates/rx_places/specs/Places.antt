-- Places of a text in bytes, and in the code units of UTF-16.
use Rattle.std.specs.Prelude.{◌≡◌, ◌≤◌, ℕ, zero, suc, ◌+◌, ◌-◌, nat_lt, List, [], ◌∷◌, ◌++◌, get_or, length, replicate, if◌then◌else◌}
use Rattle.std.specs.Char.{len_utf8}

-- how many code units a character has: past FFFF a lead and a trail
abbrev pub len_utf16 : ℕ → ℕ
len_utf16 c = if nat_lt c 0x10000 then 1 else 2

-- How many code units stand before a byte of a text of these characters, the first byte being the one before which none stands. A character counts where it
-- begins before that byte. Past the end each byte counts as one.
unfoldable pub units_before : List ℕ → ℕ → ℕ
units_before [] n = n
units_before (c ∷ cs) zero = 0
units_before (c ∷ cs) (suc n) = len_utf16 c + units_before cs (suc n - len_utf8 c)

-- the place in UTF-16 of a place in bytes, where so much is added to both
abbrev pub in_utf16 : List ℕ → ℕ → ℕ → ℕ
in_utf16 text offset place = offset + units_before text (place - offset)

-- how many code units there are, and how many bytes
unfoldable pub all_units : List ℕ → ℕ
all_units [] = 0
all_units (c ∷ cs) = len_utf16 c + all_units cs

unfoldable pub all_bytes : List ℕ → ℕ
all_bytes [] = 0
all_bytes (c ∷ cs) = len_utf8 c + all_bytes cs

-- how many code units stand before each byte but the first, and before the end, where so many stand before the first
unfoldable pub later_units : ℕ → List ℕ → List ℕ
later_units units [] = []
later_units units (c ∷ cs) = replicate (len_utf8 c) (units + len_utf16 c) ++ later_units (units + len_utf16 c) cs

-- what a table says of a byte. Past its end it is so much less than the byte's own number
abbrev pub units_at : List ℕ → ℕ → ℕ → ℕ
units_at table surplus n = if nat_lt n (length table) then get_or table n 0 else n - surplus

-- The table tells how many code units stand before each byte.
pub record IsTable (text table : List ℕ) (surplus : ℕ) : Type 0 where
  pub tells : (n : ℕ) → units_at table surplus n ≡ units_before text n
  pub within : surplus ≤ length table
