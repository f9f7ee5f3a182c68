-- How a unicode escape is read: the order in which the readers try its forms. What it means stands in UnicodeEscapes.
use Rattle.std.specs.Prelude.{ℕ, Bool, ◌+◌, ◌*◌, ◌^◌, ◌==◌, ◌&&◌, List, [], ◌∷◌, Option, option_map, Some, None, option_and_then, nat_lt, nat_le, if◌then◌else◌}
use Rattle.rx_base.specs.Ascii as ascii
use Rattle.rx_base.specs.Characters.{is_lead, is_trail}
use Rattle.rx_base.specs.SurrogatePair.{surrogate_pair}
use Rattle.rx_tables.specs.Characters.{hex_digit_value}
use Rattle.rx_units.specs.Digits.{hex_number}

-- a code point in n characters; none; digits that pass 32 bits, after n digits that do not
pub data Decoded : Type 0 where
  value : ℕ → ℕ → Decoded
  invalid : Decoded
  overflow : ℕ → Decoded

-- the number of the first four, and what follows them
abbrev pub four_at : List ℕ → Option (ℕ × List ℕ)
four_at (a ∷ b ∷ c ∷ d ∷ rest) = option_map (λ v. (v, rest)) (hex_number (a ∷ b ∷ c ∷ d ∷ []))
four_at _ = None

-- the trail that is escaped next
abbrev pub trail_at : List ℕ → Option ℕ
trail_at (x ∷ y ∷ w) = if (x == ascii.backslash) && (y == ascii.u) then option_and_then (λ t. if is_trail t.0 then Some t.0 else None) (four_at w) else None
trail_at _ = None

-- one step of a run of digits: what a character stands for, the number and the count so far, the character, and how it goes on
abbrev pub run_step : Option ℕ → ℕ → ℕ → ℕ → (ℕ → Decoded) → Decoded
run_step (Some d) n count x again = if nat_lt (16 * n + d) (2 ^ 32) then again (16 * n + d) else overflow count
run_step None n count x again = if (x == ascii.right_brace) && (nat_lt 0 count && nat_le n 0x10FFFF) then value n (count + 3) else invalid

-- digits and a brace, after a number and n digits
abbrev pub run_at : ℕ → ℕ → List ℕ → Decoded
run_at n count [] = invalid
run_at n count (x ∷ xs) = run_step (hex_digit_value x) n count x (λ m. run_at m (count + 1) xs)

abbrev pub braces_at : List ℕ → Decoded
braces_at [] = invalid
braces_at (x ∷ xs) = if x == ascii.left_brace then run_at 0 0 xs else invalid

abbrev pub pair_or_unit : ℕ → Option ℕ → Decoded
pair_or_unit v None = value v 5
pair_or_unit v (Some t) = value (surrogate_pair v t) 11

abbrev pub after_u : Bool → Option (ℕ × List ℕ) → List ℕ → Decoded
after_u unicode_mode (Some v) w = if unicode_mode && is_lead v.0 then pair_or_unit v.0 (trail_at v.1) else value v.0 5
after_u unicode_mode None w = if unicode_mode then braces_at w else invalid

abbrev pub decoding_of : Bool → List ℕ → Decoded
decoding_of unicode_mode [] = invalid
decoding_of unicode_mode (x ∷ w) = if x == ascii.u then after_u unicode_mode (four_at w) w else invalid
