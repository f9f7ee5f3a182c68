-- How the counts of a quantifier are read where numbers have 64 bits: what stands, or why nothing does. What they mean stands in Quantifiers.
use Rattle.std.specs.Prelude.{ℕ, zero, suc, ◌+◌, ◌-◌, ◌*◌, ◌^◌, ◌==◌, nat_lt, List, [], ◌∷◌, Option, Some, None, if◌then◌else◌}
use Rattle.rx_base.specs.Ascii as ascii
use Rattle.rx_tables.specs.Characters.{is_decimal_digit}
use Rattle.rx_model.specs.Reading.Fronts.{greatest_of}

-- digits that stand next: their number, how many they are, what stands after them; or n stand before the one that makes the number pass 64 bits
pub data DigitsRead : Type 0 where
  fitting : ℕ → ℕ → List ℕ → DigitsRead
  passing : ℕ → DigitsRead

-- the digits that stand next, after a number and n digits
abbrev pub digits_read_at : ℕ → ℕ → List ℕ → DigitsRead
digits_read_at n count [] = fitting n count []
digits_read_at n count (c ∷ w) =
    if is_decimal_digit c then (if nat_lt (10 * n + (c - ascii.zero)) (2 ^ 64) then digits_read_at (10 * n + (c - ascii.zero)) (count + 1) w else passing count) else fitting n count (c ∷ w)

-- a QuantifierPrefix (22.2.1): the least and the greatest number, in n characters; none; or digits after `{` that pass 64 bits, from which
-- place on and how many stand before the one that does so
pub data CountsRead : Type 0 where
  counts_read : ℕ → Option ℕ → ℕ → CountsRead
  no_counts_read : CountsRead
  many_digits : ℕ → ℕ → CountsRead

-- after `{`, a number of n digits and `,`
abbrev pub read_after_comma : ℕ → ℕ → DigitsRead → CountsRead
read_after_comma n count (passing many) = many_digits (count + 2) many
read_after_comma n count (fitting m more []) = no_counts_read
read_after_comma n count (fitting m more (c ∷ w)) = if c == ascii.right_brace then counts_read n (greatest_of more m) (count + more + 3) else no_counts_read

-- after `{` and a number of n digits
abbrev pub read_after_least : ℕ → ℕ → List ℕ → CountsRead
read_after_least n zero w = no_counts_read
read_after_least n (suc count) [] = no_counts_read
read_after_least n (suc count) (c ∷ w) =
    if c == ascii.right_brace then counts_read n (Some n) (suc count + 2)
    else (if c == ascii.comma then read_after_comma n (suc count) (digits_read_at 0 0 w) else no_counts_read)

-- after `{`
abbrev pub read_in_braces : DigitsRead → CountsRead
read_in_braces (passing many) = many_digits 1 many
read_in_braces (fitting n count w) = read_after_least n count w

-- the prefix of a quantifier
unfoldable pub counts_read_at : List ℕ → CountsRead
counts_read_at [] = no_counts_read
counts_read_at (c ∷ w) =
    if c == ascii.asterisk then counts_read 0 None 1
    else (if c == ascii.plus then counts_read 1 None 1
    else (if c == ascii.question_mark then counts_read 0 (Some 1) 1
    else (if c == ascii.left_brace then read_in_braces (digits_read_at 0 0 w) else no_counts_read)))
