-- Hexadecimal digits and their numbers.
use Rattle.std.proofs.Common.{◌≡◌, ℕ, ◌<◌, arith}
use Rattle.std.specs.Prelude.{Some, IfSome}
use Rattle.std.proofs.lemmas.Bool.Decides.{nat_tests}
use Rattle.rx_tables.specs.Characters.{hex_digit, hex_digit_value}

pub hex_digit_value-hex_digit : (d : ℕ) → d < 16 → hex_digit_value (hex_digit d) ≡ Some d
hex_digit_value-hex_digit d small = grind (arith, nat_tests)

pub hex_digit_value_small : (c : ℕ) → IfSome (hex_digit_value c) (λ d. d < 16)
hex_digit_value_small c = grind (arith, nat_tests)
