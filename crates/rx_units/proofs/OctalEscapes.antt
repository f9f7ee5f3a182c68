-- What octal digits spell is small.
use Rattle.std.proofs.Common.{ℕ, ◌<◌, List, arith}
use Rattle.std.proofs.lemmas.Bool.Decides.{nat_tests}
use Rattle.rx_units.specs.OctalEscapes.{SpellsOctal, octal_zero, octal1, octal2_low, octal2_high, octal3}
use Rattle.rx_units.proofs.Digits.{octal_small}

pub octal_value_small : (v : ℕ) (w rest : List ℕ) → SpellsOctal v w rest → v < 512
octal_value_small _ _ rest (octal_zero h) = omega arith
octal_value_small _ _ rest (octal1 {c} h k) = let x = octal_small c (grind (arith, nat_tests)) in omega (arith, x)
octal_value_small _ _ rest (octal2_low {c} {d} h k n) = let x = octal_small c (grind (arith, nat_tests)) in omega (arith, x, octal_small d k)
octal_value_small _ _ rest (octal2_high {c} {d} h k) = let x = octal_small c (grind (arith, nat_tests)) in omega (arith, x, octal_small d k)
octal_value_small _ _ rest (octal3 {c} {d} {f} h k l) = let x = octal_small c (grind (arith, nat_tests)) in omega (arith, x, octal_small d k, octal_small f l)
