-- Single steps of reading an escape.
use Rattle.std.proofs.Common.{◌≡◌, ◌<◌, ◌≤◌, ℕ, List, [], ◌∷◌, get_or, length, Option, None, refl, arith}
use Rattle.rx_units.specs.Digits.{hex_number}
use Rattle.rx_units.specs.Quoted.Fronts.{four_at}

pub short_four : (us : List ℕ) → length us < 4 → four_at us ≡ None
short_four (a ∷ b ∷ c ∷ d ∷ us) h = absurd (omega arith)
short_four us h = refl

pub four_front : (us : List ℕ) (a b c d : ℕ) → 4 ≤ length us → a ≡ get_or us 0 a → b ≡ get_or us 1 b → c ≡ get_or us 2 c → d ≡ get_or us 3 d → (o : Option ℕ) → o ≡ hex_number (a ∷ b ∷ c ∷ d ∷ []) → o ≡ four_at us
four_front (p ∷ q ∷ r ∷ s ∷ us) a b c d long first second third fourth o read = rw (← first, ← second, ← third, ← fourth) read
four_front us a b c d long first second third fourth o read = absurd (omega arith)
