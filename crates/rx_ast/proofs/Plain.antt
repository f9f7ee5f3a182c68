-- Texts of ASCII characters: their characters are their bytes.
use Rattle.std.proofs.Common.{◌≡◌, refl, ℕ, ◌<◌, List, [], ◌∷◌, arith, nat_lt, true}
use Rattle.std.proofs.lemmas.Bool.Decides.{nat_tests}
use Rattle.std.proofs.lemmas.Str.{chars-nil}
use Rattle.std.specs.Str.{chars}

is_plain : (b : ℕ) → b < 128 → nat_lt b 128 ≡ true
is_plain b h = grind (arith, nat_tests)

-- an ASCII character is its own byte
pub chars-plain : (b : ℕ) (bs : List ℕ) → b < 128 → chars (b ∷ bs) ≡ b ∷ chars bs
unfolding chars
chars-plain b [] h = rw (is_plain b h) refl
chars-plain b (c ∷ bs) h = rw (is_plain b h) refl

pub ruleset plain_texts = (chars-plain, chars-nil)
