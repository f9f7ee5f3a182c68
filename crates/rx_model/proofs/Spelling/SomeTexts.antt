-- Texts that are not empty.
use Rattle.std.proofs.Common.{◌≢◌, refl, ℕ, List, [], ◌∷◌, ◌++◌}

pub some : (c : ℕ) (text : List ℕ) → c ∷ text ≢ []
some c text e = cc

pub some-append : (u v : List ℕ) → u ≢ [] → u ++ v ≢ []
some-append [] v h = absurd (h refl)
some-append (c ∷ u) v h = some c (u ++ v)

pub some_after : (u : List ℕ) (c : ℕ) (v : List ℕ) → u ++ (c ∷ v) ≢ []
some_after [] c v = some c v
some_after (d ∷ u) c v = some d (u ++ (c ∷ v))
