-- Ranges that cover others.
use Rattle.std.specs.Prelude.{◌≡◌, ◌<◌, ◌≤◌, ℕ, Bool, true, ◌&&◌, nat_le, Option, Some, List}
use Rattle.std.specs.List.{list_any}

-- a range, from its min to its max
abbrev pub Range : Type 0
Range = ℕ × ℕ

-- it begins at `low` or before, and ends at `high` or after
abbrev pub covers_both : ℕ → ℕ → Range → Bool
covers_both low high r = nat_le r.0 low && nat_le high r.1

-- ends rise with beginnings
abbrev pub IsRising : (ℕ → Option ℕ) → Type 0
IsRising at = (p a q b : ℕ) → at p ≡ Some a → at q ≡ Some b → p < q → a < b

-- what begins at `low` or later ends after `high`
abbrev pub AreLater : ℕ → ℕ → (ℕ → Option ℕ) → Type 0
AreLater low high at = (q b : ℕ) → at q ≡ Some b → low ≤ q → high < b

-- what begins here begins at `low` or later, and ends at `high` or before
abbrev pub IsWithin : ℕ → ℕ → (ℕ → Option ℕ) → ℕ → Type 0
IsWithin low high at p = (low ≤ p) × ((a : ℕ) × (at p ≡ Some a) × (a ≤ high))

-- The stair of some ranges: each key has the end of a range that begins there; ends rise with keys; what a range covers, one of the stair covers.
pub record IsStair (at : ℕ → Option ℕ) (rs : List Range) : Type 0 where
  pub rising : IsRising at
  pub sound : (p a : ℕ) → at p ≡ Some a → (low high : ℕ) → p ≤ low → high ≤ a → list_any (covers_both low high) rs ≡ true
  pub whole : (low high : ℕ) → list_any (covers_both low high) rs ≡ true → (p : ℕ) × (a : ℕ) × (at p ≡ Some a) × (p ≤ low) × (high ≤ a)
