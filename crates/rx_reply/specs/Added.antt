-- A reply is added to what was written.
use Rattle.std.specs.Prelude.{◌≡◌, ℕ, List, ◌++◌, Option, Some, None}

-- Of this reply, where there is one, all was added.
abbrev pub IsAdded : Option (List ℕ) → List ℕ → List ℕ → Type 0
IsAdded None old new = ⊥
IsAdded (Some reply) old new = new ≡ old ++ reply
