-- How far a count rises.
use Rattle.std.specs.Prelude.{ℕ, ◌+◌, ◌≤◌}

-- It rises by at least `least` and at most `most`.
abbrev pub Rises : ℕ → ℕ → ℕ → ℕ → Type 0
Rises old new least most = (old + least ≤ new) × (new ≤ old + most)
