-- Texts that are equal, character by character.
use lib.Pointwise.{pointwise}
use Rattle.std.specs.Prelude.{ℕ, Bool, eqb, List}
use Rattle.std.specs.List.{list_any}

abbrev pub are_same : List ℕ → List ℕ → Bool
are_same cs ds = pointwise eqb cs ds

-- One of some texts is this one.
abbrev pub is_among : List (List ℕ) → List ℕ → Bool
is_among texts text = list_any (λ other. are_same other text) texts
