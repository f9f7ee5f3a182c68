-- How much of the input is read.
use Rattle.std.specs.Prelude.{ℕ, ◌+◌, ◌-◌, ◌^◌, ◌<◌, ◌≤◌, ◌⊎◌, List, Option, Some, None, option_map}
use Rattle.std.specs.Io.KnownBytes.{IsAtEnd}

-- the most bytes that are read in all, where so many came, and where there is a limit to those that may still come
abbrev pub most_read : ℕ → Option ℕ → Option ℕ
most_read drawn limit = option_map (λ n. drawn + n) limit

-- more bytes came than are read
abbrev pub IsPast : Option ℕ → ℕ → Type 0
IsPast None drawn = ⊥
IsPast (Some most) drawn = most < drawn

-- the input was read to its end, or so far that the count of its bytes passes a `u64`
abbrev pub IsReadOut : (left : Option (List ℕ)) (drawn drawn' : ℕ) → Type 0
IsReadOut left drawn drawn' = IsAtEnd left ⊎ (drawn + (2 ^ 64 - 1) ≤ drawn')
