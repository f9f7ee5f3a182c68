-- How many steps a reader takes, from one count to another. A step is a unit that it moves over, or a turn of a loop that looks ahead.
use Rattle.std.specs.Prelude.{ℕ, ◌+◌, ◌*◌, ◌≤◌, ◌≡◌, Result, MatchResult, length}
use Rattle.rx_units.specs.Cursor.{Cursor, rest}

-- how many units a reader has before it
abbrev pub units_left : Cursor → ℕ
units_left r = length (rest r)

-- a step for each unit from one place to another, and none besides
abbrev pub IsMove : ℕ → ℕ → Cursor → Cursor → Type 0
IsMove old new from to = new + units_left to ≡ old + units_left from

-- at least one step for each unit from one place to another, and at most so many
abbrev pub IsPaced : ℕ → ℕ → ℕ → Cursor → Cursor → Type 0
IsPaced most old new from to = (old + units_left from ≤ new + units_left to) × (new + most * units_left to ≤ old + most * units_left from)

-- at most so many steps for each unit that is left, and as many more
abbrev pub IsBounded : ℕ → ℕ → ℕ → Cursor → Type 0
IsBounded most old new from = new ≤ old + most * units_left from + most

-- a call that ends well keeps the pace, and one that is refused is bounded
abbrev pub TakesSteps : {A E : Type 0} → ℕ → ℕ → ℕ → Cursor → Cursor → Result A E → Type 0
TakesSteps most old new from to result = MatchResult result (λ _. IsPaced most old new from to) (λ _. IsBounded most old new from)
