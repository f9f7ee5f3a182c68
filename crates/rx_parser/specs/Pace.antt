-- How many steps the readers of tokens take, where a step is a unit that is moved over, or a turn of a loop that looks ahead.
use Rattle.std.specs.Prelude.{◌≡◌, Bool, ℕ, ◌+◌, ◌-◌, ◌*◌, ◌≤◌, not, List, length, drop, min, Result, MatchBool, MatchResult}
use Rattle.std.specs.List.{prefix_len}
use Rattle.rx_base.specs.Rising.{Rises}
use Rattle.rx_tables.specs.Characters.{is_decimal_digit, is_syntax_character}
use Rattle.rx_units.specs.declared.code_point.CodePoint.{CodePoint}
use Rattle.rx_units.specs.Cursor.{Cursor, move_on, rest}
use Rattle.rx_units.specs.Pace.{TakesSteps, units_left}
use Rattle.rx_parser.specs.HaltPlaces.{halt_end}
use Rattle.rx_parser.specs.declared.counts.CountsFound.{CountsFound}
use Rattle.rx_parser.specs.declared.counts.CountsFound.TheVariants as counts
use Rattle.rx_parser.specs.declared.found.Found.{Found}
use Rattle.rx_parser.specs.declared.found.Found.TheVariants as found
use Rattle.rx_parser.specs.declared.name.NameFound.{NameFound}
use Rattle.rx_parser.specs.declared.name.NameFound.TheVariants as name

-- how many units at the front are no SyntaxCharacter, and so stand for themselves in every mode
unfoldable pub plain : List CodePoint → ℕ
plain us = prefix_len (λ u. not (is_syntax_character u.value)) us

-- how many decimal digits stand at the front
unfoldable pub digit_run : List CodePoint → ℕ
digit_run us = prefix_len (λ u. is_decimal_digit u.value) us

-- A loop has taken a step in each of so many turns.
abbrev pub HasStepped : ℕ → ℕ → ℕ → Type 0
HasStepped old new turns = new ≡ old + turns

-- the most steps to look for a quantifier's prefix in so many units: one for each unit of the prefix
abbrev pub count_looks : ℕ → CountsFound → ℕ
count_looks units (counts.Counts least most n) = min n units
count_looks units counts.Nothing = units
count_looks units (counts.TooMany start many) = units

-- the most steps to look for a name and its `>` in so many units
abbrev pub name_looks : ℕ → NameFound → ℕ
name_looks units (name.Name n) = 2 * n + 1
name_looks units (name.Halt it) = 2 * units + 8

-- the most steps after a name in so many units: none where the name ends
abbrev pub halt_looks : ℕ → NameFound → ℕ
halt_looks units (name.Name n) = 0
halt_looks units (name.Halt it) = units + 4

-- So many steps it takes to find a token that is no escape, or why none is read; `units` is how many stand after its first unit. Properties and classes are not found here.
abbrev pub LooksAtSyntax : ℕ → ℕ → ℕ → Found → Type 0
LooksAtSyntax old new units (found.Leaf leaf n) = Rises old new 0 (2 * n)
LooksAtSyntax old new units (found.NamedReference n) = Rises old new 0 (2 * n)
LooksAtSyntax old new units found.Property = ⊥
LooksAtSyntax old new units found.Class = ⊥
LooksAtSyntax old new units (found.Open opener n) = Rises old new 0 (2 * n)
LooksAtSyntax old new units found.Close = Rises old new 0 0
LooksAtSyntax old new units found.Bar = Rises old new 0 0
LooksAtSyntax old new units (found.Quantifier least most greedy n) = Rises old new 0 (2 * n)
LooksAtSyntax old new units (found.Halt it) = Rises old new 0 (2 * units + 8)

-- What may be found by at most so many steps, and at most one for each of these units: that many are allowed by `LooksAtSyntax`.
abbrev pub MayFind : ℕ → List CodePoint → Found → Type 0
MayFind most us it = (old new : ℕ) → old ≤ new → new ≤ old + most → new ≤ old + length us → LooksAtSyntax old new (length us - 1) it

-- So many steps it takes to find an escape that is a token of n units, or why none is read; `following` is what stands after its backslash. A lone backslash stands before no digit.
abbrev pub LooksAtEscape : ℕ → ℕ → List CodePoint → Found → Type 0
LooksAtEscape old new following (found.Leaf leaf n) = (1 ≤ n) × Rises old new 0 (n + digit_run following + 4) × (n ≡ 1 → new ≤ old + 5)
LooksAtEscape old new following (found.NamedReference n) = ⊥
LooksAtEscape old new following found.Property = ⊥
LooksAtEscape old new following found.Class = ⊥
LooksAtEscape old new following (found.Open opener n) = ⊥
LooksAtEscape old new following found.Close = ⊥
LooksAtEscape old new following found.Bar = ⊥
LooksAtEscape old new following (found.Quantifier least most greedy n) = ⊥
LooksAtEscape old new following (found.Halt it) = Rises old new 0 (length following + 5)

-- The most steps to find a token of n units, where these follow its first unit. The looks that go on over units after the token stop at the first one that does
-- not stand for itself.
abbrev pub token_looks : List CodePoint → ℕ → ℕ
token_looks following n = 4 * n + 2 * plain (drop (n - 1) following) + 1

-- The most steps to find this, where these units follow the first one. Properties and classes are looked at later, by `rx_class`.
abbrev pub looks : List CodePoint → Found → ℕ
looks following (found.Leaf leaf n) = token_looks following n
looks following (found.NamedReference n) = token_looks following n
looks following found.Property = 0
looks following found.Class = 0
looks following (found.Open opener n) = token_looks following n
looks following found.Close = token_looks following 1
looks following found.Bar = token_looks following 1
looks following (found.Quantifier least most greedy n) = token_looks following n
looks following (found.Halt it) = 3 * length following + 9

-- A call moves over n units, with a step for each, and at most two more for each but the first, which look ahead; where it ends ill it takes no more.
abbrev pub MovesOver : {A E : Type 0} → ℕ → ℕ → ℕ → Cursor → Cursor → Result A E → Type 0
MovesOver n old new from to result =
    MatchResult result (λ _. (to ≡ move_on n from) × (old + units_left from ≤ new + units_left to) × (new + units_left to ≤ old + units_left from + 2 * (n - 1)))
    (λ _. new + units_left to ≤ old + units_left from + 2 * (n - 1))

-- So many steps it takes to read what is found. Properties and classes are read by `rx_class`.
abbrev pub TakesFound : {A E : Type 0} → Found → ℕ → ℕ → Cursor → Cursor → Result A E → Type 0
TakesFound (found.Leaf leaf n) old new from to result = MovesOver n old new from to result
TakesFound (found.NamedReference n) old new from to result = MovesOver n old new from to result
TakesFound found.Property old new from to result = TakesSteps 6 old new from to result
TakesFound found.Class old new from to result = TakesSteps 6 old new from to result
TakesFound (found.Open opener n) old new from to result = MovesOver n old new from to result
TakesFound found.Close old new from to result = MovesOver 1 old new from to result
TakesFound found.Bar old new from to result = MovesOver 1 old new from to result
TakesFound (found.Quantifier least most greedy n) old new from to result = MovesOver n old new from to result
TakesFound (found.Halt it) old new from to result = MatchResult result (λ _. ⊥) (λ _. new ≤ old + halt_end it)

-- A token takes at least a step for each of its units, and at most seven, with one left over; and two for each unit after it that stands for itself, since such units
-- may have been looked at.
abbrev pub IsTokenPaced : ℕ → ℕ → Cursor → Cursor → Type 0
IsTokenPaced old new from to =
    (old + units_left from ≤ new + units_left to) × (new + 1 + 7 * units_left to ≤ old + 7 * units_left from + 2 * plain (rest to))

-- A call that ends well reads a token at this pace, and one that is refused is bounded.
abbrev pub TakesToken : {A E : Type 0} → ℕ → ℕ → Cursor → Cursor → Result A E → Type 0
TakesToken old new from to result = MatchResult result (λ _. IsTokenPaced old new from to) (λ _. new ≤ old + 7 * units_left from + 7)

-- A turn takes at least a step for each unit that it moves over, and at most seven; and two for each of the units that stand next after it and for themselves, less two for
-- each of those before it. So what is looked at ahead is counted once over all turns.
-- Why: docs/DECISIONS.md, 62.
abbrev pub IsTurnPaced : ℕ → ℕ → Cursor → Cursor → Type 0
IsTurnPaced old new from to =
    (old + units_left from ≤ new + units_left to) × (new + 7 * units_left to + 2 * plain (rest from) ≤ old + 7 * units_left from + 2 * plain (rest to))

-- A call that may read a token keeps its pace where it answers `true`, and takes no step where it answers `false`; one that is refused is bounded.
abbrev pub MayTakeToken : {E : Type 0} → ℕ → ℕ → Cursor → Cursor → Result Bool E → Type 0
MayTakeToken old new from to result =
    MatchResult result (λ it. MatchBool it (IsTokenPaced old new from to) (new ≡ old)) (λ _. new ≤ old + 7 * units_left from + 7)

-- A call that may take a turn keeps the pace where it answers `true`. Where it answers `false`, the next unit is a SyntaxCharacter, and it takes no step; one that is refused
-- is bounded.
abbrev pub MayTakeTurn : {E : Type 0} → ℕ → ℕ → Cursor → Cursor → Result Bool E → Type 0
MayTakeTurn old new from to result =
    MatchResult result (λ it. MatchBool it (IsTurnPaced old new from to) ((new ≡ old) × (plain (rest from) ≡ 0)))
    (λ _. new + 2 * plain (rest from) ≤ old + 7 * units_left from + 8)
