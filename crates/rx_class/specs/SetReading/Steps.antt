-- How many steps it takes to look at what stands next in a class with `v`, and how many a call takes after some that were taken before it.
use Rattle.std.specs.Prelude.{ℕ, ◌+◌, ◌*◌, ◌≤◌, ◌==◌, List, [], ◌∷◌, Option, Some, None, Result, MatchResult, drop, length, if◌then◌else◌}
use Rattle.rx_base.specs.Ascii as ascii
use Rattle.rx_units.specs.declared.code_point.CodePoint.{CodePoint}
use Rattle.rx_units.specs.Cursor.{Cursor}
use Rattle.rx_units.specs.Pace.{units_left}
use Rattle.rx_model.specs.Characters.EscapeFronts.{EscapeRead, escaped, nothing, too_many, no_unicode}
use Rattle.rx_class.specs.declared.sets.held.Held.{Held}
use Rattle.rx_class.specs.declared.sets.character.SetCharacter.{SetCharacter}
use Rattle.rx_class.specs.SetReading.FrontSeen.{seen_character}
use Rattle.rx_class.specs.SetReading.Fronts.{FrontRead, character_next}

-- The most steps, after a backslash that so many units follow; the length counts from the backslash on.
abbrev pub most_after_backslash : ℕ → EscapeRead → ℕ
most_after_backslash units (escaped kind value length) = length + 3
most_after_backslash units nothing = 0
most_after_backslash units (too_many digits) = digits + 1
most_after_backslash units no_unicode = units

-- The most steps, where a character is looked for at the front: only after a backslash does a loop look for it.
abbrev pub most_set_looks : List CodePoint → EscapeRead → ℕ
most_set_looks [] read = 0
most_set_looks (unit ∷ following) read = if unit.value == ascii.backslash then most_after_backslash (length following) read else 0

-- the most steps, where an operand is looked for: after a backslash that so many units follow, and anywhere
abbrev pub most_front_after : ℕ → FrontRead → ℕ
most_front_after units (character_next read) = most_after_backslash units read
most_front_after units _ = 0

abbrev pub most_front_looks : List CodePoint → FrontRead → ℕ
most_front_looks us (character_next read) = most_set_looks us read
most_front_looks us _ = 0

-- the most steps, where a `-` and the end of a range are looked for
abbrev pub most_end_looks : List CodePoint → EscapeRead → ℕ
most_end_looks us read = most_set_looks (drop 1 us) read

-- the most steps, by whether the end of a range was found, with what a bracket holds after the range
abbrev pub most_next_looks : List CodePoint → Option (SetCharacter × Held) → ℕ
most_next_looks us None = 0
most_next_looks us (Some next) = most_end_looks us (seen_character next.0)

-- A call takes so few steps that the pace is kept, or bounded, even if so many were taken before it.
abbrev pub TakesStepsAfter : {A E : Type 0} → ℕ → ℕ → ℕ → ℕ → Cursor → Cursor → Result A E → Type 0
TakesStepsAfter before most old new from to result =
    MatchResult result (λ _. (old + units_left from ≤ new + units_left to) × (before + new + most * units_left to ≤ old + most * units_left from)) (λ _. before + new ≤ old + most * units_left from + most)
