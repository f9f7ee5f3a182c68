-- How many steps it takes to read what may stand next.
use Rattle.std.specs.Prelude.{◌≡◌, ℕ, Option, Some, None, Result, Ok, Err}
use Rattle.rx_units.specs.Cursor.{Cursor}
use Rattle.rx_units.specs.Pace.{IsBounded, IsPaced}

-- The steps of a call: where something is read they keep the pace, where nothing stands there are none, and where it is refused they are bounded.
abbrev pub IsReading : {A E : Type 0} → ℕ → ℕ → ℕ → Cursor → Cursor → Result (Option A) E → Type 0
IsReading most old new from to (Ok (Some it)) = IsPaced most old new from to
IsReading most old new from to (Ok None) = new ≡ old
IsReading most old new from to (Err error) = IsBounded most old new from
