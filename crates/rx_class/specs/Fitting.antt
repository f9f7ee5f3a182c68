-- What keeps the offsets of an answer within 32 bits.
use Rattle.std.specs.Prelude.{ℕ, ◌+◌, ◌^◌, ◌<◌, All}
use Rattle.rx_units.specs.Cursor.{Cursor}

-- Each offset of the reader fits 32 bits after so much is added.
-- Why: docs/DECISIONS.md, 31.
pub record AreFitting (added : ℕ) (r : Cursor) : Type 0 where
  pub first : r.first + added < 2 ^ 32
  pub ends : All (λ unit. unit.span.end + added < 2 ^ 32) r.units
