-- What stays the same of a reader that may have moved.
use Rattle.std.specs.Prelude.{◌≡◌, ◌≤◌, length}
use Rattle.rx_units.specs.Cursor.{Cursor}

-- The reader keeps its units, its first offset and its text, and stands at a place of its units.
pub record KeepsUnits (old new : Cursor) : Type 0 where
  pub same : new ≡ record old { place = new.place }
  pub within : new.place ≤ length old.units
