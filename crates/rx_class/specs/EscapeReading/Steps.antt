-- How many steps it takes to look at an escape.
use Rattle.std.specs.Prelude.{ℕ, ◌+◌, ◌*◌, Bool, if◌then◌else◌}
use Rattle.rx_class.specs.declared.escapes.found.EscapeFound.{EscapeFound}
use Rattle.rx_class.specs.declared.escapes.found.EscapeFound.TheVariants as found

-- the most steps, where so many units stand after the backslash, in unicode mode or not
abbrev pub most_looks : Bool → ℕ → EscapeFound → ℕ
most_looks unicode_mode units (found.Character kind value length) = length + 4
most_looks unicode_mode units found.Nothing = if unicode_mode then 0 else 4
most_looks unicode_mode units (found.TooMany digits) = digits + 1
most_looks unicode_mode units found.Invalid = if unicode_mode then units else 4

-- The same by the length of what is found: no step where nothing is.
abbrev pub few_looks : ℕ → EscapeFound → ℕ
few_looks units (found.Character kind value length) = 4 * length
few_looks units found.Nothing = 0
few_looks units (found.TooMany digits) = digits + 1
few_looks units found.Invalid = units + 4
