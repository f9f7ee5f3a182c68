-- How many steps it takes to look at a property escape.
use Rattle.std.specs.Prelude.{◌≡◌, ℕ, ◌*◌, true, Result, Ok, Err, List}
use Rattle.rx_base.specs.Ascii as ascii
use Rattle.rx_base.specs.declared.out_of_memory.OutOfMemory.{OutOfMemory}
use Rattle.rx_model.specs.FirstPass.Marks.{starts}
use Rattle.rx_class.specs.declared.properties.found.PropertyFound.{PropertyFound}
use Rattle.rx_class.specs.declared.properties.found.PropertyFound.TheVariants as found

-- the most steps, where so many units stand after the backslash: by the units of a property, or by all of them
abbrev pub property_looks : ℕ → Result PropertyFound OutOfMemory → ℕ
property_looks units (Ok (found.Property negative strings name value length)) = 3 * length
property_looks units (Ok found.Nothing) = 0
property_looks units (Ok (found.Halt h)) = 3 * units
property_looks units (Err no_memory) = 3 * units

-- What was found is a property that so many units spell, or a halt,
abbrev pub IsSpelledIn : ℕ → PropertyFound → Type 0
IsSpelledIn n (found.Property negative strings name value length) = length ≡ n
IsSpelledIn n found.Nothing = ⊥
IsSpelledIn n (found.Halt h) = Unit {0}

-- and in the case of a property the characters that follow begin with `}`.
abbrev pub IsClosedIn : ℕ → List ℕ → PropertyFound → Type 0
IsClosedIn n following (found.Property negative strings name value length) = (length ≡ n) × (starts ascii.right_brace following ≡ true)
IsClosedIn n following found.Nothing = ⊥
IsClosedIn n following (found.Halt h) = Unit {0}
