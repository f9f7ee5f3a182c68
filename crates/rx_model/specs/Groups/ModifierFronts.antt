-- How modifiers and their `:` are read after `(?` (RegularExpressionModifiers, 22.2.1): what stands, or what is wrong. What they mean stands in Modifiers.
use Rattle.std.specs.Prelude.{ℕ, ◌==◌, ◌&&◌, List, Option, Some, None, drop, if◌then◌else◌}
use Rattle.std.specs.Int.RustNames.{bit_and}
use Rattle.rx_base.specs.Ascii as ascii
use Rattle.rx_model.specs.FirstPass.Marks.{starts}
use Rattle.rx_model.specs.Groups.GroupFronts.{SidesRead, sides, sides_at}
use Rattle.rx_model.specs.Groups.Modifiers.{has_twice, letters_bits}

-- what is wrong with modifiers: no `:` ends them, a letter is there twice on one side, there is no letter, or a letter is on both sides
pub data ModifiersHalt : Type 0 where
  no_colon : ModifiersHalt
  letter_twice : ModifiersHalt
  no_letter : ModifiersHalt
  letter_shared : ModifiersHalt

-- the bits of both sides of modifiers, which are n units; or what is wrong with them
pub data ModifiersRead : Type 0 where
  modifiers_read : ℕ → ℕ → ℕ → ModifiersRead
  no_modifiers_read : ModifiersHalt → ℕ → ModifiersRead

-- the bits of letters, or none where one is there twice
abbrev pub are_bits : List ℕ → Option ℕ
are_bits w = if has_twice w then None else Some (letters_bits w)

abbrev pub read_bits : Option ℕ → Option ℕ → ℕ → ModifiersRead
read_bits None b n = no_modifiers_read letter_twice n
read_bits (Some a) None n = no_modifiers_read letter_twice n
read_bits (Some a) (Some b) n =
    if a == 0 && b == 0 then no_modifiers_read no_letter n
    else (if bit_and a b == 0 then modifiers_read a b n else no_modifiers_read letter_shared n)

abbrev pub read_sides : SidesRead → List ℕ → ModifiersRead
read_sides (sides w v n) all = if starts ascii.colon (drop n all) then read_bits (are_bits w) (are_bits v) n else no_modifiers_read no_colon n

-- the modifiers and the `:` at the front
abbrev pub modifiers_read_at : List ℕ → ModifiersRead
modifiers_read_at w = read_sides (sides_at w) w
