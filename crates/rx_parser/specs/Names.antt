-- What the functions that look for names answer, by what the definitions read there (GroupName, 22.2.1). The places of a halt count the three units before the name.
use Rattle.std.specs.Prelude.{ℕ, ◌+◌}
use Rattle.rx_model.specs.Groups.NameFronts.{NameHalt, unterminated, misplaced_pair, misplaced, no_escape, no_escape_of_u, many_digits, NameRead, name_read, no_name_read}
use Rattle.rx_parser.specs.HaltPlaces.{halt_end}
use Rattle.rx_parser.specs.declared.found.Halt.{Halt}
use Rattle.rx_parser.specs.declared.found.Halt.TheVariants as halt
use Rattle.rx_parser.specs.declared.name.NameFound.{NameFound}
use Rattle.rx_parser.specs.declared.name.NameFound.TheVariants as found

-- the answer where a name does not end or is wrong
abbrev pub found_name_halt : NameHalt → Halt
found_name_halt (unterminated n) = halt.UnterminatedName n
found_name_halt (misplaced_pair count) = halt.MisplacedPair (count + 3)
found_name_halt (misplaced count n) = halt.InvalidEscape (count + 3) (n + 1)
found_name_halt (no_escape count) = halt.InvalidEscape (count + 3) 1
found_name_halt (no_escape_of_u count) = halt.InvalidEscape (count + 4) 1
found_name_halt (many_digits count many) = halt.TooManyHexDigits (count + 6) many

-- the answer where a name is read, and where none is
abbrev pub found_name : NameRead → NameFound
found_name (name_read name n) = found.Name n
found_name (no_name_read it) = found.Halt (found_name_halt it)

-- the place after the name, or after what a halt names
abbrev pub name_end : NameFound → ℕ
name_end (found.Name n) = n + 4
name_end (found.Halt it) = halt_end it
