-- What stands next in a class with `v`, as data of the definitions.
use Rattle.std.specs.Prelude.{Option, Some, None}
use Rattle.rx_model.specs.Characters.EscapeFronts.{EscapeRead, escaped, nothing, too_many, no_unicode}
use Rattle.rx_class.specs.declared.sets.character.SetCharacter.{SetCharacter}
use Rattle.rx_class.specs.declared.sets.character.SetCharacter.TheVariants as found
use Rattle.rx_class.specs.declared.sets.front.SetFront.{SetFront}
use Rattle.rx_class.specs.declared.sets.front.SetFront.TheVariants as front
use Rattle.rx_class.specs.SetReading.Fronts.{FrontRead, bracket_next, character_next, closer_next, escape_next, nothing_next, operator_next, property_next, strings_next}

abbrev pub seen_character : SetCharacter → EscapeRead
seen_character (found.Character kind value length) = escaped kind value length
seen_character (found.TooMany digits) = too_many digits
seen_character found.Invalid = no_unicode

-- the same where there may be none
abbrev pub seen_if_some : Option SetCharacter → EscapeRead
seen_if_some None = nothing
seen_if_some (Some it) = seen_character it

abbrev pub seen_front : SetFront → FrontRead
seen_front front.Closer = closer_next
seen_front (front.Bracket negative) = bracket_next negative
seen_front front.Strings = strings_next
seen_front (front.Operator operator) = operator_next operator
seen_front (front.Character found) = character_next (seen_character found)
seen_front (front.Escape kind) = escape_next kind
seen_front front.Property = property_next
seen_front front.Nothing = nothing_next
