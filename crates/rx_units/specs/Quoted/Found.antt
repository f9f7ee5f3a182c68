-- What the code finds, in the words of Fronts.
use Rattle.std.specs.Prelude.{Bool, true, false}
use Rattle.rx_units.specs.declared.quoted_text.found.EscapeFound.{EscapeFound}
use Rattle.rx_units.specs.declared.quoted_text.found.EscapeFound.TheVariants as escape
use Rattle.rx_units.specs.declared.quoted_text.found.Found.{Found}
use Rattle.rx_units.specs.declared.quoted_text.found.Found.TheVariants as found
use Rattle.rx_units.specs.Quoted.Fronts.{EscapeRead, escaped, digit, unended, no_hex, no_unicode, passes, Front, element, closer, nothing, substitution, invalid_hex, invalid_unicode, too_large}

abbrev pub seen_escape : EscapeFound → EscapeRead
seen_escape (escape.Escaped value how length) = escaped value how length
seen_escape escape.Digit = digit
seen_escape escape.Unended = unended
seen_escape (escape.InvalidHex length) = no_hex length
seen_escape (escape.InvalidUnicode length) = no_unicode length
seen_escape (escape.TooLarge length) = passes length

abbrev pub seen_front : Found → Front
seen_front (found.Element e length) = element e length
seen_front found.Closer = closer
seen_front (found.Nothing length) = nothing length
seen_front found.Substitution = substitution
seen_front (found.InvalidHex length) = invalid_hex length
seen_front (found.InvalidUnicode length) = invalid_unicode length
seen_front (found.TooLarge length) = too_large length

abbrev pub is_closer : Front → Bool
is_closer closer = true
is_closer _ = false
