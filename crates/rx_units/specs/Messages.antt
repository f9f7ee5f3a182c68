-- What a fault says, in characters.
use Rattle.std.specs.Prelude.{ℕ, List, ◌++◌, codes}
use Rattle.rx_units.specs.declared.string_literal_parser.LegacyKind.{LegacyKind}
use Rattle.rx_units.specs.declared.string_literal_parser.LegacyKind.TheVariants.{Octal, NonOctalDecimal}
use Rattle.rx_units.specs.declared.string_literal_parser.StringFault.{StringFault}
use Rattle.rx_units.specs.declared.string_literal_parser.StringFault.TheVariants as string_fault
use Rattle.rx_units.specs.declared.template_literal_parser.TemplateFault.{TemplateFault}
use Rattle.rx_units.specs.declared.template_literal_parser.TemplateFault.TheVariants as template_fault

abbrev pub legacy_name : LegacyKind → List ℕ
legacy_name Octal = codes "octal"
legacy_name NonOctalDecimal = codes "non octal decimal"

abbrev pub string_message : StringFault → List ℕ
string_message string_fault.OutOfMemory = codes "Out of memory"
string_message (string_fault.InvalidInput _) = codes "String literal should be wrapped with ' or \", or escaped properly"
string_message (string_fault.LegacyInStrictMode what _) = codes "Not allowed " ++ legacy_name what ++ codes " escape sequence in strict mode"
string_message (string_fault.TooLargeUnicodeEscapeSequence _) = codes "Too large unicode escape sequence"

abbrev pub template_message : TemplateFault → List ℕ
template_message template_fault.OutOfMemory = codes "Out of memory"
template_message (template_fault.InvalidInput _) = codes "Template literal should be wrapped with ` or escaped properly"
template_message (template_fault.TemplateSubstitution _) = codes "Template literal should not contain unescaped `${}`"
template_message (template_fault.TooLargeUnicodeEscapeSequence _) = codes "Too large unicode escape sequence"
template_message (template_fault.InvalidHexEscape _) = codes "Invalid hex escape sequence"
template_message (template_fault.InvalidUnicodeEscape _) = codes "Invalid unicode escape sequence"
template_message (template_fault.NotEscapeSequence _) = codes "Octal escapes, `\\8` and `\\9` are not allowed in template literals"
