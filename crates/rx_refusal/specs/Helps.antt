-- What to write instead of what is refused, by what is read from the beginning and from the end of the refusal's first span on. The form says whether the text
-- stands in quotes.
use Rattle.std.specs.Prelude.{ℕ, ◌-◌, Bool, false, ◌==◌, ◌&&◌, ◌||◌, nat_eq, nat_le, List, [], ◌∷◌, drop, take, length, get_or, Option, Some, None, option_and_then, option_map, unwrap_or, codes, if◌then◌else◌}
use Rattle.std.specs.List.{starts_with}
use Rattle.rx_base.specs.Flags.{holds}
use Rattle.rx_base.specs.Diagnostic.{first_span_of}
use Rattle.rx_base.specs.declared.diagnostic.kinds.SetOperator.{SetOperator}
use Rattle.rx_base.specs.declared.diagnostic.kinds.SetOperator.TheVariants.{Intersection, Subtraction}
use Rattle.rx_base.specs.declared.diagnostic.kinds.Unterminated.{Unterminated}
use Rattle.rx_base.specs.declared.diagnostic.kinds.Unterminated.TheVariants.{LookAround, CapturingGroup, IgnoreGroup, GroupName, PropertyEscape, CharacterClass, NestedClass, ClassStringDisjunction}
use Rattle.rx_base.specs.declared.diagnostic.Diagnostic.{Diagnostic}
use Rattle.rx_base.specs.declared.diagnostic.Diagnostic.TheVariants.{InvalidInput, UnknownFlag, DuplicatedFlags, InvalidUnicodeFlags, DuplicatedCapturingGroupNames, ParsePatternIncomplete, LoneQuantifier, UnterminatedPattern, InvalidExtendedAtomEscape, InvalidBracedQuantifier, EmptyGroupSpecifier, InvalidUnicodePropertyNameNegativeStrings, InvalidCharacterClass, CharacterClassRangeOutOfOrder, CharacterClassRangeDashNotSubtraction, CharacterClassRangeInvalidAtom, InvalidClassAtom, EmptyClassSetExpression, ClassIntersectionUnexpectedAmpersand, ClassSetExpressionInvalidCharacter, CharacterClassContentsInvalidOperands, BracedQuantifierOutOfOrder, InvalidUnicodePropertyOfStrings, InvalidUnicodeEscapeSequence, InvalidSurrogatePair, DuplicatedModifiers, InvalidModifiers, EmptyModifiers, UnknownModifiers}
use Rattle.rx_model.specs.declared.form.Form.{Form}
use Rattle.rx_model.specs.declared.form.Form.TheVariants.{Literal, Constructor}
use Rattle.rx_refusal.specs.declared.help.ClassHelp.{ClassHelp}
use Rattle.rx_refusal.specs.declared.help.ClassHelp.TheVariants as in_class
use Rattle.rx_refusal.specs.declared.help.EscapeHelp.{EscapeHelp}
use Rattle.rx_refusal.specs.declared.help.EscapeHelp.TheVariants as in_escape
use Rattle.rx_refusal.specs.declared.help.Help.{Help}
use Rattle.rx_refusal.specs.declared.help.Help.TheVariants as help

abbrev pub escape_text : EscapeHelp → List ℕ
escape_text in_escape.NeedlessBackslash = codes "to match the character after the backslash, leave the backslash out"
escape_text in_escape.Backslash = codes "to match a backslash, write two"
escape_text in_escape.HexadecimalDigits = codes "two hexadecimal digits must follow \\x"
escape_text in_escape.ControlLetter = codes "a letter from a to z must follow \\c"
escape_text in_escape.CodePoint = codes "a character is written by its number as \\x41, \\u0041 or, with u or v, \\u{1F600}"
escape_text in_escape.UnicodeEscape = codes "four hexadecimal digits must follow \\u, or a number up to 10FFFF in braces, as in \\u{1F600}"

abbrev pub class_text : ClassHelp → List ℕ
class_text in_class.DoubledCharacter = codes "a class with v holds no sign twice in a row: write it once, or a backslash before each"
class_text (in_class.Beside Intersection) = codes "a range must stand in brackets of its own beside &&, and so must more than one item"
class_text (in_class.Beside Subtraction) = codes "a range must stand in brackets of its own beside --, and so must more than one item"
class_text (in_class.Operand Intersection) = codes "something must stand on both sides of &&"
class_text (in_class.Operand Subtraction) = codes "something must stand on both sides of --"
class_text in_class.OneOperator = codes "&& and -- cannot be mixed: one of them must stand in brackets of its own"
class_text in_class.Ampersand = codes "to match &, write \\&"
class_text in_class.ClassEnd = codes "a class ends with ]"
class_text in_class.StringsEnd = codes "\\q{ ends with }"
class_text in_class.Dash = codes "to match -, write \\-"

abbrev pub help_text : Help → List ℕ
help_text help.NamedGroup = codes "named groups are written (?<a>b)"
help_text help.NamedReference = codes "references by name are written \\k<a>"
help_text help.GroupOfModifiers = codes "modifiers apply to a group, as in (?i:a)"
help_text help.Modifiers = codes "the modifiers are i, m and s"
help_text help.ModifierOnce = codes "write each modifier once"
help_text help.OnOrOff = codes "a modifier is switched on or off, not both"
help_text help.PlainGroup = codes "a group without modifiers is written (?:a)"
help_text help.GroupEnd = codes "a group ends with )"
help_text help.Name = codes "a name consists of letters, digits, $ and _, does not begin with a digit, and ends with >"
help_text help.OtherName = codes "give one of the two groups another name"
help_text help.LoneCharacter = codes "to match the character at which reading stops, write a backslash before it"
help_text help.Property = codes "a property is written in braces, as in \\p{Letter}"
help_text help.PropertyOfStrings = codes "properties of strings need the flag v"
help_text help.CharactersAlone = codes "what is negated may hold single characters, but no strings"
help_text help.LoneQuantifier = codes "a quantifier follows what it repeats; to match the character itself, write a backslash before it"
help_text help.SmallerFirst = codes "the smaller one comes first"
help_text help.Flags = codes "the flags are d, g, i, m, s, u, v and y"
help_text help.FlagOnce = codes "write each flag once"
help_text help.OneUnicodeFlag = codes "v does all that u does, so leave out u"
help_text help.Quotes = codes "an argument of RegExp is written with its quotes"
help_text (help.InEscape it) = escape_text it
help_text (help.InClass it) = class_text it

-- a text begins with one of these bytes
abbrev pub first_is_one_of : List ℕ → List ℕ → Bool
first_is_one_of bytes [] = false
first_is_one_of bytes (byte ∷ rest) = holds bytes byte

abbrev pub begins_with : List ℕ → List ℕ → Bool
begins_with front text = starts_with nat_eq text front

-- what is read from a byte of a text on, where that is known: a literal has no quotes; an argument ends before its closing quote, and an escape of the string
-- itself is not looked at
abbrev pub read_from : Form → List ℕ → ℕ → Option (List ℕ)
read_from Literal text n = Some (drop n text)
read_from Constructor text n = if first_is_one_of (codes "\\") (drop n text) then None else Some (take (length (drop n text) - 1) (drop n text))

-- by what stands in place of a modifier
abbrev pub modifiers_help : List ℕ → Option Help
modifiers_help after =
    if begins_with (codes "P<") after then Some help.NamedGroup
    else (if first_is_one_of (codes "'") after then Some help.NamedGroup
    else (if begins_with (codes "P=") after then Some help.NamedReference
    else (if length after == 0 then Some help.GroupOfModifiers
    else (if first_is_one_of (codes ")") after then Some help.GroupOfModifiers
    else (if first_is_one_of (codes "-abcdefghijklmnopqrstuvwxyzABCDEFGHIJKLMNOPQRSTUVWXYZ") after then Some help.Modifiers else None)))))

-- by what stands after a backslash that begins no escape
abbrev pub escape_help : List ℕ → Help
escape_help after =
    if length after == 0 then help.InEscape in_escape.Backslash
    else (if first_is_one_of (codes "x") after then help.InEscape in_escape.HexadecimalDigits
    else (if first_is_one_of (codes "c") after then help.InEscape in_escape.ControlLetter
    else (if first_is_one_of (codes "u0123456789") after then help.InEscape in_escape.CodePoint else help.InEscape in_escape.NeedlessBackslash)))

-- by what stands where reading cannot go on: a character that stands for itself only after a backslash, or what a backslash stands before
abbrev pub incomplete_help : List ℕ → Help
incomplete_help front = if first_is_one_of (codes ")]{}") front then help.LoneCharacter else escape_help front

-- the same in a group
abbrev pub group_help : List ℕ → Help
group_help after = if length after == 0 then help.GroupEnd else incomplete_help after

-- a text begins with a character that a class with `v` does not hold twice in a row
abbrev pub is_doubled : List ℕ → Bool
is_doubled text = first_is_one_of (codes "&!#$%*+,-.:;<=>?@^`~") text && (nat_le 2 (length text) && (get_or text 0 0 == get_or text 1 0))

-- by what stands in place of an operand of a class with `v`
abbrev pub set_help : List ℕ → Option Help
set_help front =
    if first_is_one_of (codes "\\") front then Some (escape_help (drop 1 front))
    else (if is_doubled front then Some (help.InClass in_class.DoubledCharacter)
    else (if first_is_one_of (codes "()[]{}/-|") front then Some help.LoneCharacter else None))

abbrev pub other_operator : SetOperator → List ℕ
other_operator Intersection = codes "--"
other_operator Subtraction = codes "&&"

-- by what stands where a class is not read on
abbrev pub class_help : List ℕ → Option Help
class_help after =
    if length after == 0 then Some (help.InClass in_class.ClassEnd)
    else (if begins_with (codes "&&") after then Some (help.InClass (in_class.Beside Intersection))
    else (if begins_with (codes "--") after then Some (help.InClass (in_class.Beside Subtraction)) else set_help after))

-- by what stands first in a class
abbrev pub first_help : List ℕ → Option Help
first_help front =
    if begins_with (codes "&&") front then Some (help.InClass (in_class.Operand Intersection))
    else (if begins_with (codes "--") front then Some (help.InClass (in_class.Operand Subtraction)) else set_help front)

-- a text begins with a backslash and what makes an escape with it in a class with `v`, but for digits, `c` and `x`, after which not all makes one
abbrev pub is_escape : List ℕ → Bool
is_escape text = first_is_one_of (codes "\\") text && first_is_one_of (codes "dDsSwWpPqbfnrtvu^$\\.*+?()[]{}|/&-!#%,:;<=>@`~") (drop 1 text)

-- by what stands after an operator or after its operand
abbrev pub operand_help : SetOperator → List ℕ → Help
operand_help what front =
    if length front == 0 then help.InClass in_class.ClassEnd
    else (if first_is_one_of (codes "]") front then help.InClass (in_class.Operand what)
    else (if begins_with (other_operator what) front then help.InClass in_class.OneOperator
    else (if is_doubled front then help.InClass in_class.DoubledCharacter
    else (if begins_with (codes "-]") front then help.InClass in_class.Dash
    else (if first_is_one_of (codes "-[") front || is_escape front then help.InClass (in_class.Beside what) else unwrap_or (set_help front) (help.InClass (in_class.Beside what)))))))

-- by what stands in strings of a class
abbrev pub strings_help : List ℕ → Option Help
strings_help after = if length after == 0 then Some (help.InClass in_class.StringsEnd) else set_help after

abbrev pub unterminated_help : Unterminated → Option (List ℕ) → Option Help
unterminated_help LookAround after = option_map group_help after
unterminated_help CapturingGroup after = option_map group_help after
unterminated_help IgnoreGroup after = option_map group_help after
unterminated_help GroupName after = Some help.Name
unterminated_help PropertyEscape after = Some help.Property
unterminated_help CharacterClass after = option_and_then class_help after
unterminated_help NestedClass after = option_and_then class_help after
unterminated_help ClassStringDisjunction after = option_and_then strings_help after

-- by whether the span is an escape in a name, or the `u` of an escape
abbrev pub unicode_help : List ℕ → Help
unicode_help front = if first_is_one_of (codes "\\") front then help.Name else help.InEscape in_escape.UnicodeEscape

-- by whether a text that is no string and no template begins with a quote
abbrev pub input_help : List ℕ → Option Help
input_help text = if first_is_one_of (codes "\"'`") text then None else Some help.Quotes

-- what is the same for all refusals of a name: of classes and properties, and of all
abbrev pub fixed_class_help : Diagnostic → Option Help
fixed_class_help (InvalidUnicodePropertyNameNegativeStrings _ _) = Some help.CharactersAlone
fixed_class_help (InvalidCharacterClass _) = Some help.CharactersAlone
fixed_class_help (CharacterClassContentsInvalidOperands _) = Some help.CharactersAlone
fixed_class_help (InvalidUnicodePropertyOfStrings _ _) = Some help.PropertyOfStrings
fixed_class_help (CharacterClassRangeOutOfOrder _ _) = Some help.SmallerFirst
fixed_class_help (ClassIntersectionUnexpectedAmpersand _) = Some (help.InClass in_class.Ampersand)
fixed_class_help (CharacterClassRangeInvalidAtom _) = Some (help.InClass in_class.Dash)
fixed_class_help (CharacterClassRangeDashNotSubtraction _) = Some (help.InClass in_class.Dash)
fixed_class_help _ = None

abbrev pub fixed_help : Diagnostic → Option Help
fixed_help (UnknownFlag _ _) = Some help.Flags
fixed_help (DuplicatedFlags _ _) = Some help.FlagOnce
fixed_help (InvalidUnicodeFlags _) = Some help.OneUnicodeFlag
fixed_help (DuplicatedCapturingGroupNames _ _) = Some help.OtherName
fixed_help (LoneQuantifier _) = Some help.LoneQuantifier
fixed_help (InvalidBracedQuantifier _) = Some help.LoneQuantifier
fixed_help (BracedQuantifierOutOfOrder _) = Some help.SmallerFirst
fixed_help (EmptyGroupSpecifier _) = Some help.NamedReference
fixed_help (InvalidSurrogatePair _) = Some help.Name
fixed_help (DuplicatedModifiers _) = Some help.ModifierOnce
fixed_help (InvalidModifiers _) = Some help.OnOrOff
fixed_help (EmptyModifiers _) = Some help.PlainGroup
fixed_help (InvalidExtendedAtomEscape _) = Some (help.InEscape in_escape.Backslash)
fixed_help refusal = fixed_class_help refusal

-- by what is read from the beginning of the first span on, and from its end on. An argument that is no string and no template is looked at as it stands
abbrev pub help_of : Diagnostic → List ℕ → Option (List ℕ) → Option (List ℕ) → Option Help
help_of (InvalidInput _) text front after = input_help text
help_of (UnknownModifiers _) text front after = option_and_then modifiers_help after
help_of (ParsePatternIncomplete _) text front after = option_map incomplete_help front
help_of (UnterminatedPattern _ what) text front after = unterminated_help what after
help_of (InvalidClassAtom _) text front after = option_map escape_help after
help_of (EmptyClassSetExpression _) text front after = option_and_then first_help front
help_of (ClassSetExpressionInvalidCharacter _ what) text front after = option_map (operand_help what) front
help_of (InvalidUnicodeEscapeSequence _) text front after = option_map unicode_help front
help_of refusal text front after = fixed_help refusal

-- what to write instead, by what is read at the first span, of a text in this form
abbrev pub help_at : Form → List ℕ → ℕ → Diagnostic → Option (List ℕ)
help_at form bytes offset refusal =
    let span = first_span_of refusal in
    option_map help_text (help_of refusal bytes (read_from form bytes (span.start - offset)) (read_from form bytes (span.end - offset)))
