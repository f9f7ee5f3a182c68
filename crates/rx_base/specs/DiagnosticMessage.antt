-- What a refusal says, in characters.
use Rattle.std.specs.Prelude.{ℕ, List, ◌∷◌, [], ◌++◌, codes, true, if◌then◌else◌}
use Rattle.std.specs.Fmt.{digits}
use Rattle.rx_base.specs.Characters.{is_character}
use Rattle.rx_base.specs.declared.diagnostic.kinds.Unterminated.{Unterminated}
use Rattle.rx_base.specs.declared.diagnostic.kinds.Unterminated.TheVariants.{LookAround, CapturingGroup, IgnoreGroup, GroupName, PropertyEscape, CharacterClass, NestedClass, ClassStringDisjunction}
use Rattle.rx_base.specs.declared.diagnostic.kinds.RangeKind.{RangeKind}
use Rattle.rx_base.specs.declared.diagnostic.kinds.RangeKind.TheVariants.{ClassAtom, ClassSet}
use Rattle.rx_base.specs.declared.diagnostic.kinds.SetOperator.{SetOperator}
use Rattle.rx_base.specs.declared.diagnostic.kinds.SetOperator.TheVariants.{Intersection, Subtraction}
use Rattle.rx_base.specs.declared.diagnostic.kinds.DigitsKind.{DigitsKind}
use Rattle.rx_base.specs.declared.diagnostic.kinds.DigitsKind.TheVariants.{Decimal, Hex}
use Rattle.rx_base.specs.declared.diagnostic.kinds.PropertyPart.{PropertyPart}
use Rattle.rx_base.specs.declared.diagnostic.kinds.PropertyPart.TheVariants.{Name, NameOrValue}
use Rattle.rx_base.specs.declared.diagnostic.Diagnostic.{Diagnostic}
use Rattle.rx_base.specs.declared.diagnostic.Diagnostic.TheVariants.{InvalidInput, UnknownFlag, DuplicatedFlags, InvalidUnicodeFlags, DuplicatedCapturingGroupNames, TooMayCapturingGroups, ParsePatternIncomplete, LoneQuantifier, UnterminatedPattern, InvalidExtendedAtomEscape, InvalidBracedQuantifier, InvalidIndexedReference, EmptyGroupSpecifier, InvalidNamedReference, InvalidUnicodePropertyNameNegativeStrings, InvalidCharacterClass, CharacterClassRangeOutOfOrder, CharacterClassRangeDashNotSubtraction, CharacterClassRangeInvalidAtom, InvalidClassAtom, EmptyClassSetExpression, ClassIntersectionUnexpectedAmpersand, ClassSetExpressionInvalidCharacter, CharacterClassContentsInvalidOperands, TooLargeNumberInBracedQuantifier, BracedQuantifierOutOfOrder, TooLargeNumberDigits, InvalidUnicodeProperty, InvalidUnicodePropertyOfStrings, InvalidUnicodeEscapeSequence, InvalidSurrogatePair, DuplicatedModifiers, InvalidModifiers, EmptyModifiers, UnknownModifiers}

-- A flag is shown as its character, and where it is no character, as a surrogate or a number past all code points, by its number in hexadecimal.
abbrev pub flag_text : ℕ → List ℕ
flag_text flag = if is_character flag then flag ∷ [] else codes "\\u{" ++ digits 16 true flag ++ codes "}"

abbrev pub unterminated_reason : Unterminated → List ℕ
unterminated_reason LookAround = codes "Unterminated lookaround assertion"
unterminated_reason CapturingGroup = codes "Unterminated capturing group"
unterminated_reason IgnoreGroup = codes "Unterminated ignore group"
unterminated_reason GroupName = codes "Unterminated capturing group name"
unterminated_reason PropertyEscape = codes "Unterminated unicode property escape"
unterminated_reason CharacterClass = codes "Unterminated character class"
unterminated_reason NestedClass = codes "Unterminated nested class"
unterminated_reason ClassStringDisjunction = codes "Unterminated class string disjunction"

abbrev pub range_reason : RangeKind → List ℕ
range_reason ClassAtom = codes "Character class atom range out of order"
range_reason ClassSet = codes "Character class set range out of order"

abbrev pub operator_reason : SetOperator → List ℕ
operator_reason Intersection = codes "Unexpected character inside of class intersection"
operator_reason Subtraction = codes "Unexpected character inside of class subtraction"

abbrev pub digits_reason : DigitsKind → List ℕ
digits_reason Decimal = codes "Number is too large in decimal digits"
digits_reason Hex = codes "Number is too large in hex digits"

abbrev pub property_reason : PropertyPart → List ℕ
property_reason Name = codes "Invalid unicode property name"
property_reason NameOrValue = codes "Invalid unicode property name and/or value"

abbrev pub reason_of : Diagnostic → List ℕ
reason_of (InvalidInput _) = codes "Invalid input string literal"
reason_of (UnknownFlag _ flag) = codes "Unknown flag: `" ++ flag_text flag ++ codes "` found"
reason_of (DuplicatedFlags _ flag) = codes "Duplicated flag: `" ++ flag_text flag ++ codes "` found"
reason_of (InvalidUnicodeFlags _) = codes "Invalid unicode flags combination `u` and `v`"
reason_of (DuplicatedCapturingGroupNames _ _) = codes "Duplicated capturing group names"
reason_of (TooMayCapturingGroups _) = codes "Too many capturing groups"
reason_of (ParsePatternIncomplete _) = codes "Could not parse the entire pattern"
reason_of (LoneQuantifier _) = codes "Lone quantifier found, expected with `Atom`"
reason_of (UnterminatedPattern _ what) = unterminated_reason what
reason_of (InvalidExtendedAtomEscape _) = codes "Invalid extended atom escape"
reason_of (InvalidBracedQuantifier _) = codes "Invalid braced quantifier"
reason_of (InvalidIndexedReference _ _) = codes "Invalid indexed reference"
reason_of (EmptyGroupSpecifier _) = codes "Group specifier is empty"
reason_of (InvalidNamedReference _ _) = codes "Invalid named reference"
reason_of (InvalidUnicodePropertyNameNegativeStrings _ name) = codes "Property name `" ++ name ++ codes "` is not allowed here"
reason_of (InvalidCharacterClass _) = codes "Invalid character class with strings unicode property"
reason_of (CharacterClassRangeOutOfOrder _ what) = range_reason what
reason_of (CharacterClassRangeDashNotSubtraction _) = codes "Character class range out of order"
reason_of (CharacterClassRangeInvalidAtom _) = codes "Character class range with invalid atom"
reason_of (InvalidClassAtom _) = codes "Invalid class atom"
reason_of (EmptyClassSetExpression _) = codes "Expected nonempty class set expression"
reason_of (ClassIntersectionUnexpectedAmpersand _) = codes "Unexpected `&` inside of class intersection"
reason_of (ClassSetExpressionInvalidCharacter _ what) = operator_reason what
reason_of (CharacterClassContentsInvalidOperands _) = codes "Invalid class operands inside of character class contents"
reason_of (TooLargeNumberInBracedQuantifier _) = codes "Number is too large in braced quantifier"
reason_of (BracedQuantifierOutOfOrder _) = codes "Numbers out of order in braced quantifier"
reason_of (TooLargeNumberDigits _ what) = digits_reason what
reason_of (InvalidUnicodeProperty _ what) = property_reason what
reason_of (InvalidUnicodePropertyOfStrings _ name) = codes "Invalid unicode property `" ++ name ++ codes "`"
reason_of (InvalidUnicodeEscapeSequence _) = codes "Invalid unicode escape sequence"
reason_of (InvalidSurrogatePair _) = codes "Invalid surrogate pair"
reason_of (DuplicatedModifiers _) = codes "Duplicated modifier"
reason_of (InvalidModifiers _) = codes "Invalid modifiers"
reason_of (EmptyModifiers _) = codes "Empty modifiers"
reason_of (UnknownModifiers _) = codes "Unknown modifiers"

-- the whole message
abbrev pub message_of : Diagnostic → List ℕ
message_of diagnostic = codes "Invalid regular expression: " ++ reason_of diagnostic
