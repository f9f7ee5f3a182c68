-- What is said of a refusal: its name and its spans.
use Rattle.std.specs.Prelude.{ℕ, Bool, true, false, List, codes, Option, Some, None}
use Rattle.rx_base.specs.declared.span.Span.{Span}
use Rattle.rx_base.specs.declared.diagnostic.Diagnostic.{Diagnostic}
use Rattle.rx_base.specs.declared.diagnostic.Diagnostic.TheVariants.{InvalidInput, UnknownFlag, DuplicatedFlags, InvalidUnicodeFlags, DuplicatedCapturingGroupNames, TooMayCapturingGroups, ParsePatternIncomplete, LoneQuantifier, UnterminatedPattern, InvalidExtendedAtomEscape, InvalidBracedQuantifier, InvalidIndexedReference, EmptyGroupSpecifier, InvalidNamedReference, InvalidUnicodePropertyNameNegativeStrings, InvalidCharacterClass, CharacterClassRangeOutOfOrder, CharacterClassRangeDashNotSubtraction, CharacterClassRangeInvalidAtom, InvalidClassAtom, EmptyClassSetExpression, ClassIntersectionUnexpectedAmpersand, ClassSetExpressionInvalidCharacter, CharacterClassContentsInvalidOperands, TooLargeNumberInBracedQuantifier, BracedQuantifierOutOfOrder, TooLargeNumberDigits, InvalidUnicodeProperty, InvalidUnicodePropertyOfStrings, InvalidUnicodeEscapeSequence, InvalidSurrogatePair, DuplicatedModifiers, InvalidModifiers, EmptyModifiers, UnknownModifiers}

-- What is refused is a class or a property of characters.
abbrev pub is_of_class : Diagnostic → Bool
is_of_class (InvalidUnicodePropertyNameNegativeStrings _ _) = true
is_of_class (InvalidCharacterClass _) = true
is_of_class (CharacterClassRangeOutOfOrder _ _) = true
is_of_class (CharacterClassRangeDashNotSubtraction _) = true
is_of_class (CharacterClassRangeInvalidAtom _) = true
is_of_class (InvalidClassAtom _) = true
is_of_class (EmptyClassSetExpression _) = true
is_of_class (ClassIntersectionUnexpectedAmpersand _) = true
is_of_class (ClassSetExpressionInvalidCharacter _ _) = true
is_of_class (CharacterClassContentsInvalidOperands _) = true
is_of_class (InvalidUnicodeProperty _ _) = true
is_of_class (InvalidUnicodePropertyOfStrings _ _) = true
is_of_class _ = false

-- what it is called
abbrev pub name_of : Diagnostic → List ℕ
name_of (InvalidInput _) = codes "invalid_input"
name_of (UnknownFlag _ _) = codes "unknown_flag"
name_of (DuplicatedFlags _ _) = codes "duplicated_flags"
name_of (InvalidUnicodeFlags _) = codes "invalid_unicode_flags"
name_of (DuplicatedCapturingGroupNames _ _) = codes "duplicated_capturing_group_names"
name_of (TooMayCapturingGroups _) = codes "too_may_capturing_groups"
name_of (ParsePatternIncomplete _) = codes "parse_pattern_incomplete"
name_of (LoneQuantifier _) = codes "lone_quantifier"
name_of (UnterminatedPattern _ _) = codes "unterminated_pattern"
name_of (InvalidExtendedAtomEscape _) = codes "invalid_extended_atom_escape"
name_of (InvalidBracedQuantifier _) = codes "invalid_braced_quantifier"
name_of (InvalidIndexedReference _ _) = codes "invalid_indexed_reference"
name_of (EmptyGroupSpecifier _) = codes "empty_group_specifier"
name_of (InvalidNamedReference _ _) = codes "invalid_named_reference"
name_of (InvalidUnicodePropertyNameNegativeStrings _ _) = codes "invalid_unicode_property_name_negative_strings"
name_of (InvalidCharacterClass _) = codes "invalid_character_class"
name_of (CharacterClassRangeOutOfOrder _ _) = codes "character_class_range_out_of_order"
name_of (CharacterClassRangeDashNotSubtraction _) = codes "character_class_range_dash_not_subtraction"
name_of (CharacterClassRangeInvalidAtom _) = codes "character_class_range_invalid_atom"
name_of (InvalidClassAtom _) = codes "invalid_class_atom"
name_of (EmptyClassSetExpression _) = codes "empty_class_set_expression"
name_of (ClassIntersectionUnexpectedAmpersand _) = codes "class_intersection_unexpected_ampersand"
name_of (ClassSetExpressionInvalidCharacter _ _) = codes "class_set_expression_invalid_character"
name_of (CharacterClassContentsInvalidOperands _) = codes "character_class_contents_invalid_operands"
name_of (TooLargeNumberInBracedQuantifier _) = codes "too_large_number_in_braced_quantifier"
name_of (BracedQuantifierOutOfOrder _) = codes "braced_quantifier_out_of_order"
name_of (TooLargeNumberDigits _ _) = codes "too_large_number_digits"
name_of (InvalidUnicodeProperty _ _) = codes "invalid_unicode_property"
name_of (InvalidUnicodePropertyOfStrings _ _) = codes "invalid_unicode_property_of_strings"
name_of (InvalidUnicodeEscapeSequence _) = codes "invalid_unicode_escape_sequence"
name_of (InvalidSurrogatePair _) = codes "invalid_surrogate_pair"
name_of (DuplicatedModifiers _) = codes "duplicated_modifiers"
name_of (InvalidModifiers _) = codes "invalid_modifiers"
name_of (EmptyModifiers _) = codes "empty_modifiers"
name_of (UnknownModifiers _) = codes "unknown_modifiers"

-- its span, or the first of two
abbrev pub first_span_of : Diagnostic → Span
first_span_of (InvalidInput span) = span
first_span_of (UnknownFlag span _) = span
first_span_of (DuplicatedFlags span _) = span
first_span_of (InvalidUnicodeFlags span) = span
first_span_of (DuplicatedCapturingGroupNames first _) = first
first_span_of (TooMayCapturingGroups span) = span
first_span_of (ParsePatternIncomplete span) = span
first_span_of (LoneQuantifier span) = span
first_span_of (UnterminatedPattern span _) = span
first_span_of (InvalidExtendedAtomEscape span) = span
first_span_of (InvalidBracedQuantifier span) = span
first_span_of (InvalidIndexedReference span _) = span
first_span_of (EmptyGroupSpecifier span) = span
first_span_of (InvalidNamedReference span _) = span
first_span_of (InvalidUnicodePropertyNameNegativeStrings span _) = span
first_span_of (InvalidCharacterClass span) = span
first_span_of (CharacterClassRangeOutOfOrder span _) = span
first_span_of (CharacterClassRangeDashNotSubtraction span) = span
first_span_of (CharacterClassRangeInvalidAtom span) = span
first_span_of (InvalidClassAtom span) = span
first_span_of (EmptyClassSetExpression span) = span
first_span_of (ClassIntersectionUnexpectedAmpersand span) = span
first_span_of (ClassSetExpressionInvalidCharacter span _) = span
first_span_of (CharacterClassContentsInvalidOperands span) = span
first_span_of (TooLargeNumberInBracedQuantifier span) = span
first_span_of (BracedQuantifierOutOfOrder span) = span
first_span_of (TooLargeNumberDigits span _) = span
first_span_of (InvalidUnicodeProperty span _) = span
first_span_of (InvalidUnicodePropertyOfStrings span _) = span
first_span_of (InvalidUnicodeEscapeSequence span) = span
first_span_of (InvalidSurrogatePair span) = span
first_span_of (DuplicatedModifiers span) = span
first_span_of (InvalidModifiers span) = span
first_span_of (EmptyModifiers span) = span
first_span_of (UnknownModifiers span) = span

-- the second of two spans, which only equal names of groups have
abbrev pub second_span_of : Diagnostic → Option Span
second_span_of (DuplicatedCapturingGroupNames _ second) = Some second
second_span_of _ = None
