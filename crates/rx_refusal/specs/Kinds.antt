-- Which kind of its name a refusal is.
use Rattle.std.specs.Prelude.{ℕ, List, Option, Some, None, codes}
use Rattle.rx_base.specs.declared.diagnostic.kinds.Unterminated.{Unterminated}
use Rattle.rx_base.specs.declared.diagnostic.kinds.Unterminated.TheVariants.{LookAround, CapturingGroup, IgnoreGroup, GroupName, PropertyEscape, CharacterClass, NestedClass, ClassStringDisjunction}
use Rattle.rx_base.specs.declared.diagnostic.kinds.RangeKind.{RangeKind}
use Rattle.rx_base.specs.declared.diagnostic.kinds.RangeKind.TheVariants.{ClassAtom, ClassSet}
use Rattle.rx_base.specs.declared.diagnostic.kinds.SetOperator.{SetOperator}
use Rattle.rx_base.specs.declared.diagnostic.kinds.SetOperator.TheVariants.{Intersection, Subtraction}
use Rattle.rx_base.specs.declared.diagnostic.kinds.DigitsKind.{DigitsKind}
use Rattle.rx_base.specs.declared.diagnostic.kinds.DigitsKind.TheVariants.{Decimal, Hex}
use Rattle.rx_base.specs.declared.diagnostic.kinds.PropertyPart.{PropertyPart}
use Rattle.rx_base.specs.declared.diagnostic.kinds.PropertyPart.TheVariants.{Name, NameOrValue}
use Rattle.rx_base.specs.declared.diagnostic.Diagnostic.{Diagnostic}
use Rattle.rx_base.specs.declared.diagnostic.Diagnostic.TheVariants.{UnterminatedPattern, CharacterClassRangeOutOfOrder, ClassSetExpressionInvalidCharacter, TooLargeNumberDigits, InvalidUnicodeProperty}

abbrev pub unterminated_kind : Unterminated → List ℕ
unterminated_kind LookAround = codes "look_around"
unterminated_kind CapturingGroup = codes "capturing_group"
unterminated_kind IgnoreGroup = codes "ignore_group"
unterminated_kind GroupName = codes "group_name"
unterminated_kind PropertyEscape = codes "property_escape"
unterminated_kind CharacterClass = codes "character_class"
unterminated_kind NestedClass = codes "nested_class"
unterminated_kind ClassStringDisjunction = codes "class_string_disjunction"

abbrev pub range_kind : RangeKind → List ℕ
range_kind ClassAtom = codes "class_atom"
range_kind ClassSet = codes "class_set"

abbrev pub operator_kind : SetOperator → List ℕ
operator_kind Intersection = codes "intersection"
operator_kind Subtraction = codes "subtraction"

abbrev pub digits_kind : DigitsKind → List ℕ
digits_kind Decimal = codes "decimal"
digits_kind Hex = codes "hex"

abbrev pub property_kind : PropertyPart → List ℕ
property_kind Name = codes "name"
property_kind NameOrValue = codes "name_or_value"

-- which kind of its name it is, where there are several
abbrev pub kind_of : Diagnostic → Option (List ℕ)
kind_of (UnterminatedPattern _ what) = Some (unterminated_kind what)
kind_of (CharacterClassRangeOutOfOrder _ what) = Some (range_kind what)
kind_of (ClassSetExpressionInvalidCharacter _ what) = Some (operator_kind what)
kind_of (TooLargeNumberDigits _ what) = Some (digits_kind what)
kind_of (InvalidUnicodeProperty _ what) = Some (property_kind what)
kind_of _ = None
