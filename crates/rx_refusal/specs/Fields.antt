-- The texts of an input in which the spans of a refusal lie.
use Rattle.std.specs.Prelude.{◌≡◌, ℕ, true, List, [], codes, Option, Some, None, unwrap_or}
use Rattle.rx_base.specs.declared.diagnostic.Diagnostic.{Diagnostic}
use Rattle.rx_base.specs.declared.diagnostic.Diagnostic.TheVariants.{UnknownFlag, DuplicatedFlags, InvalidUnicodeFlags, InvalidInput}
use Rattle.rx_units.specs.declared.code_point.CodePoint.{CodePoint}
use Rattle.rx_model.specs.Inputs.Inputs.{Input}
use Rattle.rx_model.specs.Inputs.Texts.{AreFlagUnits, HasNoUnits}
use Rattle.rx_refusal.specs.declared.field.Field.{Field}
use Rattle.rx_refusal.specs.declared.field.Field.TheVariants.{Flags, Pattern}

abbrev pub field_name : Field → List ℕ
field_name Flags = codes "flags"
field_name Pattern = codes "pattern"

-- the text of an input in which spans lie, and what is added to them
abbrev pub text_in : Input → Field → List ℕ
text_in input Flags = unwrap_or input.flags []
text_in input Pattern = input.text

abbrev pub offset_in : Input → Field → ℕ
offset_in input Flags = input.flags_offset
offset_in input Pattern = input.text_offset

-- the text in which the spans of a refusal lie by its name alone: a text that is not decoded may be either
abbrev pub named_field : Diagnostic → Option Field
named_field (UnknownFlag span flag) = Some Flags
named_field (DuplicatedFlags span flag) = Some Flags
named_field (InvalidUnicodeFlags span) = Some Flags
named_field (InvalidInput span) = None
named_field _ = Some Pattern

-- The spans of this refusal of an input lie in its flags, or in its text. Where one of the two is not decoded, it is the flags if they have no units, and else
-- the text.
pub data IsFieldOf (input : Input) (refusal : Diagnostic) : Field → Type 0 where
  by_name : (field : Field) → named_field refusal ≡ Some field → IsFieldOf input refusal field
  spoilt_flags : (flags : List ℕ) → named_field refusal ≡ None → input.flags ≡ Some flags → HasNoUnits input.standard_strings true flags input.form → IsFieldOf input refusal Flags
  spoilt_text : (units : List CodePoint) → named_field refusal ≡ None → AreFlagUnits input.standard_strings input.form input.flags units → IsFieldOf input refusal Pattern
