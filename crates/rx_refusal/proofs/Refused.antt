-- The text in which the spans of a first refusal lie is the one that is refused.
use Rattle.std.proofs.Common.{◌≡◌, ◌∙◌, refl, ap, sym, subst, true, false, Bool, ℕ, List, Option, Some, None}
use Rattle.rx_base.specs.declared.diagnostic.Diagnostic.{Diagnostic}
use Rattle.rx_units.specs.declared.code_point.CodePoint.{CodePoint}
use Rattle.rx_units.specs.Units.{values}
use Rattle.rx_model.specs.declared.form.Form.{Form}
use Rattle.rx_model.specs.declared.mode.Mode.{Mode}
use Rattle.rx_model.specs.declared.rules.Rules.{Rules}
use Rattle.rx_model.specs.Inputs.Flags.{flags_ok}
use Rattle.rx_model.specs.Inputs.Inputs.{AsksFor, Input}
use Rattle.rx_model.specs.Inputs.Texts.{AreFlagUnits, AreUnits, HasNoUnits, first_offset, some_flags}
use Rattle.rx_model.specs.Reading.Headline.{IsFirstRefusal, no_flags_text, no_text, of_flags, of_text}
use Rattle.rx_model.specs.Refusals.Causes as cause
use Rattle.rx_model.specs.Refusals.Causes.{IsCause, IsCauseAtPlace}
use Rattle.rx_model.specs.Refusals.ClassCauses.{IsClassCause, escape_in_class, negative_strings, property_in_class}
use Rattle.rx_model.specs.Refusals.EscapeCauses.{IsEscapeCause, IsPropertyCause, no_property, too_many_hex_digits}
use Rattle.rx_model.specs.Refusals.FlagCauses.{IsFlagCause, unknown}
use Rattle.rx_model.proofs.Inputs.Asked.{one_flags}
use Rattle.rx_model.proofs.Refusals.FlagCauses.{cause_refuses}
use Rattle.rx_model.proofs.Refusals.OneRefusal.{first_is_cause}
use Rattle.rx_refusal.specs.declared.field.Field.TheVariants.{Flags, Pattern}
use Rattle.rx_refusal.specs.Fields.{IsFieldOf, by_name, named_field, spoilt_flags, spoilt_text}

-- the spans of the refusals of a text lie in it, by their names
module _ (mode : Mode) (us : List CodePoint) (first added : ℕ) where
  of_escape : (place : ℕ) (rest : List CodePoint) (d : Diagnostic) → IsEscapeCause mode us first added place rest d → named_field d ≡ Some Pattern
  of_escape place rest _ (too_many_hex_digits count following unicode whole passes) = refl
  of_escape place rest _ _ = refl

  of_property : (place : ℕ) (rest : List CodePoint) (d : Diagnostic) → IsPropertyCause mode us first added place rest d → named_field d ≡ Some Pattern
  of_property place rest _ (no_property letter following unicode whole begins none) = refl
  of_property place rest _ _ = refl

  in_class : (from place : ℕ) (at_class : List CodePoint) (d : Diagnostic) → IsClassCause mode us first added from at_class place d → named_field d ≡ Some Pattern
  in_class from _ at_class d (escape_in_class place rest at k) = of_escape place rest d k
  in_class from _ at_class d (property_in_class place rest at k) = of_property place rest d k
  in_class from _ at_class _ (negative_strings true begin place rest negative) = refl
  in_class from _ at_class _ (negative_strings false begin place rest negative) = refl
  in_class from _ at_class _ _ = refl

  at_place : (rules : Rules) (place : ℕ) (d : Diagnostic) → IsCauseAtPlace mode rules us first added place d → named_field d ≡ Some Pattern
  at_place rules _ d (cause.of_escape place rest at k) = of_escape place rest d k
  at_place rules _ d (cause.of_property place rest at k) = of_property place rest d k
  at_place rules _ d (cause.of_class from place at_class at k) = in_class from place at_class d k
  at_place rules _ _ _ = refl

  in_text : (rules : Rules) (d : Diagnostic) → IsCause mode rules us first added d → named_field d ≡ Some Pattern
  in_text rules d (cause.at_place place none few k) = at_place rules place d k
  in_text rules _ _ = refl

-- and those of flags in the flags
pub named_flags : (us : List CodePoint) (first added : ℕ) (d : Diagnostic) → IsFlagCause us first added d → named_field d ≡ Some Flags
named_flags us first added _ (unknown before unit offence none) = refl
named_flags us first added _ _ = refl

-- the units of a flags text
text_units : (standard : Bool) (form : Form) (text : List ℕ) (us : List CodePoint) → AreFlagUnits standard form (Some text) us → AreUnits standard true text form us
text_units standard form text us (some_flags are) = are

module _ (input : Input) where
  unread : (text : List ℕ) (us : List CodePoint) → input.flags ≡ Some text → HasNoUnits input.standard_strings true text input.form → AreFlagUnits input.standard_strings input.form input.flags us → ⊥
  unread text us is none are =
      none us (text_units input.standard_strings input.form text us (subst (λ (flags : Option (List ℕ)). AreFlagUnits input.standard_strings input.form flags us) is are))

  wrong : (us : List CodePoint) (d : Diagnostic) (mode : Mode) → AreFlagUnits input.standard_strings input.form input.flags us → IsFlagCause us (first_offset input.form) input.flags_offset d → AsksFor input mode → ⊥
  wrong us d mode are k asks =
      let same = one_flags input.standard_strings input.form input.flags us asks.flags are asks.flags_are in
      let no : false ≡ true = sym (cause_refuses us (first_offset input.form) input.flags_offset d k) ∙ ap (λ us. flags_ok (values us)) same ∙ asks.are_right in
      cc no

  not_flags : (d : Diagnostic) → named_field d ≡ Some Pattern → IsFieldOf input d Flags → ⊥
  not_flags d named (by_name _ e) = let no : Some Pattern ≡ Some Flags = sym named ∙ e in cc no
  not_flags d named (spoilt_flags flags unnamed is none) = let no : Some Pattern ≡ None = sym named ∙ unnamed in cc no

  not_pattern : (d : Diagnostic) → named_field d ≡ Some Flags → IsFieldOf input d Pattern → ⊥
  not_pattern d named (by_name _ e) = let no : Some Flags ≡ Some Pattern = sym named ∙ e in cc no
  not_pattern d named (spoilt_text us unnamed are) = let no : Some Flags ≡ None = sym named ∙ unnamed in cc no

  -- where the spans lie in the flags, these are wrong,
  pub flags_alone : (d : Diagnostic) (mode : Mode) → IsFirstRefusal input d → IsFieldOf input d Flags → AsksFor input mode → ⊥
  flags_alone _ mode (no_flags_text {text} is none) told asks = unread text asks.flags is none asks.flags_are
  flags_alone d mode (of_flags {flags = us} are k) told asks = wrong us d mode are k asks
  flags_alone _ mode (no_text asked none) (by_name _ e) asks = cc e
  flags_alone _ mode (no_text asked none) (spoilt_flags flags unnamed is none_too) asks = unread flags asks.flags is none_too asks.flags_are
  flags_alone d mode (of_text {mode = other} {us} asked g) told asks =
      let first = first_offset input.form in
      not_flags d (in_text other us first input.text_offset input.rules d (first_is_cause other input.rules us first input.text_offset d g)) told

  -- and where they lie in the pattern, the flags are right
  pub pattern_alone : (d : Diagnostic) → IsFirstRefusal input d → IsFieldOf input d Pattern → (mode : Mode) × AsksFor input mode
  pattern_alone _ (no_flags_text is none) (by_name _ e) = absurd (let no : ⊥ = cc e in no)
  pattern_alone _ (no_flags_text {text} is none) (spoilt_text us unnamed are) = absurd (unread text us is none are)
  pattern_alone d (of_flags {flags = us} are k) told = absurd (not_pattern d (named_flags us (first_offset input.form) input.flags_offset d k) told)
  pattern_alone _ (no_text {mode} asks none) told = (mode, asks)
  pattern_alone d (of_text {mode} asked g) told = (mode, asked.mode_asked)
