-- No literal is refused as a text that is not decoded: it has units, and what is refused for a cause is refused as something other.
use Rattle.std.proofs.Common.{◌≡◌, refl, sym, subst, ℕ, Bool, true, false, List}
use Rattle.rx_base.specs.declared.diagnostic.Diagnostic.{Diagnostic}
use Rattle.rx_base.specs.declared.diagnostic.Diagnostic.TheVariants.{InvalidInput}
use Rattle.rx_base.specs.declared.span.Span.{Span}
use Rattle.rx_units.specs.declared.code_point.CodePoint.{CodePoint}
use Rattle.rx_model.specs.declared.form.Form.{Form}
use Rattle.rx_model.specs.declared.form.Form.TheVariants.{Literal}
use Rattle.rx_model.specs.declared.mode.Mode.{Mode}
use Rattle.rx_model.specs.Inputs.Environment.{is_unicode}
use Rattle.rx_model.specs.Inputs.Inputs.{Input}
use Rattle.rx_model.specs.Inputs.Texts.{AreUnits, HasNoUnits, first_offset, stand_in}
use Rattle.rx_model.specs.Reading.Headline.{IsFirstRefusal, no_flags_text, no_text, of_flags, of_text}
use Rattle.rx_model.specs.Refusals.Causes as cause
use Rattle.rx_model.specs.Refusals.Causes.{IsCause, IsCauseAtPlace}
use Rattle.rx_model.specs.Refusals.ClassCauses as class_cause
use Rattle.rx_model.specs.Refusals.ClassCauses.{IsClassCause}
use Rattle.rx_model.specs.Refusals.EscapeCauses as escape
use Rattle.rx_model.specs.Refusals.EscapeCauses.{IsEscapeCause, IsPropertyCause}
use Rattle.rx_model.specs.Refusals.FlagCauses.{IsFlagCause, unknown}
use Rattle.rx_model.specs.declared.rules.Rules.{Rules}
use Rattle.rx_model.proofs.Inputs.Asked.{literal_has_units}
use Rattle.rx_model.proofs.Refusals.OneRefusal.{first_is_cause}

abbrev is_invalid_input : Diagnostic → Bool
is_invalid_input (InvalidInput span) = true
is_invalid_input d = false

flags_say_other : (us : List CodePoint) (start added : ℕ) (d : Diagnostic) → IsFlagCause us start added d → is_invalid_input d ≡ false
flags_say_other us start added _ (unknown before unit offence no_flag) = refl
flags_say_other us start added _ c = refl

module _ (mode : Mode) (rules : Rules) (us : List CodePoint) (start added : ℕ) where
  escape_says_other : (place : ℕ) (rest : List CodePoint) (d : Diagnostic) → IsEscapeCause mode us start added place rest d → is_invalid_input d ≡ false
  escape_says_other place rest _ (escape.invalid_escape following unicode whole no_value no_limit) = refl
  escape_says_other place rest _ c = refl

  property_says_other : (place : ℕ) (rest : List CodePoint) (d : Diagnostic) → IsPropertyCause mode us start added place rest d → is_invalid_input d ≡ false
  property_says_other place rest _ (escape.no_property letter following unicode whole is other) = refl
  property_says_other place rest _ c = refl

  class_says_other : (from : ℕ) (at_class : List CodePoint) (place : ℕ) (d : Diagnostic) → IsClassCause mode us start added from at_class place d → is_invalid_input d ≡ false
  class_says_other from at_class place d (class_cause.escape_in_class _ rest at c) = escape_says_other place rest d c
  class_says_other from at_class place d (class_cause.property_in_class _ rest at c) = property_says_other place rest d c
  class_says_other from at_class place _ (class_cause.negative_strings false begin _ rest negative) = refl
  class_says_other from at_class place _ c = refl

  place_says_other : (place : ℕ) (d : Diagnostic) → IsCauseAtPlace mode rules us start added place d → is_invalid_input d ≡ false
  place_says_other place d (cause.of_escape _ rest at c) = escape_says_other place rest d c
  place_says_other place d (cause.of_property _ rest at c) = property_says_other place rest d c
  place_says_other place d (cause.of_class from _ at_class at c) = class_says_other from at_class place d c
  place_says_other place _ c = refl

  text_says_other : (d : Diagnostic) → IsCause mode rules us start added d → is_invalid_input d ≡ false
  text_says_other d (cause.at_place place none few c) = place_says_other place d c
  text_says_other _ c = refl

-- A literal has units.
has_units : (standard joined : Bool) (text : List ℕ) (form : Form) → form ≡ Literal → HasNoUnits standard joined text form → ⊥
has_units standard joined text form literal none =
    let some = literal_has_units standard joined text in
    none some.0 (subst (λ it. AreUnits standard joined text it some.0) (sym literal) some.1)

literal_says_other : (input : Input) (d : Diagnostic) → input.form ≡ Literal → IsFirstRefusal input d → is_invalid_input d ≡ false
literal_says_other input _ literal (no_flags_text {text} is none) = absurd (has_units input.standard_strings true text input.form literal none)
literal_says_other input d literal (of_flags {flags} are c) = flags_say_other flags (first_offset input.form) input.flags_offset d c
literal_says_other input _ literal (no_text {mode} asks none) = absurd (has_units input.standard_strings (is_unicode mode) (stand_in input.form input.text) input.form literal none)
literal_says_other input d literal (of_text {mode} {us} asked first) =
    let start = first_offset input.form in
    text_says_other mode input.rules us start input.text_offset d (first_is_cause mode input.rules us start input.text_offset d first)

pub literals_are_decoded : (input : Input) (span : Span) → input.form ≡ Literal → IsFirstRefusal input (InvalidInput span) → ⊥
literals_are_decoded input span literal first = let no : true ≡ false = literal_says_other input (InvalidInput span) literal first in cc no
