-- The spans of a first refusal lie between characters, of the flags or of the text of the pattern.
use Rattle.std.proofs.Common.{◌≡◌, refl, sym, subst, ℕ, ◌+◌, Bool, true, List, [], ◌∷◌, Option, Some, length, append-nil, arith}
use Rattle.std.specs.Prelude.{encode_utf8_all, unwrap_or}
use Rattle.rx_base.specs.declared.diagnostic.Diagnostic.{Diagnostic}
use Rattle.rx_base.specs.declared.diagnostic.Diagnostic.TheVariants.{InvalidInput}
use Rattle.rx_units.specs.declared.code_point.CodePoint.{CodePoint}
use Rattle.rx_units.specs.Units.{offset_at}
use Rattle.rx_model.specs.declared.form.Form.{Form}
use Rattle.rx_model.specs.declared.mode.Mode.{Mode}
use Rattle.rx_model.specs.Inputs.Environment.{is_unicode}
use Rattle.rx_model.specs.Inputs.Inputs.{Asks, AsksFor, Input}
use Rattle.rx_model.specs.Inputs.Texts.{AreFlagUnits, HasNoUnits, first_offset, no_flags, some_flags, stand_in}
use Rattle.rx_model.specs.Reading.Headline.{IsFirstRefusal, no_flags_text, no_text, of_flags, of_text, whole_span}
use Rattle.rx_model.specs.Refusals.Firsts.{IsFirst}
use Rattle.rx_model.specs.Refusals.FlagCauses.{IsFirstOffence, IsFlagCause, both_modes, duplicated, unknown}
use Rattle.rx_model.proofs.Refusals.OneRefusal.{first_is_cause}
use Rattle.rx_parser.proofs.StandIns.{none_stands_in}
use Rattle.rx_refusal.specs.declared.field.Field.TheVariants.{Flags, Pattern}
use Rattle.rx_refusal.specs.Fields.{IsFieldOf, by_name, named_field, spoilt_flags}
use Rattle.rx_refusal.proofs.Refused.{flags_alone, named_flags, pattern_alone}
use Rattle.rx_place_laws.specs.Between.{HasUnitsBefore, IsBetweenCharacters}
use Rattle.rx_place_laws.specs.Ends.{HoldsInRefusal}
use Rattle.rx_place_laws.specs.Texts as texts
use Rattle.rx_place_laws.specs.Texts.{StandBetweenCharacters}
use Rattle.rx_place_laws.proofs.Offsets.{between}
use Rattle.rx_place_laws.proofs.Refusals.{in_flags, in_text}
use Rattle.rx_place_laws.proofs.Texts.{stand_between, units_offset}
use Rattle.rx_place_laws.proofs.Utf16.{counted}

-- a text that is refused as a whole
module _ (text : List ℕ) (added : ℕ) where
  at_start : IsBetweenCharacters text added added
  at_start = between text [] text added added refl (omega arith)

  at_end : IsBetweenCharacters text added (length (encode_utf8_all text) + added)
  at_end = record { front = text; back = []; cut = sym (append-nil text); place_is = omega arith }

  whole_text : HoldsInRefusal (IsBetweenCharacters text added) (InvalidInput (whole_span text added))
  whole_text = record { first = (at_start, at_end); second = tt }

  whole_in_units : HoldsInRefusal (HasUnitsBefore text text added) (InvalidInput (whole_span text added))
  whole_in_units = record { first = (counted text added added at_start, counted text added (length (encode_utf8_all text) + added) at_end); second = tt }

-- of flags
no_offence : (before : List CodePoint) (unit : CodePoint) → IsFirstOffence [] before unit → ⊥
no_offence [] unit it = let e = it.cut in cc e
no_offence (u ∷ before) unit it = let e = it.cut in cc e

no_cause : (first added : ℕ) (d : Diagnostic) → IsFlagCause [] first added d → ⊥
no_cause first added _ (unknown before unit offence none) = no_offence before unit offence
no_cause first added _ (duplicated before unit offence is_flag twice) = no_offence before unit offence
no_cause first added _ (both_modes before unit offence is_flag once) = no_offence before unit offence

of_flag : (standard : Bool) (form : Form) (flags : Option (List ℕ)) (us : List CodePoint) (added : ℕ) (d : Diagnostic) → AreFlagUnits standard form flags us → IsFlagCause us (first_offset form) added d
    → HoldsInRefusal (HasUnitsBefore (unwrap_or flags []) (unwrap_or flags []) added) d
of_flag standard form _ _ added d no_flags k = absurd (no_cause (first_offset form) added d k)
of_flag standard form _ us added d (some_flags {text} are) k =
    in_flags (HasUnitsBefore text text added) us (first_offset form) added
    (λ place. counted text added (offset_at (first_offset form) us place + added) (units_offset standard true text form us added place are)) d k

module _ (input : Input) where
  abbrev InFlags : Diagnostic → Type 0
  InFlags d = HoldsInRefusal (HasUnitsBefore (unwrap_or input.flags []) (unwrap_or input.flags []) input.flags_offset) d

  abbrev InPattern : Diagnostic → Type 0
  InPattern d = StandBetweenCharacters input (λ P. HoldsInRefusal P d)

  pub refused_flags : (d : Diagnostic) → IsFirstRefusal input d → IsFieldOf input d Flags → InFlags d
  refused_flags _ (no_flags_text {text} is none) told =
      subst (λ (flags : Option (List ℕ)). HoldsInRefusal (HasUnitsBefore (unwrap_or flags []) (unwrap_or flags []) input.flags_offset) (InvalidInput (whole_span text input.flags_offset))) (sym is)
      (whole_in_units text input.flags_offset)
  refused_flags d (of_flags {flags = us} are k) told = of_flag input.standard_strings input.form input.flags us input.flags_offset d are k
  refused_flags d (no_text {mode} asks none) told = absurd (flags_alone input d mode (no_text asks none) told asks)
  refused_flags d (of_text {mode} asked g) told = absurd (flags_alone input d mode (of_text asked g) told asked.mode_asked)

  -- The text is refused as a whole.
  refused_whole : (mode : Mode) → AsksFor input mode → HasNoUnits input.standard_strings (is_unicode mode) (stand_in input.form input.text) input.form → InPattern (InvalidInput (whole_span input.text input.text_offset))
  refused_whole mode asks none =
      let own = none_stands_in input.standard_strings (is_unicode mode) input.form input.text none in
      let without : HasNoUnits input.standard_strings (is_unicode mode) input.text input.form = subst (λ text. HasNoUnits input.standard_strings (is_unicode mode) text input.form) own none in
      record {
        text = input.text;
        text_is = texts.own asks (without []);
        between = whole_text input.text input.text_offset;
        units = λ alike. whole_in_units input.text input.text_offset;
      }

  -- Something in it is.
  refused_part : (mode : Mode) (us : List CodePoint) (d : Diagnostic) → Asks input mode us → IsFirst mode input.rules us (first_offset input.form) input.text_offset d → InPattern d
  refused_part mode us d asked g =
      let first = first_offset input.form in
      stand_between input (λ P. HoldsInRefusal P d) mode us asked
      (λ P each start. in_text P us first input.text_offset each mode start input.rules d (first_is_cause mode input.rules us first input.text_offset d g))

  pub refused_pattern : (d : Diagnostic) → IsFirstRefusal input d → IsFieldOf input d Pattern → InPattern d
  refused_pattern d (no_flags_text {text} is none) told =
      let asks = pattern_alone input d (no_flags_text is none) told in
      absurd (flags_alone input d asks.0 (no_flags_text is none) (spoilt_flags text refl is none) asks.1)
  refused_pattern d (of_flags {flags = us} are k) told =
      let asks = pattern_alone input d (of_flags are k) told in
      absurd (flags_alone input d asks.0 (of_flags are k) (by_name Flags (named_flags us (first_offset input.form) input.flags_offset d k)) asks.1)
  refused_pattern _ (no_text {mode} asks none) told = refused_whole mode asks none
  refused_pattern d (of_text {mode} {us} asked g) told = refused_part mode us d asked g
