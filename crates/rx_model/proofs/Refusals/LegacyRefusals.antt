-- With `u` or `v` alone a quantifier that has nothing to stand after is refused as lone, and with `u` alone a range is refused for its ends.
use Rattle.std.proofs.Common.{◌≡◌, ℕ, true, false, List}
use Rattle.std.proofs.lemmas.Bool.{both_ways}
use Rattle.rx_base.specs.declared.diagnostic.Diagnostic.{Diagnostic}
use Rattle.rx_base.specs.declared.diagnostic.Diagnostic.TheVariants.{CharacterClassRangeInvalidAtom, LoneQuantifier}
use Rattle.rx_units.specs.declared.code_point.CodePoint.{CodePoint}
use Rattle.rx_model.specs.declared.mode.Mode.{Mode}
use Rattle.rx_model.specs.declared.mode.Mode.TheVariants.{Unicode}
use Rattle.rx_model.specs.Refusals.Causes.{IsCauseAtPlace}
use Rattle.rx_model.specs.Refusals.Causes as cause
use Rattle.rx_model.specs.Refusals.ClassCauses.{IsClassCause}
use Rattle.rx_model.specs.Refusals.ClassCauses as class_cause
use Rattle.rx_model.specs.Refusals.EscapeCauses.{IsEscapeCause, IsPropertyCause}
use Rattle.rx_model.specs.Refusals.EscapeCauses as escape_cause
use Rattle.rx_model.specs.Inputs.Environment.{is_unicode}
use Rattle.rx_model.specs.Refusals.Firsts.{of_character, of_property}
use Rattle.rx_model.specs.declared.rules.Rules.{Rules}
use Rattle.rx_model.proofs.Classes.LegacyClassEscapes.{none_refused}

-- whether a refusal says this
abbrev IsLone : Diagnostic → Type 0
IsLone (LoneQuantifier span) = Unit {0}
IsLone d = ⊥

abbrev IsOfEnds : Diagnostic → Type 0
IsOfEnds (CharacterClassRangeInvalidAtom span) = Unit {0}
IsOfEnds d = ⊥

no_escape : (mode : Mode) (us : List CodePoint) (start added place : ℕ) (rest : List CodePoint) (d : Diagnostic) → IsEscapeCause mode us start added place rest d → IsOfEnds d → ⊥
no_escape mode us start added place rest _ (escape_cause.too_many_hex_digits count following u h limit) is = is
no_escape mode us start added place rest _ (escape_cause.invalid_escape following u h none no_limit) is = is

no_property : (mode : Mode) (us : List CodePoint) (start added place : ℕ) (rest : List CodePoint) (d : Diagnostic) → IsPropertyCause mode us start added place rest d → IsOfEnds d → ⊥
no_property mode us start added place rest _ (escape_cause.no_property letter following u h p s) is = is
no_property mode us start added place rest _ (escape_cause.unterminated_run w run following b r h) is = is
no_property mode us start added place rest _ (escape_cause.unclosed_run w run following b r known some h) is = is
no_property mode us start added place rest _ (escape_cause.unclosed_pair w name value following b p known h) is = is
no_property mode us start added place rest _ (escape_cause.unknown_pair w name value following b p unknown) is = is
no_property mode us start added place rest _ (escape_cause.unknown_run w run following b r some more unknown no_strings) is = is
no_property mode us start added place rest _ (escape_cause.of_strings w run following u b r more unknown strings) is = is
no_property mode us start added place rest _ (escape_cause.negative_of_strings w run following m h r no_category no_binary strings) is = is

-- A range is refused for its ends with `u` alone.
pub ends_refused : (mode : Mode) (us : List CodePoint) (start added from : ℕ) (at_class : List CodePoint) (f : ℕ) (d : Diagnostic) → IsClassCause mode us start added from at_class f d → IsOfEnds d → mode ≡ Unicode
ends_refused mode us start added from at_class _ _ (class_cause.unterminated_class nested begin place rest p union none sets_empty no_sets) is = absurd is
ends_refused mode us start added from at_class _ _ (class_cause.no_operand place rest p sets empty none some) is = absurd is
ends_refused mode us start added from at_class _ _ (class_cause.third_ampersand place unit rest p at is_ampersand) is = absurd is
ends_refused mode us start added from at_class _ _ (class_cause.no_operator operator place rest p held none no_third) is = absurd is
ends_refused mode us start added from at_class _ _ (class_cause.unterminated_strings opener place rest p none) is = absurd is
ends_refused mode us start added from at_class _ _ (class_cause.negative_strings true begin place rest negative) is = absurd is
ends_refused mode us start added from at_class _ _ (class_cause.negative_strings false begin place rest negative) is = absurd is
ends_refused mode us start added from at_class _ _ (class_cause.range_out_of_order place low high w v more hyphen k p s less none) is = absurd is
ends_refused mode us start added from at_class _ _ (class_cause.dash_out_of_order place low w v more hyphen k p s less) is = absurd is
ends_refused mode us start added from at_class _ _ (class_cause.set_range_out_of_order place low high w v more hyphen k p union s less) is = absurd is
ends_refused mode us start added from at_class _ _ (class_cause.invalid_range place a b w v more hyphen p m s h t none) is = m
ends_refused mode us start added from at_class _ _ (class_cause.invalid_atom place backslash rest no_sets p h b) is = absurd is
ends_refused mode us start added from at_class _ d (class_cause.escape_in_class place rest p c) is = absurd (no_escape mode us start added place rest d c is)
ends_refused mode us start added from at_class _ d (class_cause.property_in_class place rest p c) is = absurd (no_property mode us start added place rest d c is)

module _ (mode : Mode) (rules : Rules) (m : is_unicode mode ≡ false) (us : List CodePoint) (start added : ℕ) where
  not_lone_in_class : (from : ℕ) (at_class : List CodePoint) (f : ℕ) (d : Diagnostic) → IsClassCause mode us start added from at_class f d → IsLone d → ⊥
  not_lone_in_class from at_class _ _ (class_cause.unterminated_class nested begin place rest p union none sets_empty no_sets) is = is
  not_lone_in_class from at_class _ _ (class_cause.no_operand place rest p sets empty none some) is = is
  not_lone_in_class from at_class _ _ (class_cause.third_ampersand place unit rest p at is_ampersand) is = is
  not_lone_in_class from at_class _ _ (class_cause.no_operator operator place rest p held none no_third) is = is
  not_lone_in_class from at_class _ _ (class_cause.unterminated_strings opener place rest p none) is = is
  not_lone_in_class from at_class _ _ (class_cause.negative_strings true begin place rest negative) is = is
  not_lone_in_class from at_class _ _ (class_cause.negative_strings false begin place rest negative) is = is
  not_lone_in_class from at_class _ _ (class_cause.range_out_of_order place low high w v more hyphen k p s less none) is = is
  not_lone_in_class from at_class _ _ (class_cause.dash_out_of_order place low w v more hyphen k p s less) is = is
  not_lone_in_class from at_class _ _ (class_cause.set_range_out_of_order place low high w v more hyphen k p union s less) is = is
  not_lone_in_class from at_class _ _ (class_cause.invalid_range place a b w v more hyphen p k s h t none) is = is
  not_lone_in_class from at_class _ _ (class_cause.invalid_atom place backslash rest no_sets p h b) is = is
  not_lone_in_class from at_class _ d (class_cause.escape_in_class place rest p c) is = none_refused mode m us start added place rest place d (of_character c)
  not_lone_in_class from at_class _ d (class_cause.property_in_class place rest p c) is = none_refused mode m us start added place rest place d (of_property c)

  -- The refusal of a quantifier that has nothing to stand after is another with `u` or `v`.
  pub not_lone : (f : ℕ) (d : Diagnostic) → IsCauseAtPlace mode rules us start added f d → IsLone d → ⊥
  not_lone _ _ (cause.incomplete place following ready rest r s some) is = is
  not_lone _ _ (cause.lone place min max greedy open_groups w more r k s o) is = both_ways (is_unicode mode) m k
  not_lone _ _ (cause.lone_in_legacy place min max greedy open_groups w more r k s o) is = is
  not_lone _ _ (cause.last_backslash place backslash p k h) is = is
  not_lone _ _ (cause.out_of_order place count min max rest p h out) is = is
  not_lone _ _ (cause.too_large place count min max rest p h order large) is = is
  not_lone _ _ (cause.too_many_digits place from count rest p limit in_legacy) is = is
  not_lone _ d (cause.of_escape place rest p c) is = none_refused mode m us start added place rest place d (of_character c)
  not_lone _ d (cause.of_property place rest p c) is = none_refused mode m us start added place rest place d (of_property c)
  not_lone f d (cause.of_class from place at_class p c) is = not_lone_in_class from at_class place d c is
  not_lone _ _ (cause.unterminated_group from place following group rest inside s other) is = is
  not_lone _ _ (cause.unterminated_name place count rest following p k n no_escape ends) is = is
  not_lone _ _ (cause.unterminated_name_in_legacy place count rest following p k n none no_pair ends) is = is
  not_lone _ _ (cause.misplaced_pair place count rest following p k n pair) is = is
  not_lone _ _ (cause.too_many_digits_in_name place count many rest following p n limit) is = is
  not_lone _ _ (cause.misplaced_in_name place count value n rest following p ends decodes) is = is
  not_lone _ _ (cause.invalid_in_name place count rest following p n no_value no_limit u) is = is
  not_lone _ _ (cause.invalid_u_in_name place count rest following p n no_value no_limit u) is = is
  not_lone _ _ (cause.no_such_group place n w more p s large) is = is
  not_lone _ _ (cause.no_group_name place rest following p there h other) is = is
  not_lone _ _ (cause.no_such_name place name w more p s unknown) is = is
  not_lone _ _ (cause.unknown_modifiers place rest text following p h l) is = is
  not_lone _ _ (cause.duplicated_modifiers place rest enabled disabled text following p h s twice) is = is
  not_lone _ _ (cause.empty_modifiers place rest following p h) is = is
  not_lone _ _ (cause.invalid_modifiers place rest enabled disabled text following p h s once share) is = is
