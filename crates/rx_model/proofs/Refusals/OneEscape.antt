-- At most one refusal holds of an escape that is to stand at a place.
use Rattle.std.proofs.Common.{◌≡◌, ◌≢◌, refl, sym, ◌∙◌, true, ℕ, Some, List}
use Rattle.rx_base.specs.declared.diagnostic.Diagnostic.{Diagnostic}
use Rattle.rx_units.specs.declared.code_point.CodePoint.{CodePoint}
use Rattle.rx_model.specs.declared.mode.Mode.{Mode}
use Rattle.rx_model.specs.declared.rules.Rules.{Rules}
use Rattle.rx_model.specs.Refusals.EscapeCauses as escape
use Rattle.rx_model.specs.Refusals.EscapeCauses.{IsEscapeCause, IsPropertyCause}
use Rattle.rx_model.specs.Refusals.Firsts.{IsCauseOfEscape, IsFirstOfEscape, no_item, of_character, of_property, yielding_of}
use Rattle.rx_model.proofs.Refusals.Faults.{by_property, told, escape_is, property_is}
use Rattle.rx_model.proofs.Properties.OneProperty.{one_property}
use Rattle.rx_model.proofs.Refusals.OnlyFirst.{only_is_first}
use Rattle.rx_model.proofs.Properties.PropertyRefusals.{property_first}

-- What is said of an escape is the same under any rules.
abbrev any_rules : Rules
any_rules = record { duplicate_names = true; buffer_boundaries = true }

module _ (mode : Mode) (us : List CodePoint) (start added place : ℕ) (rest : List CodePoint) where
  pub not_both : (d e : Diagnostic) → IsEscapeCause mode us start added place rest d → IsPropertyCause mode us start added place rest e → ⊥
  not_both d e c k =
      let p = property_first mode us start added place rest e k in
      let no : told (Some d) ≡ by_property = sym (escape_is mode any_rules us start added place rest d c) ∙ property_is mode any_rules us start added place rest p.0 p.1 p.2 p.3 in
      cc no

  pub one_escape : (d e : Diagnostic) → IsEscapeCause mode us start added place rest d → IsEscapeCause mode us start added place rest e → d ≡ e
  one_escape d e c k = let same : told (Some d) ≡ told (Some e) = sym (escape_is mode any_rules us start added place rest d c) ∙ escape_is mode any_rules us start added place rest e k in cc same

  pub one_of_escape : (f g : ℕ) (d e : Diagnostic) → IsCauseOfEscape mode us start added place rest f d → IsCauseOfEscape mode us start added place rest g e → (f ≡ g) × (d ≡ e)
  one_of_escape _ _ d e (of_character c) (of_character k) = (refl, one_escape d e c k)
  one_of_escape _ _ d e (of_character c) (of_property k) = absurd (not_both d e c k)
  one_of_escape _ _ d e (of_property c) (of_character k) = absurd (not_both e d k c)
  one_of_escape _ _ d e (of_property c) (of_property k) = (refl, one_property mode us start added place rest d e c k)

  -- It says more than that nothing stands there.
  pub character_says : (d : Diagnostic) → IsEscapeCause mode us start added place rest d → yielding_of d ≢ no_item
  character_says _ (escape.too_many_hex_digits count following u h p) k = cc k
  character_says _ (escape.invalid_escape following u h no_value no_limit) k = cc k

  pub property_says : (d : Diagnostic) → IsPropertyCause mode us start added place rest d → yielding_of d ≢ no_item
  property_says _ (escape.no_property c following unicode whole is other) k = cc k
  property_says _ (escape.unterminated_run w run following b has short) k = cc k
  property_says _ (escape.unclosed_run w run following b has known goes other) k = cc k
  property_says _ (escape.unclosed_pair w name value following b has valid other) k = cc k
  property_says _ (escape.unknown_pair w name value following b has unknown) k = cc k
  property_says _ (escape.unknown_run w run following b has some goes unknown no_strings) k = cc k
  property_says _ (escape.of_strings w run following u b has goes unknown known) k = cc k
  property_says _ (escape.negative_of_strings w run following sets whole has no_category no_binary known) k = cc k

  -- So a refusal of an escape is the first of it.
  pub escape_is_first : (f : ℕ) (d : Diagnostic) → IsCauseOfEscape mode us start added place rest f d → IsFirstOfEscape mode us start added place rest d
  escape_is_first f d c = only_is_first (IsCauseOfEscape mode us start added place rest) f d c (λ g e k. one_of_escape f g d e c k)
