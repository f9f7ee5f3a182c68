-- In which text of an input the spans of a text that is not decoded lie.
use Rattle.std.proofs.Common.{◌≡◌, ◌⊎◌, refl, sym, ap, subst, inl, inr, true, ℕ, List, [], Option, Some, None}
use Rattle.rx_base.specs.declared.diagnostic.Diagnostic.{Diagnostic}
use Rattle.rx_base.specs.declared.diagnostic.Diagnostic.TheVariants.{UnknownFlag, DuplicatedFlags, InvalidUnicodeFlags, InvalidInput}
use Rattle.rx_base.specs.declared.span.Span.{Span}
use Rattle.rx_units.specs.declared.code_point.CodePoint.{CodePoint}
use Rattle.rx_model.specs.Inputs.Inputs.{Input}
use Rattle.rx_model.specs.Inputs.Texts.{AreUnits, AreFlagUnits, HasNoUnits, no_flags, some_flags}
use Rattle.rx_refusal.specs.declared.field.Field.TheVariants.{Flags, Pattern}
use Rattle.rx_refusal.specs.Fields.{IsFieldOf, named_field, spoilt_flags, spoilt_text}

module _ (input : Input) (refusal : Diagnostic) (unnamed : named_field refusal ≡ None) where
  -- where there are no flags it is the pattern's,
  pub without_flags : input.flags ≡ None → IsFieldOf input refusal Pattern
  without_flags none =
      spoilt_text [] unnamed (subst (λ (flags : Option (List ℕ)). AreFlagUnits input.standard_strings input.form flags []) (sym none) no_flags)

  -- and where the flags are decoded;
  pub with_units : (flags : List ℕ) (units : List CodePoint) → input.flags ≡ Some flags → AreUnits input.standard_strings true flags input.form units → IsFieldOf input refusal Pattern
  with_units flags units some are =
      spoilt_text units unnamed (subst (λ (flags : Option (List ℕ)). AreFlagUnits input.standard_strings input.form flags units) (sym some) (some_flags are))

  -- else it is that of the flags.
  pub without_units : (flags : List ℕ) → input.flags ≡ Some flags → HasNoUnits input.standard_strings true flags input.form → IsFieldOf input refusal Flags
  without_units flags some none = spoilt_flags flags unnamed some none

-- the other refusals are of the pattern
pub named_else : (refusal : Diagnostic) → ((span : Span) (flag : ℕ) → refusal ≡ UnknownFlag span flag → ⊥) → ((span : Span) (flag : ℕ) → refusal ≡ DuplicatedFlags span flag → ⊥)
    → ((span : Span) → refusal ≡ InvalidUnicodeFlags span → ⊥) → ((span : Span) → refusal ≡ InvalidInput span → ⊥) → named_field refusal ≡ Some Pattern
named_else (UnknownFlag span flag) unknown twice both spoilt = absurd (unknown span flag refl)
named_else (DuplicatedFlags span flag) unknown twice both spoilt = absurd (twice span flag refl)
named_else (InvalidUnicodeFlags span) unknown twice both spoilt = absurd (both span refl)
named_else (InvalidInput span) unknown twice both spoilt = absurd (spoilt span refl)
named_else _ unknown twice both spoilt = refl

-- those of flags
pub flags_named : (refusal : Diagnostic) → ((span : Span) × (flag : ℕ) × (refusal ≡ UnknownFlag span flag)) ⊎ (((span : Span) × (flag : ℕ) × (refusal ≡ DuplicatedFlags span flag)) ⊎ ((span : Span) × (refusal ≡ InvalidUnicodeFlags span)))
    → named_field refusal ≡ Some Flags
flags_named refusal (inl unknown) = ap named_field unknown.2
flags_named refusal (inr (inl twice)) = ap named_field twice.2
flags_named refusal (inr (inr both)) = ap named_field both.1
