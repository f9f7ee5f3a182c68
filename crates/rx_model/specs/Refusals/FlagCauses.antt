-- When flags are refused (22.2.3.3, RegExpInitialize): at the first unit with which they are no flags any more, by the first that holds of: it is no
-- flag, it was seen before, it completes `u` and `v`.
use Rattle.std.specs.Prelude.{◌≡◌, ℕ, ◌+◌, true, false, List, [], ◌∷◌, ◌++◌, length}
use Rattle.rx_base.specs.Flags.{holds, is_flag}
use Rattle.rx_base.specs.declared.span.Span.{Span}
use Rattle.rx_base.specs.declared.diagnostic.Diagnostic.{Diagnostic}
use Rattle.rx_base.specs.declared.diagnostic.Diagnostic.TheVariants.{UnknownFlag, DuplicatedFlags, InvalidUnicodeFlags}
use Rattle.rx_units.specs.declared.code_point.CodePoint.{CodePoint}
use Rattle.rx_units.specs.Units.{values, offset_at}
use Rattle.rx_model.specs.Inputs.Flags.{flags_ok}

-- The unit after these is the first with which the flags are refused.
pub record IsFirstOffence (us before : List CodePoint) (unit : CodePoint) : Type 0 where
  pub after : List CodePoint
  pub cut : us ≡ before ++ (unit ∷ after)
  pub passed : flags_ok (values before) ≡ true
  pub offends : flags_ok (values before ++ (unit.value ∷ [])) ≡ false

-- the span of the unit at a place, so much being added
abbrev pub unit_span : List CodePoint → ℕ → ℕ → ℕ → Span
unit_span us first added place = record { start = offset_at first us place + added; end = offset_at first us (place + 1) + added }

-- The diagnostic is the refusal of these flags, whose first offset is `first`, `added` being added to each.
pub data IsFlagCause (us : List CodePoint) (first added : ℕ) : Diagnostic → Type 0 where
  unknown : (before : List CodePoint) (unit : CodePoint) → IsFirstOffence us before unit → is_flag unit.value ≡ false
      → IsFlagCause us first added (UnknownFlag (unit_span us first added (length before)) unit.value)
  duplicated : (before : List CodePoint) (unit : CodePoint) → IsFirstOffence us before unit → is_flag unit.value ≡ true → holds (values before) unit.value ≡ true
      → IsFlagCause us first added (DuplicatedFlags (unit_span us first added (length before)) unit.value)
  both_modes : (before : List CodePoint) (unit : CodePoint) → IsFirstOffence us before unit → is_flag unit.value ≡ true → holds (values before) unit.value ≡ false
      → IsFlagCause us first added (InvalidUnicodeFlags (unit_span us first added (length before)))
