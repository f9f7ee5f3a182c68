-- With neither `u` nor `v` each unit that ExtendedPatternCharacter does not leave out stands for itself, where no braces begin a quantifier.
use Rattle.std.proofs.Common.{◌≡◌, refl, ap, ℕ, ◌||◌, true, false, not, List, [], ◌∷◌, codes, arith, inl}
use Rattle.std.proofs.lemmas.Bool.Decides.{nat_tests}
use Rattle.std.proofs.Math.Bool.{or-false}
use Rattle.rx_base.specs.Characters.{is_one_of}
use Rattle.rx_units.specs.declared.code_point.CodePoint.{CodePoint}
use Rattle.rx_units.specs.Units.{values}
use Rattle.rx_model.specs.declared.mode.Mode.{Mode}
use Rattle.rx_model.specs.declared.mode.Mode.TheVariants.{Legacy}
use Rattle.rx_model.specs.Inputs.Environment.{Environment, is_unicode}
use Rattle.rx_model.specs.Characters.LegacyEscapes.{is_class_control, is_control}
use Rattle.rx_model.specs.Quantifiers.Quantifiers.{BeginsWithBraces}
use Rattle.rx_model.specs.Reading.Rows.{Spells, is_legacy_syntax, stands_raw}
use Rattle.rx_model.specs.Refusals.Stops.{is_letter}
use Rattle.rx_model.specs.Trees.Token.{character}
use Rattle.rx_model.specs.Characters.UnitKinds.{unit_kind}

no_syntax : (c : ℕ) → is_one_of (codes "^$\\.*+?()[|") c ≡ false → is_legacy_syntax c ≡ false
no_syntax c h = grind (arith, nat_tests)

raw_by : (mode : Mode) (c : ℕ) → is_unicode mode ≡ false → is_one_of (codes "^$\\.*+?()[|") c ≡ false → stands_raw mode c ≡ true
raw_by Legacy c m h = ap not (no_syntax c h)
raw_by mode c m h = absurd (let no : ⊥ = cc m in no)

pub unit_stands : (e : Environment) (u : CodePoint) (us : List CodePoint) → is_unicode e.mode ≡ false → is_one_of (codes "^$\\.*+?()[|") u.value ≡ false →
    (BeginsWithBraces (values (u ∷ us)) → ⊥) → Spells e (character (unit_kind u.escape_kind) u.value) (u ∷ []) us
unit_stands e u us m h none = inl (record { unit = u; alone = refl; kind_is = refl; value_is = refl; allowed = raw_by e.mode u.value m h; no_quantifier = λ l. none })

class_control_is : (c : ℕ) → is_class_control c ≡ is_one_of (codes "0123456789_") c
class_control_is c = grind (arith, nat_tests)

-- Before what `\c` is an escape, in a class and outside classes.
pub control_in_class : (c : ℕ) → is_control true c ≡ (is_letter c || is_one_of (codes "0123456789_") c)
control_in_class c = ap (λ b. is_letter c || b) (class_control_is c)

pub control_outside : (c : ℕ) → is_control false c ≡ is_letter c
control_outside c = or-false (is_letter c)
