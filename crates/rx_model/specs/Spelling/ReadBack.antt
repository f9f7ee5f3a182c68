-- What it means that the canonical spelling of a pattern is read back.
use Rattle.std.specs.Prelude.{◌≡◌, ◌≤◌, List, [], ◌∷◌}
use Rattle.rx_ast.specs.declared.term.Pattern.{Pattern}
use Rattle.rx_ast.specs.Forget.{bare}
use Rattle.rx_units.specs.declared.code_point.CodePoint.{CodePoint}
use Rattle.rx_units.specs.Units.{literal_units}
use Rattle.rx_model.specs.declared.mode.Mode.{Mode}
use Rattle.rx_model.specs.declared.mode.Mode.TheVariants.{Legacy}
use Rattle.rx_model.specs.Inputs.Environment.{is_unicode}
use Rattle.rx_model.specs.declared.rules.Rules.{Rules}
use Rattle.rx_model.specs.Inputs.Texts.{literal_text}
use Rattle.rx_model.specs.Reading.Reading.{Reads}
use Rattle.rx_model.specs.Spelling.Spelling.{spelling}

-- Each unit is a UTF-16 code unit, as those of a text are with neither `u` nor `v`.
abbrev pub AreCodeUnits : List CodePoint → Type 0
AreCodeUnits [] = Unit {0}
AreCodeUnits (u ∷ us) = (u.value ≤ 0xFFFF) × AreCodeUnits us

-- The units are some that a text may have in this mode.
abbrev pub FitIn : Mode → List CodePoint → Type 0
FitIn mode us = mode ≡ Legacy → AreCodeUnits us

-- The canonical spelling, as the text of a literal, reads as a pattern that is equal but for spans and character kinds.
pub record IsReadBack (mode : Mode) (rules : Rules) (p : Pattern) : Type 0 where
  pub again : Pattern
  pub same : bare again ≡ bare p
  pub reads : Reads mode rules again (literal_units (is_unicode mode) 0 (literal_text (spelling (bare p) mode)))
