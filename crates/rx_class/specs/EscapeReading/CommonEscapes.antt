-- The escapes that are read alike in classes and outside them.
use Rattle.std.specs.Prelude.{◌≡◌, ◌+◌, ◌≤◌, Bool, true, List, length}
use Rattle.rx_units.specs.declared.code_point.CodePoint.{CodePoint}
use Rattle.rx_units.specs.Units.{values}
use Rattle.rx_model.specs.Inputs.Environment.{Environment, is_unicode}
use Rattle.rx_model.specs.Reading.FrontReading.{backslash_read, token_read}
use Rattle.rx_model.specs.Reading.Fronts.{any_escape_at, escaped}
use Rattle.rx_model.specs.Trees.Token.{character}
use Rattle.rx_class.specs.SetReading.Fronts.{set_escape_at}
use Rattle.rx_class.specs.declared.escapes.common.CommonEscape.{CommonEscape}

-- The units after a backslash begin with this character escape, in each environment with `u` or `v`, or in each with neither.
pub record IsCommonEscape (unicode_mode : Bool) (us : List CodePoint) (it : CommonEscape) : Type 0 where
  -- as an escape of a character, in a class or outside classes
  pub read : (inside : Bool) (e : Environment) → is_unicode e.mode ≡ unicode_mode → any_escape_at inside e (values us) ≡ escaped it.kind it.value it.length
  -- outside classes, where it is neither an assertion nor a class escape, and neither a reference nor a property escape
  pub alone : (e : Environment) → is_unicode e.mode ≡ unicode_mode → backslash_read e (values us) ≡ token_read (character it.kind it.value) (it.length + 1)
  -- in a class with `v`, where it is no ClassSetReservedPunctuator
  pub in_sets : unicode_mode ≡ true → set_escape_at (values us) ≡ escaped it.kind it.value it.length
  pub some : 1 ≤ it.length
  pub within : it.length ≤ length us
  pub small : it.value ≤ 0x10FFFF
