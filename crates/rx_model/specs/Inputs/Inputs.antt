-- What a reader of patterns is given, and what it asks to read.
use Rattle.std.specs.Prelude.{◌≡◌, ℕ, Bool, true, List, [], Option, Some, codes}
use Rattle.rx_units.specs.declared.code_point.CodePoint.{CodePoint}
use Rattle.rx_units.specs.Units.{values}
use Rattle.rx_model.specs.declared.form.Form.{Form}
use Rattle.rx_model.specs.declared.form.Form.TheVariants.{Literal}
use Rattle.rx_model.specs.declared.mode.Mode.{Mode}
use Rattle.rx_model.specs.declared.mode.Mode.TheVariants.{Legacy, Unicode, Sets}
use Rattle.rx_model.specs.Inputs.Environment.{is_unicode}
use Rattle.rx_model.specs.Inputs.Flags.{flags_ok, mode_of}
use Rattle.rx_model.specs.declared.rules.Rules.{Rules}
use Rattle.rx_model.specs.Inputs.Texts.{AreFlagUnits, AreUnits, some_units, stand_in}

-- A text and its flags, in characters, what is added to each offset that an answer has in the text or in the flags, the rules, and whether texts in quotes are
-- decoded as the standard has it. The flags text may be absent. In the form of a constructor both have their quotes.
-- Why: docs/DECISIONS.md, 11.
pub record Input : Type 0 where
  pub form : Form
  pub text : List ℕ
  pub flags : Option (List ℕ)
  pub text_offset : ℕ
  pub flags_offset : ℕ
  pub rules : Rules
  pub standard_strings : Bool

-- The flags of the input are right, and ask for this mode.
pub record AsksFor (input : Input) (mode : Mode) : Type 0 where
  pub flags : List CodePoint
  pub flags_are : AreFlagUnits input.standard_strings input.form input.flags flags
  pub are_right : flags_ok (values flags) ≡ true
  pub mode_is : mode ≡ mode_of (values flags)

-- The input asks to read these units in this mode (22.2.3.3, RegExpInitialize): those of its text, by code points with `u` or `v`, else by code units; or where
-- the text has none those of `(?:)`.
pub record Asks (input : Input) (mode : Mode) (us : List CodePoint) : Type 0 where
  pub mode_asked : AsksFor input mode
  pub own : List CodePoint
  pub own_are : AreUnits input.standard_strings (is_unicode mode) (stand_in input.form input.text) input.form own
  pub units_are : us ≡ some_units own

-- flags that ask for a mode and for nothing else
abbrev pub flags_for : Mode → List ℕ
flags_for Legacy = []
flags_for Unicode = codes "u"
flags_for Sets = codes "v"

-- a text that is read by itself, as a literal under flags for this mode, and under these options
abbrev pub literal_alone : List ℕ → Mode → Rules → Bool → Input
literal_alone text mode rules standard = record {
  form = Literal;
  text = text;
  flags = Some (flags_for mode);
  text_offset = 0;
  flags_offset = 0;
  rules = rules;
  standard_strings = standard;
}
