-- What a parser of literals or of arguments is given, as an input of the definitions.
use Rattle.std.specs.Prelude.{ℕ, List, [], ◌∷◌, ◌++◌, Option, Some, None, length}
use Rattle.rx_base.specs.Ascii as ascii
use Rattle.std.specs.Borrow.{Bor}
use Rattle.std.specs.Str.{chars}
use Rattle.rx_model.specs.declared.form.Form.{Form}
use Rattle.rx_model.specs.declared.form.Form.TheVariants.{Literal, Constructor}
use Rattle.rx_model.specs.declared.mode.Mode.{Mode}
use Rattle.rx_model.specs.Inputs.Inputs.{Input, flags_for}
use Rattle.rx_model.specs.declared.rules.Rules.{Rules}
use Rattle.rx_parser.specs.declared.options.Options.{Options}

-- the flags, if there is a flags text
abbrev pub flags_chars : Option (Bor (List ℕ)) → Option (List ℕ)
flags_chars None = None
flags_chars (Some flags) = Some (chars flags.now)

-- how many bytes the flags text has
abbrev pub flags_length : Option (Bor (List ℕ)) → ℕ
flags_length None = 0
flags_length (Some flags) = length flags.now

-- the flags text that asks for a mode and for nothing else, of an argument of `RegExp` in double quotes
abbrev pub common_flags : Form → Mode → List ℕ
common_flags Literal mode = flags_for mode
common_flags Constructor mode = ascii.quotation_mark ∷ flags_for mode ++ ascii.quotation_mark ∷ []

-- how many bytes stand in for an empty text
abbrev pub stand_in_length : Form → ℕ
stand_in_length Literal = 4
stand_in_length Constructor = 6

-- the rules among the options
abbrev pub rules_of : Options → Rules
rules_of options = record { duplicate_names = options.duplicate_names; buffer_boundaries = options.buffer_boundaries }

-- the input of a form, a text, a flags text and options
abbrev pub input_of : Form → List ℕ → Option (Bor (List ℕ)) → Options → Input
input_of form text flags options = record {
  form = form;
  text = chars text;
  flags = flags_chars flags;
  text_offset = options.pattern_span_offset;
  flags_offset = options.flags_span_offset;
  rules = rules_of options;
  standard_strings = options.standard_strings;
}
