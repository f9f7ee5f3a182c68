-- What the arguments of a program in C ask for.
use Rattle.std.specs.Prelude.{◌≡◌, ℕ, ◌+◌, ◌<◌, ◌^◌, Bool, true, false, List, Option, Some, None, length, max}
use Rattle.std.specs.Str.{IsUtf8, chars}
use Rattle.rx_model.specs.declared.form.Form.{Form}
use Rattle.rx_model.specs.Inputs.Inputs as model
use Rattle.rx_parser.specs.Inputs.{stand_in_length}
use Rattle.rx_parser.specs.Texts.{seen_input}
use Rattle.rx_c.specs.declared.options.Options.{Options}
use Rattle.rx_c.specs.declared.question.Question.{Question}
use Rattle.rx_c.specs.declared.question.Wants.{Wants}
use Rattle.rx_c.specs.Codes.{form_by}

-- The number is that of a form, the texts are UTF-8, and no place leaves 32 bits.
pub record IsAskable (pattern flags : List ℕ) (options : Options) : Type 0 where
  pub form : Form
  pub form_is : form_by options.form ≡ Some form
  pub is_text : IsUtf8 pattern
  pub are_flags : IsUtf8 flags
  pub pattern_fits : options.pattern_offset + max (length pattern) (stand_in_length form) < 2 ^ 32
  pub flags_fit : options.flags_offset + length flags < 2 ^ 32

-- the characters of the flags text, if one is given
abbrev pub flags_given : Bool → List ℕ → Option (List ℕ)
flags_given true flags = Some (chars flags)
flags_given false flags = None

-- what is to be read of texts in bytes
abbrev pub asked_input : Form → List ℕ → List ℕ → Options → model.Input
asked_input form pattern flags options = record {
  form = form;
  text = chars pattern;
  flags = flags_given options.has_flags flags;
  text_offset = options.pattern_offset;
  flags_offset = options.flags_offset;
  rules = record { duplicate_names = options.duplicate_names; buffer_boundaries = options.buffer_boundaries };
  standard_strings = options.standard_strings;
}

abbrev pub wants_of : Options → Wants
wants_of options = record { utf16 = options.utf16; nodes = options.nodes; spelling = options.spelling }

-- The arguments ask this.
pub record Asks (pattern flags : List ℕ) (options : Options) (question : Question) : Type 0 where
  pub askable : IsAskable pattern flags options
  pub form_is : form_by options.form ≡ Some question.input.form
  pub input : seen_input question.input ≡ asked_input question.input.form pattern flags options
  pub wants : question.wants ≡ wants_of options
