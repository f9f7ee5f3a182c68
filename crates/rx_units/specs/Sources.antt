-- What a quoted source text is read as: what it is decoded to, in whatever quotes it stands, or why it is not.
use Rattle.std.specs.Prelude.{◌≡◌, ℕ, Bool, true, false, List}
use Rattle.rx_units.specs.declared.code_point.CodePoint.{CodePoint}
use Rattle.rx_units.specs.declared.options.Options.{Options}
use Rattle.rx_units.specs.declared.quoted_text.literal.Literal.{Literal}
use Rattle.rx_units.specs.declared.reader_fault.ReaderFault.{ReaderFault}
use Rattle.rx_units.specs.declared.reader_fault.ReaderFault.TheVariants as fault
use Rattle.rx_units.specs.declared.string_literal_parser.StringFault.{StringFault}
use Rattle.rx_units.specs.declared.string_literal_parser.StringFault.TheVariants as string_fault
use Rattle.rx_units.specs.declared.template_literal_parser.TemplateFault.{TemplateFault}
use Rattle.rx_units.specs.declared.template_literal_parser.TemplateFault.TheVariants as template_fault
use Rattle.rx_units.specs.Quoted.Faults.{IsStringFault, IsTemplateFault, is_grave_accent}
use Rattle.rx_units.specs.Quoted.Texts.{IsDecoded}
use Rattle.rx_units.specs.Digits.{front_is}

-- not in strict mode code, the first byte standing at 0
abbrev pub plain_options : Bool → Bool → Options
plain_options standard joined = record { strict_mode = false; span_offset = 0; combine_surrogate_pair = joined; standard_strings = standard }

-- The text is a string or a template, and is decoded to these units.
pub record Decodes (standard joined : Bool) (text : List ℕ) (units : List CodePoint) : Type 0 where
  pub literal : Literal
  pub decoded : IsDecoded literal (plain_options standard joined) text units

-- Why a text is not decoded: one that begins with a grave accent as a template, each other as a string.
pub data IsQuotedFault (standard joined : Bool) (text : List ℕ) : ReaderFault → Type 0 where
  of_string : {what : StringFault} → front_is is_grave_accent text ≡ false → IsStringFault (plain_options standard joined) text what → IsQuotedFault standard joined text (fault.String what)
  of_template : {what : TemplateFault} → front_is is_grave_accent text ≡ true → IsTemplateFault (plain_options standard joined) text what → IsQuotedFault standard joined text (fault.Template what)

-- what a reader says for the fault of a decoder: where memory ran out, just that
abbrev pub string_refusal : StringFault → ReaderFault
string_refusal string_fault.OutOfMemory = fault.OutOfMemory
string_refusal what = fault.String what

abbrev pub template_refusal : TemplateFault → ReaderFault
template_refusal template_fault.OutOfMemory = fault.OutOfMemory
template_refusal what = fault.Template what
