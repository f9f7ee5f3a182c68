-- What is shown of a literal.
use Rattle.std.specs.Prelude.{◌≡◌, ℕ, List, Option, true, false}
use Rattle.std.specs.Str.{encode_utf8_all}
use Rattle.std.specs.String.{string_bytes}
use Rattle.rx_ast.specs.declared.term.Pattern.{Pattern}
use Rattle.rx_ast.specs.Forget.{bare}
use Rattle.rx_base.specs.declared.diagnostic.Diagnostic.{Diagnostic}
use Rattle.rx_base.specs.Diagnostic.{name_of, first_span_of, second_span_of}
use Rattle.rx_base.specs.DiagnosticMessage.{message_of}
use Rattle.rx_model.specs.declared.form.Form.TheVariants.{Literal}
use Rattle.rx_model.specs.declared.mode.Mode.{Mode}
use Rattle.rx_model.specs.Reading.Headline.{IsFirstRefusal, IsReadAs, IsValid}
use Rattle.rx_model.specs.Inputs.Inputs.{Input}
use Rattle.rx_model.specs.Trees.Names.{groups}
use Rattle.rx_model.specs.Spelling.Spelling.{spelling}
use Rattle.rx_example.specs.declared.finding.Finding.{Finding}
use Rattle.rx_example.specs.declared.finding.Finding.TheVariants as finding
use Rattle.rx_example.specs.declared.finding.Refused.{Refused}
use Rattle.rx_model.specs.declared.rules.Rules.{Rules}

-- both rules
abbrev pub both_rules : Rules
both_rules = record { duplicate_names = true; buffer_boundaries = true }

-- a literal by itself: its text and its flags
abbrev pub literal : List ℕ → Option (List ℕ) → Input
literal text flags = record { form = Literal; text = text; flags = flags; text_offset = 0; flags_offset = 0; rules = both_rules; standard_strings = false }

-- The input is valid, n groups of its tree capture, and this is its canonical spelling.
pub record IsRead (input : Input) (count : ℕ) (spelled : List ℕ) : Type 0 where
  pub valid : IsValid input
  pub pattern : Pattern
  pub mode : Mode
  pub read : IsReadAs input mode pattern
  pub count_is : count ≡ groups pattern
  pub spelled_is : spelled ≡ spelling (bare pattern) mode

-- what a refusal is called, where it stands and what it says
pub record Shows (shown : Refused) (cause : Diagnostic) : Type 0 where
  pub name : shown.name.now ≡ name_of cause
  pub first : shown.first ≡ first_span_of cause
  pub second : shown.second ≡ second_span_of cause
  pub message : string_bytes shown.message ≡ encode_utf8_all (message_of cause)

-- What is found out about an input: it is read, or this is shown of its first refusal.
abbrev pub IsFinding : Input → Finding → Type 0
IsFinding input (finding.Read count spelled) = IsRead input count spelled
IsFinding input (finding.Refused shown) = (cause : Diagnostic) × IsFirstRefusal input cause × Shows shown cause
