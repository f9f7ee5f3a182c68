-- What a program in C is told of a pattern that it gave.
use Rattle.std.specs.Prelude.{◌≡◌, ℕ, ◌++◌, ◌∷◌, [], Bool, true, false, List, Option, Some, None, Ok, Err, encode_utf8_all, map, unwrap_or}
use Rattle.std.specs.List.{flat_map}
use Rattle.rx_base.specs.declared.diagnostic.Diagnostic.{Diagnostic}
use Rattle.rx_base.specs.declared.fault.Fault.TheVariants as fault
use Rattle.rx_base.specs.declared.span.Span.{Span}
use Rattle.rx_base.specs.Diagnostic.{name_of, first_span_of, second_span_of}
use Rattle.rx_base.specs.DiagnosticMessage.{message_of}
use Rattle.rx_ast.specs.declared.term.Pattern.{Pattern}
use Rattle.rx_ast.specs.Forget.{bare}
use Rattle.rx_ast.specs.Tree.{mirror}
use Rattle.rx_model.specs.declared.mode.Mode.{Mode}
use Rattle.rx_model.specs.Inputs.Inputs.{Input}
use Rattle.rx_model.specs.Reading.Headline.{IsAnswered}
use Rattle.rx_model.specs.Spelling.Spelling.{spelling}
use Rattle.rx_tools.specs.Spelled.{read_of}
use Rattle.rx_records.specs.declared.node.Node.{Node}
use Rattle.rx_records.specs.Ranges.{no_range, range_of, ranges_at}
use Rattle.rx_records.specs.Records.{AreRecords}
use Rattle.rx_refusal.specs.declared.field.Field.{Field}
use Rattle.rx_refusal.specs.Fields.{IsFieldOf, offset_in, text_in}
use Rattle.rx_refusal.specs.Helps.{help_at}
use Rattle.rx_refusal.specs.Kinds.{kind_of}
use Rattle.rx_refusal.specs.Values.{max_of, texts_of}
use Rattle.rx_c.specs.declared.question.Wants.{Wants}
use Rattle.rx_c.specs.declared.reading.Reading.{Reading}
use Rattle.rx_c.specs.declared.refusal.Refusal.{Refusal}
use Rattle.rx_c.specs.Codes.{field_code, mode_code}
use Rattle.rx_c.specs.Placed.{in_units, optional_in_units, range_in_units}

-- ---- nothing

-- Nothing was refused.
pub record HoldsNoRefusal (refusal : Refusal) : Type 0 where
  pub name : refusal.name.now ≡ []
  pub kind : refusal.kind.now ≡ []
  pub message : refusal.message.now ≡ []
  pub help : refusal.help.now ≡ []
  pub values : refusal.values.now ≡ []
  pub field : refusal.field ≡ 0
  pub span_count : refusal.span_count ≡ 0
  pub max : refusal.max ≡ 0
  pub spare : refusal.spare ≡ 0
  pub first : refusal.first ≡ no_range
  pub second : refusal.second ≡ no_range

-- Nothing was read: no mode, no nodes, no groups, no spelling.
pub record HoldsNoTree (out : Reading) : Type 0 where
  pub mode : out.mode ≡ 0
  pub spare : out.spare ≡ 0
  pub nodes : out.nodes.now ≡ []
  pub groups : out.groups.now ≡ []
  pub spelling : out.spelling.now ≡ []

-- Nothing was read and nothing refused: each slice is empty.
pub record HoldsNothing (out : Reading) : Type 0 where
  pub no_tree : HoldsNoTree out
  pub texts : out.texts.now ≡ []
  pub no_refusal : HoldsNoRefusal out.refusal

-- ---- a pattern that is read

-- the canonical spelling of a tree, with NUL after it, where it is wanted; else nothing
abbrev pub spelling_bytes : Bool → Pattern → Mode → List ℕ
spelling_bytes true tree mode = encode_utf8_all (spelling (bare tree) mode) ++ 0 ∷ []
spelling_bytes false tree mode = []

-- The records of a tree where they are wanted, with their places counted as is asked; else nothing.
abbrev pub HasRecords : Bool → Bool → Input → Pattern → List Node → List ℕ → List ℕ → Type 0
HasRecords true utf16 input tree nodes groups texts =
    (in_bytes : List Node) × AreRecords (mirror tree) in_bytes groups texts × (nodes ≡ in_units utf16 input.text input.text_offset in_bytes)
HasRecords false utf16 input tree nodes groups texts = (nodes ≡ []) × (groups ≡ []) × (texts ≡ [])

-- what is told of a pattern that was read
pub record ShowsRead (wants : Wants) (input : Input) (tree : Pattern) (mode : Mode) (out : Reading) : Type 0 where
  pub mode_is : out.mode ≡ mode_code mode
  pub spare : out.spare ≡ 0
  pub has_records : HasRecords wants.nodes wants.utf16 input tree out.nodes.now out.groups.now out.texts.now
  pub has_spelling : out.spelling.now ≡ spelling_bytes wants.spelling tree mode
  pub no_refusal : HoldsNoRefusal out.refusal

-- ---- a pattern that is refused

-- a text with NUL after it, where there is one; else nothing
abbrev pub optional_with_nul : Option (List ℕ) → List ℕ
optional_with_nul None = []
optional_with_nul (Some bytes) = bytes ++ 0 ∷ []

-- the bytes of texts, and of all of them one after the other
abbrev pub each_bytes : List (List ℕ) → List (List ℕ)
each_bytes texts = map encode_utf8_all texts

abbrev pub all_bytes : List (List ℕ) → List ℕ
all_bytes texts = flat_map encode_utf8_all texts

abbrev pub count_of_spans : Option Span → ℕ
count_of_spans None = 1
count_of_spans (Some span) = 2

-- What is told of a cause whose spans lie in this text of the input.
pub record ShowsCause (utf16 : Bool) (input : Input) (field : Field) (cause : Diagnostic) (refusal : Refusal) : Type 0 where
  pub name : refusal.name.now ≡ name_of cause ++ 0 ∷ []
  pub kind : refusal.kind.now ≡ optional_with_nul (kind_of cause)
  pub message : refusal.message.now ≡ encode_utf8_all (message_of cause) ++ 0 ∷ []
  pub help : refusal.help.now ≡ optional_with_nul (help_at input.form (encode_utf8_all (text_in input field)) (offset_in input field) cause)
  pub values : refusal.values.now ≡ ranges_at 0 (each_bytes (texts_of cause))
  pub field_is : refusal.field ≡ field_code field
  pub span_count : refusal.span_count ≡ count_of_spans (second_span_of cause)
  pub max : refusal.max ≡ unwrap_or (max_of cause) 0
  pub spare : refusal.spare ≡ 0
  pub first : refusal.first ≡ range_in_units utf16 (text_in input field) (offset_in input field) (range_of (first_span_of cause))
  pub second : refusal.second ≡ optional_in_units utf16 (text_in input field) (offset_in input field) (second_span_of cause)

-- what is told of a pattern that was refused
pub record ShowsRefusal (wants : Wants) (input : Input) (cause : Diagnostic) (out : Reading) : Type 0 where
  pub field : Field
  pub is_field : IsFieldOf input cause field
  pub shows_cause : ShowsCause wants.utf16 input field cause out.refusal
  pub texts : out.texts.now ≡ all_bytes (texts_of cause)
  pub no_tree : HoldsNoTree out

-- What is told of an input, by the status: it is read (0), refused (1), or there was not enough memory (2).
pub data Told (wants : Wants) (input : Input) (out : Reading) : ℕ → Type 0 where
  read : (it : Pattern × Mode) → IsAnswered read_of input (Ok it) → ShowsRead wants input it.0 it.1 out → Told wants input out 0
  refused : (cause : Diagnostic) → IsAnswered read_of input (Err (fault.Diagnostic cause)) → ShowsRefusal wants input cause out → Told wants input out 1
  no_memory : HoldsNothing out → Told wants input out 2
