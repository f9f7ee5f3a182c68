-- What a reader of patterns answers: Ok on valid input and on no other, with the only tree and its spelling; else the first refusal, or out of memory.
use Rattle.std.specs.Prelude.{◌≡◌, ℕ, ◌+◌, ◌<◌, ◌^◌, true, List, length, encode_utf8_all, Some, Result, IfOk, IfErr, OnOk, MatchResult}
use Rattle.rx_base.specs.declared.diagnostic.Diagnostic.{Diagnostic as Refusal}
use Rattle.rx_base.specs.declared.diagnostic.Diagnostic.TheVariants.{InvalidInput}
use Rattle.rx_base.specs.declared.fault.Fault.{Fault}
use Rattle.rx_base.specs.declared.fault.Fault.TheVariants.{OutOfMemory, Diagnostic}
use Rattle.rx_base.specs.declared.span.Span.{Span}
use Rattle.rx_ast.specs.declared.term.Pattern.{Pattern}
use Rattle.rx_ast.specs.Forget.{bare}
use Rattle.rx_units.specs.declared.code_point.CodePoint.{CodePoint}
use Rattle.rx_model.specs.declared.mode.Mode.{Mode}
use Rattle.rx_model.specs.FirstPass.Cuts.{TellsGroups}
use Rattle.rx_model.specs.Refusals.Firsts.{IsFirst}
use Rattle.rx_model.specs.Refusals.FlagCauses.{IsFlagCause}
use Rattle.rx_model.specs.Inputs.Environment.{is_unicode}
use Rattle.rx_model.specs.Inputs.Inputs.{Asks, AsksFor, Input, literal_alone}
use Rattle.rx_model.specs.Inputs.Texts.{AreFlagUnits, HasNoUnits, first_offset, stand_in}
use Rattle.rx_model.specs.Reading.Reading.{IsOnly, IsSpanned, Reads}
use Rattle.rx_model.specs.Spelling.Spelling.{spelling}

-- The input is valid: it asks to read units in a mode, and they read as some tree.
pub record IsValid (input : Input) : Type 0 where
  pub mode : Mode
  pub units : List CodePoint
  pub asked : Asks input mode units
  pub pattern : Pattern
  pub reads : Reads mode input.rules pattern units

-- The input is read as this tree, in this mode: the units that it asks to read spell the tree, and no other tree but for spans; it is free of early errors;
-- each of its nodes has the span of what it spells; and the first pass of the units finds its groups and their names.
pub record IsReadAs (input : Input) (mode : Mode) (tree : Pattern) : Type 0 where
  pub units : List CodePoint
  pub asked : Asks input mode units
  pub reads : Reads mode input.rules tree units
  pub only : IsOnly mode input.rules tree units
  pub spanned : IsSpanned mode input.rules tree units (first_offset input.form) input.text_offset
  pub groups : TellsGroups mode tree units

-- the span of a whole text, so much being added
abbrev pub whole_span : List ℕ → ℕ → Span
whole_span text added = record { start = added; end = length (encode_utf8_all text) + added }

-- The diagnostic is the first refusal of this input: of its flags, or where they are right of its text. A quoted text that is not decoded is
-- refused as a whole.
pub data IsFirstRefusal (input : Input) : Refusal → Type 0 where
  no_flags_text : {text : List ℕ} → input.flags ≡ Some text → HasNoUnits input.standard_strings true text input.form → IsFirstRefusal input (InvalidInput (whole_span text input.flags_offset))
  of_flags : {refusal : Refusal} {flags : List CodePoint} → AreFlagUnits input.standard_strings input.form input.flags flags
      → IsFlagCause flags (first_offset input.form) input.flags_offset refusal → IsFirstRefusal input refusal
  no_text : {mode : Mode} → AsksFor input mode → HasNoUnits input.standard_strings (is_unicode mode) (stand_in input.form input.text) input.form
      → IsFirstRefusal input (InvalidInput (whole_span input.text input.text_offset))
  of_text : {refusal : Refusal} {mode : Mode} {us : List CodePoint} → Asks input mode us
      → IsFirst mode input.rules us (first_offset input.form) input.text_offset refusal → IsFirstRefusal input refusal

-- Out of memory, or this input is refused.
pub data IsFaultOf (input : Input) : Fault → Type 0 where
  no_memory : IsFaultOf input OutOfMemory
  refused : {refusal : Refusal} → IsFirstRefusal input refusal → IsFaultOf input (Diagnostic refusal)

-- What a parser may answer to an input, where an Ok answer has a tree.
-- Why: docs/DECISIONS.md, 34.
pub record IsParsed {A : Type 0} (tree : A → Pattern) (input : Input) (answer : Result A Fault) : Type 0 where
  -- Ok comes on valid input and on no other: on valid input all that may come besides is out of memory.
  pub valid : OnOk answer (IsValid input)
  pub complete : IsValid input → IfErr answer (λ fault. fault ≡ OutOfMemory)
  -- It has the only tree, in the mode that the flags ask for.
  pub read : IfOk answer (λ it. (mode : Mode) × IsReadAs input mode (tree it))
  -- Each other answer is the first refusal, or out of memory.
  pub refused : IfErr answer (IsFaultOf input)

-- The answer to a text that is read again is a tree that is equal but for spans and character kinds, or memory ran out.
abbrev pub IsSameAgain : Pattern → Result Pattern Fault → Type 0
IsSameAgain tree again = MatchResult again (λ it. bare it ≡ bare tree) (λ fault. fault ≡ OutOfMemory)

-- The tree, the mode and the canonical spelling, in characters, that an Ok answer has.
pub record Spelled : Type 0 where
  pub pattern : Pattern
  pub mode : Mode
  pub text : List ℕ

-- What a reader may answer to an input that spells canonically what it reads.
pub record IsAnswered {A : Type 0} (spelled : A → Spelled) (input : Input) (answer : Result A Fault) : Type 0 where
  pub parsed : IsParsed (λ it. (spelled it).pattern) input answer
  pub mode_is : IfOk answer (λ it. AsksFor input (spelled it).mode)
  pub text_is : IfOk answer (λ it. (spelled it).text ≡ spelling (bare (spelled it).pattern) (spelled it).mode)
  -- Of the spelling, where its length fits 32 bits, whatever a parser of literals answers under the same mode and the same options is the same tree, or out of memory.
  pub again : IfOk answer (λ it. length (encode_utf8_all (spelled it).text) < 2 ^ 32
      → (again : Result Pattern Fault) → IsParsed (λ p. p) (literal_alone (spelled it).text (spelled it).mode input.rules input.standard_strings) again → IsSameAgain (spelled it).pattern again)
