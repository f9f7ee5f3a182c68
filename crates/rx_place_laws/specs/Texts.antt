-- In which text the places that are told of a pattern lie.
use Rattle.std.specs.Prelude.{◌≡◌, ◌≢◌, ◌⊎◌, ℕ, ◌<◌, Bool, true, List, [], ◌∷◌, All, codes}
use Rattle.rx_units.specs.declared.quoted_text.element.Element.{Element}
use Rattle.rx_units.specs.declared.quoted_text.element.Writing.TheVariants.{LineContinuation}
use Rattle.rx_units.specs.declared.quoted_text.literal.Literal.{Literal as QuotedLiteral}
use Rattle.rx_units.specs.Quoted.Elements.{quote_of}
use Rattle.rx_units.specs.Quoted.Texts.{QuotedRow}
use Rattle.rx_model.specs.declared.form.Form.{Form}
use Rattle.rx_model.specs.declared.form.Form.TheVariants.{Literal, Constructor}
use Rattle.rx_model.specs.declared.mode.Mode.{Mode}
use Rattle.rx_model.specs.Inputs.Environment.{is_unicode}
use Rattle.rx_model.specs.Inputs.Inputs.{AsksFor, Input}
use Rattle.rx_model.specs.Inputs.Texts.{AreUnits}
use Rattle.rx_place_laws.specs.Between.{AreAscii, HasUnitsBefore, IsBetweenCharacters}

-- what stands in for a text that has no units
abbrev pub empty_text : Form → List ℕ
empty_text Literal = codes "(?:)"
empty_text Constructor = codes "\"(?:)\""

-- The text in which the places of the pattern of an input lie, the flags being right: its own; or where this has no units, what stands in for it.
pub data IsTextOf (input : Input) : List ℕ → Type 0 where
  own : {mode : Mode} → AsksFor input mode → ¬ AreUnits input.standard_strings (is_unicode mode) input.text input.form [] → IsTextOf input input.text
  stand_in : {mode : Mode} → AsksFor input mode → AreUnits input.standard_strings (is_unicode mode) input.text input.form [] → IsTextOf input (empty_text input.form)

-- A text is a quote, line continuations, if any, and the quote. Only strings as the standard has them give nothing for a line continuation.
pub record IsOfContinuations (standard : Bool) (text : List ℕ) : Type 0 where
  pub literal : QuotedLiteral
  pub elements : List Element
  pub inner : List ℕ
  pub row : QuotedRow literal elements inner (quote_of literal ∷ [])
  pub whole : text ≡ quote_of literal ∷ inner
  pub continue : All (λ e. e.writing ≡ LineContinuation) elements
  pub standard_if_some : elements ≢ [] → standard ≡ true

-- A text that has no units: an empty literal, or a quoted text of line continuations, if any.
pub data IsEmptyText (standard : Bool) (text : List ℕ) : Form → Type 0 where
  empty_literal : text ≡ [] → IsEmptyText standard text Literal
  empty_quoted : IsOfContinuations standard text → IsEmptyText standard text Constructor

-- ASCII, <LS> or <PS>
abbrev pub IsNarrow : ℕ → Type 0
IsNarrow c = (c < 0x80) ⊎ ((c ≡ 0x2028) ⊎ (c ≡ 0x2029))

-- Places that are told of the pattern of an input. `HoldOf P` says that P holds of each of them.
pub record StandBetweenCharacters (input : Input) (HoldOf : (ℕ → Type 0) → Type 0) : Type 0 where
  -- They lie in this text,
  pub text : List ℕ
  pub text_is : IsTextOf input text
  -- each between characters of it.
  pub between : HoldOf (IsBetweenCharacters text input.text_offset)
  -- In UTF-16 they are the code units before them, unless the input's own text, in which they are counted, is another one and not ASCII. It is then one of
  -- line continuations with <LS> or <PS> among them.
  pub units : (text ≡ input.text) ⊎ AreAscii input.text → HoldOf (HasUnitsBefore input.text text input.text_offset)
