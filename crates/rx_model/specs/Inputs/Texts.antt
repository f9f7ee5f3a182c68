-- The texts that are read as the text of a pattern or as flags, in both forms: of a literal, and of a quoted argument of RegExp.
use Rattle.std.specs.Prelude.{ℕ, Bool, true, ◌==◌, ◌&&◌, List, [], ◌∷◌, Option, Some, None, if◌then◌else◌, codes}
use Rattle.rx_units.specs.declared.code_point.CodePoint.{CodePoint}
use Rattle.rx_units.specs.Sources.{Decodes}
use Rattle.rx_units.specs.Units.{literal_units}
use Rattle.rx_model.specs.declared.form.Form.{Form}
use Rattle.rx_model.specs.declared.form.Form.TheVariants.{Literal, Constructor}
use Rattle.rx_base.specs.Characters.{is_one_of}

-- the empty literal is read as `(?:)`
abbrev pub literal_text : List ℕ → List ℕ
literal_text [] = codes "(?:)"
literal_text (c ∷ cs) = c ∷ cs

-- " or ' or a grave accent
abbrev pub is_quote : ℕ → Bool
is_quote c = is_one_of (codes "\"'`") c

-- two quotes of one kind are read as "(?:)"
abbrev pub quoted_text : List ℕ → List ℕ
quoted_text (c ∷ d ∷ []) = if is_quote c && c == d then codes "\"(?:)\"" else c ∷ d ∷ []
quoted_text text = text

-- the text of a pattern, or what stands in for an empty one (EscapeRegExpPattern, 22.2.6.13.1)
-- Why: docs/DECISIONS.md, 70.
abbrev pub stand_in : Form → List ℕ → List ℕ
stand_in Literal text = literal_text text
stand_in Constructor text = quoted_text text

-- the offset at place 0: a quote is one byte
abbrev pub first_offset : Form → ℕ
first_offset Literal = 0
first_offset Constructor = 1

-- Why: docs/DECISIONS.md, 45.
-- The units of a text in a form, a character past FFFF being one of them or not: those of a literal, or those to which a quoted text is decoded, as the
-- standard has it or as the Rust crate does.
pub data AreUnits (standard joined : Bool) (text : List ℕ) : Form → List CodePoint → Type 0 where
  of_literal : AreUnits standard joined text Literal (literal_units joined 0 text)
  of_quoted : {us : List CodePoint} → Decodes standard joined text us → AreUnits standard joined text Constructor us

-- No units are those of the text in this form.
abbrev pub HasNoUnits : Bool → Bool → List ℕ → Form → Type 0
HasNoUnits standard joined text form = (us : List CodePoint) → AreUnits standard joined text form us → ⊥

-- The units of flags, in which no character is split. No flags text is no flags.
pub data AreFlagUnits (standard : Bool) (form : Form) : Option (List ℕ) → List CodePoint → Type 0 where
  no_flags : AreFlagUnits standard form None []
  some_flags : {text : List ℕ} {us : List CodePoint} → AreUnits standard true text form us → AreFlagUnits standard form (Some text) us

-- The units that a pattern is read from: its own, or where there are none those of `(?:)`, with the spans that they have in `"(?:)"` (EscapeRegExpPattern,
-- 22.2.6.13.1). Only a quoted text of line continuations alone has none, with strings as the standard has them; two quotes were replaced before.
abbrev pub some_units : List CodePoint → List CodePoint
some_units [] = literal_units true 1 (codes "(?:)")
some_units (u ∷ us) = u ∷ us
