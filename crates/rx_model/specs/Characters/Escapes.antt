-- What stands after the backslash of a character escape (CharacterEscape, 22.2.1), but for the rows that hold in classes alone, and for those that hold
-- with neither `u` nor `v` alone (LegacyEscapes).
use Rattle.std.specs.Prelude.{◌≡◌, ℕ, Bool, true, false, ◌==◌, ◌||◌, List, [], ◌∷◌, Some, codes}
use Rattle.rx_base.specs.Ascii as ascii
use Rattle.rx_tables.specs.Characters.{control_escape_value, control_letter_value, is_decimal_digit, is_syntax_character}
use Rattle.rx_ast.specs.declared.leaf.CharacterKind.{CharacterKind}
use Rattle.rx_units.specs.Digits.{hex_number, front_is}
use Rattle.rx_ast.specs.declared.leaf.CharacterKind.TheVariants as kind
use Rattle.rx_model.specs.Inputs.Environment.{Environment, is_unicode}
use Rattle.rx_model.specs.Characters.UnicodeEscapes.{SpellsUnicode}

-- IdentityEscape with `u` or `v`: a SyntaxCharacter or `/`
abbrev pub is_identity_escape : ℕ → Bool
is_identity_escape c = is_syntax_character c || c == ascii.slash

-- The kind and the value of a character that these characters spell before rest.
pub data SpellsEscape (e : Environment) : CharacterKind → ℕ → List ℕ → List ℕ → Type 0 where
  -- ControlEscape: f n r t v
  control : {c v : ℕ} {rest : List ℕ} → control_escape_value c ≡ Some v → SpellsEscape e kind.SingleEscape v (c ∷ []) rest
  -- `c` and an AsciiLetter
  letter : {c v : ℕ} {rest : List ℕ} → control_letter_value c ≡ Some v → SpellsEscape e kind.ControlLetter v (ascii.c ∷ c ∷ []) rest
  -- `0`, before no DecimalDigit
  null : {rest : List ℕ} → front_is is_decimal_digit rest ≡ false → SpellsEscape e kind.Null 0 (codes "0") rest
  -- HexEscapeSequence: `x` and two hexadecimal digits
  hexadecimal : {a b v : ℕ} {rest : List ℕ} → hex_number (a ∷ b ∷ []) ≡ Some v → SpellsEscape e kind.HexadecimalEscape v (ascii.x ∷ a ∷ b ∷ []) rest
  -- RegExpUnicodeEscapeSequence
  unicode : {v : ℕ} {w rest : List ℕ} → SpellsUnicode (is_unicode e.mode) v w rest → SpellsEscape e kind.UnicodeEscape v w rest
  -- IdentityEscape
  identity : {c : ℕ} {rest : List ℕ} → is_unicode e.mode ≡ true → is_identity_escape c ≡ true → SpellsEscape e kind.Identifier c (c ∷ []) rest
