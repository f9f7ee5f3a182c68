-- What stands after the backslash of a unicode escape (RegExpUnicodeEscapeSequence, 22.2.1).
use Rattle.std.specs.Prelude.{◌≡◌, ℕ, ◌≤◌, Bool, true, false, List, [], ◌∷◌, ◌++◌, length, Some, codes}
use Rattle.rx_base.specs.Ascii as ascii
use Rattle.rx_base.specs.SurrogatePair.{IsLeadSurrogate, IsTrailSurrogate, surrogate_pair}
use Rattle.rx_units.specs.Digits.{hex_number}

-- `u` and four hexadecimal digits
abbrev pub four : ℕ → ℕ → ℕ → ℕ → List ℕ
four a b c d = ascii.u ∷ a ∷ b ∷ c ∷ d ∷ []

-- A trail surrogate stands next as an escape: a backslash, `u` and its four digits.
pub record BeginsWithTrail (w : List ℕ) : Type 0 where
  pub a : ℕ
  pub b : ℕ
  pub c : ℕ
  pub d : ℕ
  pub rest : List ℕ
  pub trail : ℕ
  pub number : hex_number (a ∷ b ∷ c ∷ d ∷ []) ≡ Some trail
  pub is_trail : IsTrailSurrogate trail
  pub whole : w ≡ ascii.backslash ∷ four a b c d ++ rest

-- In a unicode mode or not, a code point is spelled by these characters before rest.
pub data SpellsUnicode : Bool → ℕ → List ℕ → List ℕ → Type 0 where
  -- with neither `u` nor `v`, four digits alone
  code_unit : {a b c d v : ℕ} {rest : List ℕ} → hex_number (a ∷ b ∷ c ∷ d ∷ []) ≡ Some v → SpellsUnicode false v (four a b c d) rest
  -- four digits, and not a lead before a trail
  alone : {a b c d v : ℕ} {rest : List ℕ} → hex_number (a ∷ b ∷ c ∷ d ∷ []) ≡ Some v → (IsLeadSurrogate v → BeginsWithTrail rest → ⊥) → SpellsUnicode true v (four a b c d) rest
  -- a lead and a trail, joined
  pair : {a b c d e f g h lead trail : ℕ} {rest : List ℕ} → hex_number (a ∷ b ∷ c ∷ d ∷ []) ≡ Some lead → hex_number (e ∷ f ∷ g ∷ h ∷ []) ≡ Some trail
      → IsLeadSurrogate lead → IsTrailSurrogate trail → SpellsUnicode true (surrogate_pair lead trail) (four a b c d ++ ascii.backslash ∷ four e f g h) rest
  -- one or more digits in braces
  braced : {v : ℕ} {rest : List ℕ} (x : ℕ) (xs : List ℕ) → hex_number (x ∷ xs) ≡ Some v → v ≤ 0x10FFFF → SpellsUnicode true v (codes "u{" ++ (x ∷ (xs ++ codes "}"))) rest

-- At the front a code point is spelled in n characters.
pub record Decodes (unicode_mode : Bool) (w : List ℕ) (v n : ℕ) : Type 0 where
  pub spelled : List ℕ
  pub rest : List ℕ
  pub spells : SpellsUnicode unicode_mode v spelled rest
  pub whole : w ≡ spelled ++ rest
  pub count : length spelled ≡ n
