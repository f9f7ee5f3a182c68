-- What the decoder of unicode escapes answers (RegExpUnicodeEscapeSequence, 22.2.1).
use Rattle.std.specs.Prelude.{◌≡◌, ◌↔◌, ℕ, ◌+◌, ◌≤◌, Bool, true, List, length}
use Rattle.rx_units.specs.declared.code_point.CodePoint.{CodePoint}
use Rattle.rx_units.specs.Digits.{PassesHex}
use Rattle.rx_units.specs.Units.{values}
use Rattle.rx_model.specs.Characters.Decoding.{Decoded, decoding_of, value, invalid, overflow}
use Rattle.rx_model.specs.Characters.UnicodeEscapes.{Decodes}
use Rattle.rx_scan.specs.declared.unicode_escape.UnicodeEscape.{UnicodeEscape}
use Rattle.rx_scan.specs.declared.unicode_escape.UnicodeEscape.TheVariants as escape

-- an answer as the reading that it says
abbrev pub seen_escape : UnicodeEscape → Decoded
seen_escape (escape.Value code_point length) = value code_point length
seen_escape escape.Invalid = invalid
seen_escape (escape.Overflow digits) = overflow digits

-- An answer to some units, in unicode mode or not: the escape that they begin with, or that none stands there.
pub record IsDecoded (unicode_mode : Bool) (us : List CodePoint) (e : UnicodeEscape) : Type 0 where
  pub value : (v n : ℕ) → (e ≡ escape.Value v n) ↔ Decodes unicode_mode (values us) v n
  pub overflow : (n : ℕ) → (e ≡ escape.Overflow n) ↔ ((unicode_mode ≡ true) × PassesHex (values us) n)
  pub invalid : (e ≡ escape.Invalid) ↔ (((v n : ℕ) → Decodes unicode_mode (values us) v n → ⊥) × ((n : ℕ) → (unicode_mode ≡ true) × PassesHex (values us) n → ⊥))
  pub read : seen_escape e ≡ decoding_of unicode_mode (values us)
  pub within : (v n : ℕ) → e ≡ escape.Value v n → (n ≤ length us) × (v ≤ 0x10FFFF)
  pub digits : (n : ℕ) → e ≡ escape.Overflow n → n + 2 ≤ length us
