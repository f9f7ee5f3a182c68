-- Where terms end: neither a Term nor a `|` can stand there (22.2.1), so that a group or the pattern has to end.
use Rattle.std.specs.Prelude.{◌≡◌, ℕ, Bool, true, false, not, is_some, ◌==◌, ◌&&◌, ◌||◌, List, [], ◌∷◌, codes}
use Rattle.rx_base.specs.Ascii as ascii
use Rattle.rx_base.specs.Characters.{is_one_of, is_within}
use Rattle.rx_tables.specs.Characters.{is_decimal_digit, control_letter_value}
use Rattle.rx_units.specs.declared.code_point.CodePoint.{CodePoint}
use Rattle.rx_units.specs.Units.{values}
use Rattle.rx_units.specs.Digits.{front_is, is_hex_digit}
use Rattle.rx_model.specs.declared.mode.Mode.{Mode}
use Rattle.rx_model.specs.declared.mode.Mode.TheVariants.{Legacy, Unicode, Sets}
use Rattle.rx_model.specs.Reading.Boundaries.{has_buffers}
use Rattle.rx_model.specs.Inputs.Environment.{Environment, is_unicode}
use Rattle.rx_model.specs.Characters.Escapes.{is_identity_escape}
use Rattle.rx_model.specs.Quantifiers.Quantifiers.{BeginsWithBraces, PassesLimit}

abbrev pub is_letter : ℕ → Bool
is_letter c = is_some (control_letter_value c)

abbrev pub two_hex_digits : List ℕ → Bool
two_hex_digits [] = false
two_hex_digits (a ∷ w) = is_hex_digit a && front_is is_hex_digit w

-- With `u` or `v` an escape begins where these characters stand after a backslash, outside classes: `u`, `p` or `P`, `k` and a digit from 1 on begin one
-- whatever follows (AtomEscape, CharacterClassEscape), so that they are refused for what is wrong after them.
abbrev pub begins_escape : Environment → List ℕ → Bool
begins_escape e [] = false
begins_escape e (c ∷ w) =
    is_one_of (codes "upPkbBdDsSwWfnrtv") c || is_identity_escape c || is_within ascii.one ascii.nine c || (has_buffers e && is_one_of (codes "AzZ") c)
    || (c == ascii.c && front_is is_letter w) || (c == ascii.zero && not (front_is is_decimal_digit w)) || (c == ascii.x && two_hex_digits w)

-- whether `\-` is an escape in classes: with `u`, and not with `v`, where it is one of the reserved punctuators
abbrev pub is_hyphen_escaped : Mode → Bool
is_hyphen_escaped Legacy = false
is_hyphen_escaped Unicode = true
is_hyphen_escaped Sets = false

-- The same in classes (ClassEscape, 22.2.1): no boundary and no reference begins there, but `\b` and, with `u`, `\-` do. With neither `u` nor `v` one begins
-- before every character, but for a `k` where `\k` is a reference (B.1.2).
abbrev pub begins_class_escape : Environment → List ℕ → Bool
begins_class_escape e [] = false
begins_class_escape e (c ∷ w) =
    is_one_of (codes "upPbdDsSwWfnrtv") c || is_identity_escape c || (is_hyphen_escaped e.mode && c == ascii.hyphen)
    || (c == ascii.c && front_is is_letter w) || (c == ascii.zero && not (front_is is_decimal_digit w)) || (c == ascii.x && two_hex_digits w)
    || (not (is_unicode e.mode) && not (c == ascii.k && e.named))

-- Terms end before these units, and reading stands n units after that place: at the end; at `)`; with `u` or `v` also at `]`, `}`, a `{` that
-- begins no quantifier, and after a backslash that begins no escape.
pub data IsStop (e : Environment) : List CodePoint → ℕ → Type 0 where
  at_end : IsStop e [] 0
  at_closer : {u : CodePoint} {us : List CodePoint} → u.value ≡ ascii.right_parenthesis → IsStop e (u ∷ us) 0
  at_bracket : {u : CodePoint} {us : List CodePoint} → is_unicode e.mode ≡ true → (u.value == ascii.right_bracket || u.value == ascii.right_brace) ≡ true → IsStop e (u ∷ us) 0
  at_brace : {u : CodePoint} {us : List CodePoint} → is_unicode e.mode ≡ true → u.value ≡ ascii.left_brace → (BeginsWithBraces (values (u ∷ us)) → ⊥)
      → ((start count : ℕ) → PassesLimit (values (u ∷ us)) start count → ⊥) → IsStop e (u ∷ us) 0
  after_backslash : {u : CodePoint} {us : List CodePoint} → is_unicode e.mode ≡ true → u.value ≡ ascii.backslash → begins_escape e (values us) ≡ false → IsStop e (u ∷ us) 1
