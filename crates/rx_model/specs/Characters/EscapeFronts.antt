-- How a character escape and a class escape after a backslash are read. What they mean stands in Escapes and in ClassText.
use Rattle.std.specs.Prelude.{ℕ, ◌%◌, Bool, not, is_some, ◌==◌, ◌&&◌, ◌||◌, Option, Some, None, List, [], ◌∷◌, codes, if◌then◌else◌}
use Rattle.rx_base.specs.Ascii as ascii
use Rattle.rx_base.specs.Characters.{is_one_of}
use Rattle.rx_tables.specs.Characters.{control_escape_value, control_letter_value, is_decimal_digit, is_octal_digit}
use Rattle.rx_ast.specs.declared.leaf.CharacterClassEscapeKind.{CharacterClassEscapeKind}
use Rattle.rx_ast.specs.declared.leaf.CharacterClassEscapeKind.TheVariants as class_kind
use Rattle.rx_ast.specs.declared.leaf.CharacterKind.{CharacterKind}
use Rattle.rx_units.specs.Digits.{front_is, hex_number}
use Rattle.rx_units.specs.OctalEscapes.{octal_read}
use Rattle.rx_ast.specs.declared.leaf.CharacterKind.TheVariants as kind
use Rattle.rx_model.specs.Characters.Decoding.{Decoded, value, invalid, overflow, decoding_of}
use Rattle.rx_model.specs.Inputs.Environment.{Environment, is_unicode}
use Rattle.rx_model.specs.Characters.Escapes.{is_identity_escape}
use Rattle.rx_model.specs.Characters.LegacyEscapes.{four_next, is_class_control, is_free, octal_kind, two_next}

-- what stands after a backslash: a character of a kind, in n characters; nothing; digits that pass 32 bits; `u` without a unicode escape
pub data EscapeRead : Type 0 where
  escaped : CharacterKind → ℕ → ℕ → EscapeRead
  nothing : EscapeRead
  too_many : ℕ → EscapeRead
  no_unicode : EscapeRead

-- a character of a kind where there is a value
abbrev pub escape_if : CharacterKind → ℕ → Option ℕ → EscapeRead
escape_if k count None = nothing
escape_if k count (Some v) = escaped k v count

abbrev pub unicode_read : Decoded → EscapeRead
unicode_read (value v n) = escaped kind.UnicodeEscape v n
unicode_read (overflow n) = too_many n
unicode_read invalid = no_unicode

abbrev pub letter_at : List ℕ → Option ℕ
letter_at [] = None
letter_at (c ∷ w) = control_letter_value c

abbrev pub two_at : List ℕ → Option ℕ
two_at [] = None
two_at (a ∷ []) = None
two_at (a ∷ b ∷ rest) = hex_number (a ∷ b ∷ [])

abbrev pub escape_after : Bool → Option ℕ → ℕ → List ℕ → EscapeRead
escape_after unicode_mode (Some v) c w = escaped kind.SingleEscape v 1
escape_after unicode_mode None c w =
    if c == ascii.c then escape_if kind.ControlLetter 2 (letter_at w)
    else (if c == ascii.zero then (if front_is is_decimal_digit w then nothing else escaped kind.Null 0 1)
    else (if c == ascii.x then escape_if kind.HexadecimalEscape 3 (two_at w)
    else (if c == ascii.u then unicode_read (decoding_of unicode_mode (c ∷ w))
    else (if unicode_mode && is_identity_escape c then escaped kind.Identifier c 1
    else nothing))))

-- the character escape after a backslash, with `u` or `v` or not
unfoldable pub escape_at : Bool → List ℕ → EscapeRead
escape_at unicode_mode [] = nothing
escape_at unicode_mode (c ∷ w) = escape_after unicode_mode (control_escape_value c) c w

-- the class control escape, or the backslash alone, after which `c` stands
abbrev pub control_after : Bool → List ℕ → EscapeRead
control_after inside [] = escaped kind.Symbol ascii.backslash 0
control_after inside (c ∷ w) =
    if is_some (control_letter_value c) then nothing
    else (if inside && is_class_control c then escaped kind.ControlLetter (c % 32) 2 else escaped kind.Symbol ascii.backslash 0)

-- an octal escape from its first digit on
abbrev pub octal_at : ℕ → List ℕ → EscapeRead
octal_at = octal_read (λ v n. escaped (octal_kind n) v n)

abbrev pub digit_at : Bool → ℕ → ℕ → List ℕ → EscapeRead
digit_at inside groups c w =
    if not (is_free inside groups (c ∷ w)) then nothing
    else (if c == ascii.zero && not (front_is is_decimal_digit w) then nothing
    else (if is_octal_digit c then octal_at c w else escaped kind.Identifier c 1))

-- the escape that is one with neither `u` nor `v` alone, in a class or outside classes
unfoldable pub legacy_at : Bool → Environment → List ℕ → EscapeRead
legacy_at inside e [] = nothing
legacy_at inside e (c ∷ w) =
    if c == ascii.c then control_after inside w
    else (if is_decimal_digit c then digit_at inside e.groups c w
    else (if is_one_of (codes "dDsSwWfnrtvb") c || ((e.named && c == ascii.k) || (not inside && c == ascii.B)) then nothing
    else (if c == ascii.x && is_some (two_next w) then nothing
    else (if c == ascii.u && is_some (four_next w) then nothing else escaped kind.Identifier c 1))))

-- what is read in every mode, or with neither `u` nor `v` else
abbrev pub or_legacy : EscapeRead → Bool → EscapeRead → EscapeRead
or_legacy (escaped k v n) unicode_mode legacy = escaped k v n
or_legacy nothing unicode_mode legacy = if unicode_mode then nothing else legacy
or_legacy (too_many n) unicode_mode legacy = too_many n
or_legacy no_unicode unicode_mode legacy = if unicode_mode then no_unicode else legacy

-- the character escape after a backslash, in a class or outside classes
abbrev pub any_escape_at : Bool → Environment → List ℕ → EscapeRead
any_escape_at inside e w = or_legacy (escape_at (is_unicode e.mode) w) (is_unicode e.mode) (legacy_at inside e w)

-- the class escape after a backslash
abbrev pub class_escape_at : ℕ → Option CharacterClassEscapeKind
class_escape_at c =
    if c == ascii.d then Some class_kind.D
    else (if c == ascii.D then Some class_kind.NegativeD
    else (if c == ascii.s then Some class_kind.S
    else (if c == ascii.S then Some class_kind.NegativeS
    else (if c == ascii.w then Some class_kind.W
    else (if c == ascii.W then Some class_kind.NegativeW else None)))))
