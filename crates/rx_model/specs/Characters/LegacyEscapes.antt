-- What stands after the backslash of a character escape with neither `u` nor `v` alone (CharacterEscape and ClassEscape, B.1.2). The rows that all
-- modes share stand in Escapes.
use Rattle.std.specs.Prelude.{◌≡◌, ℕ, ◌+◌, ◌-◌, ◌*◌, ◌%◌, Bool, true, false, not, is_some, ◌==◌, ◌&&◌, ◌||◌, List, [], ◌∷◌, ◌++◌, length, Option, None, codes, nat_le, if◌then◌else◌}
use Rattle.rx_base.specs.Ascii as ascii
use Rattle.rx_base.specs.Characters.{is_within, is_one_of}
use Rattle.rx_tables.specs.Characters.{control_letter_value, is_decimal_digit, is_octal_digit}
use Rattle.rx_ast.specs.declared.leaf.CharacterKind.{CharacterKind}
use Rattle.rx_units.specs.Digits.{front_is, hex_number}
use Rattle.rx_units.specs.OctalEscapes.{SpellsOctal}
use Rattle.rx_ast.specs.declared.leaf.CharacterKind.TheVariants as kind
use Rattle.rx_model.specs.Inputs.Environment.{Environment}

-- the number of the decimal digits that stand next, after a number
abbrev pub run_number : ℕ → List ℕ → ℕ
run_number n [] = n
run_number n (c ∷ w) = if is_decimal_digit c then run_number (10 * n + (c - ascii.zero)) w else n

-- whether a digit that is not 0 stands next
abbrev pub begins_run : List ℕ → Bool
begins_run w = front_is (is_within ascii.one ascii.nine) w

-- whether a DecimalEscape stands next whose number is at most that of the groups
abbrev pub refers : ℕ → List ℕ → Bool
refers groups w = begins_run w && nat_le (run_number 0 w) groups

-- whether no reference stands here: in a class none does
abbrev pub is_free : Bool → ℕ → List ℕ → Bool
is_free inside groups w = inside || not (refers groups w)

-- the number of the two, and of the four, hexadecimal digits that stand next
abbrev pub two_next : List ℕ → Option ℕ
two_next [] = None
two_next (a ∷ []) = None
two_next (a ∷ b ∷ w) = hex_number (a ∷ b ∷ [])

abbrev pub four_next : List ℕ → Option ℕ
four_next [] = None
four_next (a ∷ []) = None
four_next (a ∷ b ∷ []) = None
four_next (a ∷ b ∷ c ∷ []) = None
four_next (a ∷ b ∷ c ∷ d ∷ w) = hex_number (a ∷ b ∷ c ∷ d ∷ [])

-- ClassControlLetter: a DecimalDigit or `_`
abbrev pub is_class_control : ℕ → Bool
is_class_control c = is_decimal_digit c || c == ascii.underscore

-- what makes of `\c` an escape: an AsciiLetter, in a class also a ClassControlLetter
abbrev pub is_control : Bool → ℕ → Bool
is_control inside c = is_some (control_letter_value c) || (inside && is_class_control c)

-- The character after a backslash stands for itself (IdentityEscape, SourceCharacterIdentityEscape): it is no `c`, and no `k` where `\k` is a reference, and
-- no other escape, no reference, no assertion and no class escape begins with it.
pub record IsIdentity (inside : Bool) (e : Environment) (c : ℕ) (rest : List ℕ) : Type 0 where
  pub no_letter : is_one_of (codes "cdDsSwWfnrtvb") c ≡ false
  pub no_octal : is_octal_digit c ≡ false
  pub no_k : (e.named && c == ascii.k) ≡ false
  pub no_boundary : (not inside && c == ascii.B) ≡ false
  pub no_reference : is_free inside e.groups (c ∷ rest) ≡ true
  pub no_x : (c == ascii.x && is_some (two_next rest)) ≡ false
  pub no_u : (c == ascii.u && is_some (four_next rest)) ≡ false

-- the kind of an octal escape of so many digits
abbrev pub octal_kind : ℕ → CharacterKind
octal_kind n = if n == 1 then kind.Octal1 else (if n == 2 then kind.Octal2 else kind.Octal3)

-- The kind and the value of a character that these characters spell after a backslash, before rest, in a class or outside classes.
pub data SpellsLegacy (inside : Bool) (e : Environment) : CharacterKind → ℕ → List ℕ → List ℕ → Type 0 where
  -- nothing, before a `c` that makes no escape: the backslash stands for itself
  lone : {rest : List ℕ} → front_is (is_control inside) rest ≡ false → SpellsLegacy inside e kind.Symbol ascii.backslash [] (ascii.c ∷ rest)
  -- `c` and a ClassControlLetter, in a class
  class_control : {c : ℕ} {rest : List ℕ} → inside ≡ true → is_class_control c ≡ true → SpellsLegacy inside e kind.ControlLetter (c % 32) (ascii.c ∷ c ∷ []) rest
  -- LegacyOctalEscapeSequence, where no reference stands
  legacy_octal : {v : ℕ} {w rest : List ℕ} → SpellsOctal v w rest → is_free inside e.groups (w ++ rest) ≡ true → SpellsLegacy inside e (octal_kind (length w)) v w rest
  -- IdentityEscape
  identity : {c : ℕ} {rest : List ℕ} → IsIdentity inside e c rest → SpellsLegacy inside e kind.Identifier c (c ∷ []) rest
