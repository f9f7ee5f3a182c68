-- What groups and references spell. A relation `.. w rest` says that the units w spell a thing before all that follows them, rest.
use Rattle.std.specs.Prelude.{◌≡◌, ℕ, ◌+◌, Bool, true, false, ◌==◌, ◌||◌, List, ◌∷◌, ◌++◌, length, drop, Some, None, nat_le, codes}
use Rattle.rx_base.specs.Ascii as ascii
use Rattle.rx_tables.specs.Characters.{is_decimal_digit}
use Rattle.rx_ast.specs.declared.leaf.Modifiers.{Modifiers}
use Rattle.rx_units.specs.declared.code_point.CodePoint.{CodePoint}
use Rattle.rx_units.specs.Units.{values}
use Rattle.rx_units.specs.Digits.{front_is}
use Rattle.rx_model.specs.Inputs.Environment.{Environment, is_unicode}
use Rattle.rx_model.specs.Groups.GroupNames.{IsNameRow, SpellsName}
use Rattle.rx_model.specs.FirstPass.Marks.{starts}
use Rattle.rx_model.specs.Groups.Modifiers.{SpellsModifiers}
use Rattle.rx_model.specs.Quantifiers.Quantifiers.{AreDigits, is_question}
use Rattle.rx_ast.specs.Texts.{look_text}
use Rattle.rx_model.specs.Trees.Token.{Opener, capturing, ignoring, looking, letter_bits}
use Rattle.rx_base.specs.Characters.{is_one_of}

-- A backslash and a DecimalEscape (22.2.1): a digit that is not 0, and all further digits. With neither `u` nor `v` the number is at most that of the
-- groups (B.1.2).
pub record IsIndexed (e : Environment) (n : ℕ) (w rest : List CodePoint) : Type 0 where
  pub digits : List ℕ
  pub whole : values w ≡ ascii.backslash ∷ digits
  pub number : AreDigits n digits
  pub not_zero : starts ascii.zero digits ≡ false
  pub all : front_is is_decimal_digit (values rest) ≡ false
  pub refers : (is_unicode e.mode || nat_le n e.groups) ≡ true

-- `\k` and a GroupName (22.2.1): `<`, a name and `>`, where `\k` is a reference.
pub record IsNamed (e : Environment) (name : List ℕ) (w rest : List CodePoint) : Type 0 where
  pub spelled : List ℕ
  pub whole : values w ≡ codes "\\k<" ++ (spelled ++ codes ">")
  pub spells : SpellsName (is_unicode e.mode) name spelled (ascii.greater_than ∷ values rest)
  pub there : e.named ≡ true

-- `(?` and a GroupName (GroupSpecifier, 22.2.1).
pub record IsNaming (e : Environment) (name : List ℕ) (w rest : List CodePoint) : Type 0 where
  pub spelled : List ℕ
  pub whole : values w ≡ codes "(?<" ++ (spelled ++ codes ">")
  pub spells : SpellsName (is_unicode e.mode) name spelled (ascii.greater_than ∷ values rest)

-- `(?`, modifiers with these bits and `:` (Atom, 22.2.1).
pub record IsModified (bits : ℕ × ℕ) (w : List CodePoint) : Type 0 where
  pub text : List ℕ
  pub whole : values w ≡ codes "(?" ++ (text ++ codes ":")
  pub spelled : SpellsModifiers bits.0 bits.1 text

-- The same from place i on, where o gives the offset of a place: the modifiers have the span of their own text.
pub record IsModifying (o : ℕ → ℕ) (i : ℕ) (m : Modifiers) (w : List CodePoint) : Type 0 where
  pub modified : IsModified (letter_bits m) w
  pub start : m.span.start ≡ o (i + 2)
  pub end : m.span.end ≡ o (i + 2 + length modified.text)

-- what tells a group that has neither a name nor modifiers, after `(?`
abbrev pub is_mark : ℕ → Bool
is_mark c = is_one_of (codes ":=!<") c

-- what tells a lookbehind, after `(?<`
abbrev pub looks : ℕ → Bool
looks c = c == ascii.equals || c == ascii.exclamation_mark

-- A name is to stand after this: after `(?<` of a group, and after `\k<` where `\k` is a reference.
pub data BeginsName (e : Environment) : List ℕ → List ℕ → Type 0 where
  of_group : {following : List ℕ} → front_is looks following ≡ false → BeginsName e (codes "(?<" ++ following) following
  of_reference : {following : List ℕ} → e.named ≡ true → BeginsName e (codes "\\k<" ++ following) following

-- A name is to stand at the front, and its longest row of characters is n units, or none; after it stands the rest.
pub record EndsName (e : Environment) (w : List ℕ) (count : ℕ) (rest : List ℕ) : Type 0 where
  pub following : List ℕ
  pub begins : BeginsName e w following
  pub longest : IsNameRow (is_unicode e.mode) following count
  pub rest_is : rest ≡ drop count following

-- What a group or a look-around begins with (Atom and Assertion, 22.2.1).
abbrev pub SpellsOpener : Environment → Opener → List CodePoint → List CodePoint → Type 0
SpellsOpener e (capturing None) w rest = (values w ≡ codes "(") × (front_is is_question (values rest) ≡ false)
SpellsOpener e (capturing (Some name)) w rest = IsNaming e name w rest
SpellsOpener e (ignoring None) w rest = values w ≡ codes "(?:"
SpellsOpener e (ignoring (Some bits)) w rest = IsModified bits w
SpellsOpener e (looking kind) w rest = values w ≡ look_text kind
