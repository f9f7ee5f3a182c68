-- With neither `u` nor `v`, where each unit is a UTF-16 code unit, each character is one too, and each character of a name is a code point.
use Rattle.std.proofs.Common.{◌≡◌, sym, ap, ◌∙◌, subst, ℕ, ◌≤◌, Bool, true, false, Some, List, [], ◌∷◌, ◌++◌, length, arith, inl, inr}
use Rattle.std.proofs.lemmas.Bool.{true≢false}
use Rattle.std.proofs.lemmas.Bool.Decides.{nat_tests}
use Rattle.rx_base.specs.SurrogatePair.{IsLeadSurrogate, IsTrailSurrogate, surrogate_pair}
use Rattle.rx_tables.specs.Characters.{control_escape_value, control_letter_value, is_reserved_punctuator}
use Rattle.rx_ast.specs.declared.leaf.CharacterKind.{CharacterKind}
use Rattle.rx_units.specs.declared.code_point.CodePoint.{CodePoint}
use Rattle.rx_units.specs.Units.{values}
use Rattle.rx_units.proofs.Digits.{four_small, two_small}
use Rattle.rx_units.proofs.OctalEscapes.{octal_value_small}
use Rattle.rx_model.specs.declared.mode.Mode.{Mode}
use Rattle.rx_model.specs.declared.mode.Mode.TheVariants.{Legacy}
use Rattle.rx_model.specs.Classes.ClassRows as spelled
use Rattle.rx_model.specs.Classes.ClassRows.{SpellsInClassAlone, SpellsClassCharacter}
use Rattle.rx_model.specs.Inputs.Environment.{Environment, is_unicode}
use Rattle.rx_model.specs.Characters.Escapes.{SpellsEscape, control, letter, null, hexadecimal, unicode, identity}
use Rattle.rx_model.specs.Groups.GroupNames.{SpellsNameCharacter, one_unit, by_escape, raw_pair, SpellsNameParts, no_part, part, SpellsName, whole_name}
use Rattle.rx_model.specs.Characters.LegacyEscapes as legacy
use Rattle.rx_model.specs.Characters.LegacyEscapes.{SpellsLegacy}
use Rattle.rx_model.specs.Spelling.ReadBack.{AreCodeUnits, FitIn}
use Rattle.rx_model.specs.Reading.Rows.{Spells}
use Rattle.rx_model.specs.Trees.Token.{character}
use Rattle.rx_model.specs.Characters.UnicodeEscapes.{SpellsUnicode, code_unit, alone, pair, braced}
use Rattle.rx_model.proofs.Characters.Decoding.{spelled_read, value_is_code_point}

-- a value of a mode: with neither `u` nor `v` it has 16 bits
abbrev pub FitsIn : Mode → ℕ → Type 0
FitsIn mode v = mode ≡ Legacy → v ≤ 0xFFFF

-- values of 16 bits
abbrev pub Narrow : List ℕ → Type 0
Narrow [] = Unit {0}
Narrow (c ∷ w) = (c ≤ 0xFFFF) × Narrow w

pub narrow_values : (us : List CodePoint) → AreCodeUnits us → Narrow (values us)
narrow_values [] h = tt
narrow_values (u ∷ us) h = (h.0, narrow_values us h.1)

-- code points
abbrev pub AreCodePoints : List ℕ → Type 0
AreCodePoints [] = Unit {0}
AreCodePoints (c ∷ cs) = (c ≤ 0x10FFFF) × AreCodePoints cs

pub units_front : (w more : List CodePoint) → AreCodeUnits (w ++ more) → AreCodeUnits w
units_front [] more h = tt
units_front (u ∷ w) more h = (h.0, units_front w more h.1)

pub units_back : (w more : List CodePoint) → AreCodeUnits (w ++ more) → AreCodeUnits more
units_back [] more h = h
units_back (u ∷ w) more h = units_back w more h.1

pub fit_front : (mode : Mode) (us w more : List CodePoint) → us ≡ w ++ more → FitIn mode us → FitIn mode w
fit_front mode us w more e h l = units_front w more (subst AreCodeUnits e (h l))

pub fit_back : (mode : Mode) (us w more : List CodePoint) → us ≡ w ++ more → FitIn mode us → FitIn mode more
fit_back mode us w more e h l = units_back w more (subst AreCodeUnits e (h l))

pub narrow_front : (w v : List ℕ) → Narrow (w ++ v) → Narrow w
narrow_front [] v h = tt
narrow_front (c ∷ w) v h = (h.0, narrow_front w v h.1)

pub narrow_back : (w v : List ℕ) → Narrow (w ++ v) → Narrow v
narrow_back [] v h = h
narrow_back (c ∷ w) v h = narrow_back w v h.1

unicode_low : (u : Bool) (v : ℕ) (w rest : List ℕ) → u ≡ false → SpellsUnicode u v w rest → v ≤ 0xFFFF
unicode_low _ v _ rest m (code_unit {a} {b} {c} {d} h) = four_small a b c d v h
unicode_low _ v _ rest m (alone h k) = absurd (true≢false m)
unicode_low _ _ _ rest m (pair h k l t) = absurd (true≢false m)
unicode_low _ v _ rest m (braced x xs h k) = absurd (true≢false m)

control_low : (c v : ℕ) → control_escape_value c ≡ Some v → v ≤ 0xFFFF
control_low c v h = grind (arith, nat_tests)

letter_low : (c v : ℕ) → control_letter_value c ≡ Some v → v ≤ 0xFFFF
letter_low c v h = grind (arith, nat_tests)

module _ (e : Environment) (m : e.mode ≡ Legacy) where
  escape_low : (kind : CharacterKind) (v : ℕ) (w rest : List ℕ) → SpellsEscape e kind v w rest → v ≤ 0xFFFF
  escape_low _ v _ rest (control {c} h) = control_low c v h
  escape_low _ v _ rest (letter {c} h) = letter_low c v h
  escape_low _ _ _ rest (null h) = omega arith
  escape_low _ v _ rest (hexadecimal {a} {b} h) = omega (arith, two_small a b v h)
  escape_low _ v w rest (unicode s) = unicode_low (is_unicode e.mode) v w rest (ap is_unicode m) s
  escape_low _ _ _ rest (identity u h) = absurd (true≢false (sym u ∙ ap is_unicode m))

legacy_low : (inside : Bool) (e : Environment) (kind : CharacterKind) (v : ℕ) (w rest : List ℕ) → SpellsLegacy inside e kind v w rest → Narrow w → v ≤ 0xFFFF
legacy_low inside e _ _ _ _ (legacy.lone h) n = omega arith
legacy_low inside e _ _ _ rest (legacy.class_control {c} h k) n = omega arith
legacy_low inside e _ _ _ rest (legacy.legacy_octal {v} {w} s f) n = omega (arith, octal_value_small v w rest s)
legacy_low inside e _ _ _ rest (legacy.identity {c} h) n = n.0

-- a character, outside classes and in them
pub character_low : (e : Environment) (kind : CharacterKind) (v : ℕ) (w rest : List CodePoint) → Spells e (character kind v) w rest → FitIn e.mode w → FitsIn e.mode v
character_low e kind v w rest (inl r) f m = let n = subst AreCodeUnits r.alone (f m) in subst (λ v. v ≤ 0xFFFF) (sym r.value_is) n.0
character_low e kind v w rest (inr (inl r)) f m = escape_low e m kind v (values r.following) (values rest) r.spelled
character_low e kind v w rest (inr (inr r)) f m =
    let n = subst AreCodeUnits r.whole (f m) in legacy_low false e kind v (values r.following) (values rest) r.spelled (narrow_values r.following n.1)

reserved_low : (c : ℕ) → is_reserved_punctuator c ≡ true → c ≤ 0xFFFF
reserved_low c h = grind (arith, nat_tests)

pub alone_low : (mode : Mode) (kind : CharacterKind) (v : ℕ) (w : List ℕ) → SpellsInClassAlone mode kind v w → v ≤ 0xFFFF
alone_low mode _ _ _ spelled.backspace = omega arith
alone_low mode _ _ _ (spelled.hyphen m) = omega arith
alone_low mode _ _ _ (spelled.reserved c m h) = reserved_low c h

pub class_character_low : (e : Environment) (kind : CharacterKind) (v : ℕ) (w rest : List CodePoint) → SpellsClassCharacter e kind v w rest → FitIn e.mode w → FitsIn e.mode v
class_character_low e _ _ _ rest (spelled.raw unit h) f m = (f m).0
class_character_low e _ _ _ rest (spelled.hyphen unit u h) f m = omega arith
class_character_low e kind v _ rest (spelled.escaped backslash following h s) f m = escape_low e m kind v (values following) (values rest) s
class_character_low e kind v _ rest (spelled.escaped_in_class backslash following h s) f m = alone_low e.mode kind v (values following) s
class_character_low e kind v _ rest (spelled.escaped_in_legacy backslash following h u s) f m = legacy_low true e kind v (values following) (values rest) s (narrow_values following (f m).1)

-- names
pair_low : (lead trail : ℕ) → IsLeadSurrogate lead → IsTrailSurrogate trail → surrogate_pair lead trail ≤ 0x10FFFF
pair_low lead trail h k = omega (arith, h, k)

module _ (unicode_mode : Bool) where
  name_character_low : (first : Bool) (c : ℕ) (w rest : List ℕ) → SpellsNameCharacter unicode_mode first c w rest → Narrow w → c ≤ 0x10FFFF
  name_character_low first c _ rest (one_unit h) n = let a = n.0 in omega (arith, a)
  name_character_low first c _ rest (by_escape {w} s h) n = value_is_code_point true (w ++ rest) c (length w) (spelled_read true c w rest s)
  name_character_low first _ _ rest (raw_pair {lead} {trail} u l t h) n = pair_low lead trail l t

  parts_low : (cs w rest : List ℕ) → SpellsNameParts unicode_mode cs w rest → Narrow w → AreCodePoints cs
  parts_low _ _ rest no_part n = tt
  parts_low _ _ _ (part {c} {cs} w v rest s more) n = (name_character_low false c w (v ++ rest) s (narrow_front w v n), parts_low cs v rest more (narrow_back w v n))

  pub name_low : (name w rest : List ℕ) → SpellsName unicode_mode name w rest → Narrow w → AreCodePoints name
  name_low _ _ _ (whole_name {c} {cs} w v rest s more) n = (name_character_low true c w (v ++ rest) s (narrow_front w v n), parts_low cs v rest more (narrow_back w v n))
