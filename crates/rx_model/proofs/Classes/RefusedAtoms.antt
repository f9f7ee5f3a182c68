-- Where an escape is refused no atom of a class is spelled that obeys, and no character.
use Rattle.std.proofs.Common.{◌≡◌, refl, ap, sym, ◌∙◌, ℕ, ◌==◌, ◌&&◌, ◌||◌, Bool, true, false, not, List, [], ◌∷◌, ◌++◌, length, drop, is_some, inl, inr}
use Rattle.std.proofs.lemmas.Bool.{eqb-true, or_cases, or_parts, or_right, true≢false}
use Rattle.std.proofs.lemmas.List.{map-append}
use Rattle.rx_base.specs.declared.diagnostic.Diagnostic.{Diagnostic}
use Rattle.rx_tables.specs.Characters.{control_escape_value, is_reserved_punctuator}
use Rattle.rx_ast.specs.declared.leaf.CharacterKind.{CharacterKind}
use Rattle.rx_ast.specs.declared.leaf.CharacterClassEscapeKind.{CharacterClassEscapeKind}
use Rattle.rx_ast.specs.declared.leaf.CharacterClassEscapeKind.TheVariants.{D, NegativeD, S, NegativeS, W, NegativeW}
use Rattle.rx_units.specs.declared.code_point.CodePoint.{CodePoint}
use Rattle.rx_units.specs.Units.{values}
use Rattle.rx_units.specs.Digits.{PassesHex}
use Rattle.rx_model.specs.declared.mode.Mode.{Mode}
use Rattle.rx_model.specs.declared.mode.Mode.TheVariants.{Legacy, Unicode, Sets}
use Rattle.rx_model.specs.Characters.Decoding.{Decoded, decoding_of}
use Rattle.rx_model.specs.Characters.Decoding as decoding
use Rattle.rx_model.specs.Characters.EscapeFronts.{escaped, too_many, escape_at, unicode_read}
use Rattle.rx_model.specs.Characters.Escapes.{SpellsEscape, control, letter, null, hexadecimal, unicode, identity, is_identity_escape}
use Rattle.rx_model.specs.Characters.UnicodeEscapes.{Decodes}
use Rattle.rx_model.specs.FirstPass.Marks.{starts}
use Rattle.rx_model.specs.Classes.ClassRows as spelled
use Rattle.rx_model.specs.Classes.ClassRows.{SpellsAtom, SpellsClassCharacter, SpellsInClassAlone, has_hyphen, stands_raw_in_class}
use Rattle.rx_model.specs.Classes.ClassRuns.{atom_obeys}
use Rattle.rx_model.specs.Classes.ClassTokens.{Atom, character, escape, property, is_character}
use Rattle.rx_model.specs.Inputs.Environment.{Environment, is_sets, is_unicode}
use Rattle.rx_model.specs.Properties.PropertyForms.{begins_property}
use Rattle.rx_model.specs.Refusals.EscapeCauses as escapes
use Rattle.rx_model.specs.Refusals.EscapeCauses.{IsEscapeCause, IsPropertyCause}
use Rattle.rx_ast.specs.Texts.{class_escape_text, property_opener}
use Rattle.rx_model.proofs.Groups.GroupNames.{differs}
use Rattle.rx_model.proofs.Classes.ClassFronts.{class_letter}
use Rattle.rx_model.proofs.Characters.Decoding.{value_law}
use Rattle.rx_model.proofs.Characters.Escapes.{begins_with_u, spelled_escape, too_many_escape, escape_u}
use Rattle.rx_model.proofs.Properties.PropertyRefusals.{cause_begins_no_property, cause_unicode, property_first}

-- what a character that stands for itself is not
record IsOther (mode : Mode) (c : ℕ) : Type 0 where
  pub no_backslash : (c == 92) ≡ false
  pub no_closer : (c == 93) ≡ false
  pub no_dash : is_sets mode ≡ true → (c == 45) ≡ false

raw_other : (mode : Mode) (c : ℕ) (w : List ℕ) → stands_raw_in_class mode c w ≡ true → IsOther mode c
raw_other Legacy c w h = record {
  no_backslash = differs (λ d. stands_raw_in_class Legacy d w) c 92 refl h;
  no_closer = differs (λ d. stands_raw_in_class Legacy d w) c 93 refl h;
  no_dash = λ sets. absurd (true≢false (sym sets));
}
raw_other Unicode c w h = record {
  no_backslash = differs (λ d. stands_raw_in_class Unicode d w) c 92 refl h;
  no_closer = differs (λ d. stands_raw_in_class Unicode d w) c 93 refl h;
  no_dash = λ sets. absurd (true≢false (sym sets));
}
raw_other Sets c w h = record {
  no_backslash = differs (λ d. stands_raw_in_class Sets d w) c 92 refl h;
  no_closer = differs (λ d. stands_raw_in_class Sets d w) c 93 refl h;
  no_dash = λ sets. differs (λ d. stands_raw_in_class Sets d w) c 45 refl h;
}

no_hyphen_in_sets : (mode : Mode) → has_hyphen mode ≡ true → is_sets mode ≡ true → ⊥
no_hyphen_in_sets Legacy h sets = true≢false (sym sets)
no_hyphen_in_sets Unicode h sets = true≢false (sym sets)
no_hyphen_in_sets Sets h sets = true≢false (sym h)

-- What an atom begins with: no closer, and with `v` no `-`.
pub record BeginsAtom (mode : Mode) (w : List CodePoint) : Type 0 where
  pub unit : CodePoint
  pub others : List CodePoint
  pub whole : w ≡ unit ∷ others
  pub no_closer : (unit.value == 93) ≡ false
  pub no_dash : is_sets mode ≡ true → (unit.value == 45) ≡ false

begins_with : (mode : Mode) (w : List CodePoint) (c : ℕ) (v : List ℕ) → values w ≡ c ∷ v → (c == 93) ≡ false → (c == 45) ≡ false → BeginsAtom mode w
begins_with mode [] c v h no_closer no_dash = absurd (let no : ⊥ = cc h in no)
begins_with mode (unit ∷ others) c v h no_closer no_dash =
    let is : unit.value ≡ c = cc h in
    record { unit = unit; others = others; whole = refl; no_closer = ap (λ c. c == 93) is ∙ no_closer; no_dash = λ sets. ap (λ c. c == 45) is ∙ no_dash }

-- what begins an escape
escape_begins : (mode : Mode) (backslash : CodePoint) (following : List CodePoint) → backslash.value ≡ 92 → BeginsAtom mode (backslash ∷ following)
escape_begins mode backslash following h = begins_with mode (backslash ∷ following) 92 (values following) (ap (λ c. c ∷ values following) h) refl refl

module _ (e : Environment) where
  pub character_begins : (k : CharacterKind) (v : ℕ) (w rest : List CodePoint) → SpellsClassCharacter e k v w rest → BeginsAtom e.mode w
  character_begins _ _ _ rest (spelled.raw unit h) =
      let o = raw_other e.mode unit.value (values rest) h in
      record { unit = unit; others = []; whole = refl; no_closer = o.no_closer; no_dash = o.no_dash }
  character_begins _ _ _ rest (spelled.hyphen unit there h) =
      record { unit = unit; others = []; whole = refl; no_closer = ap (λ c. c == 93) h; no_dash = λ sets. absurd (no_hyphen_in_sets e.mode there sets) }
  character_begins k v _ rest (spelled.escaped backslash following h s) = escape_begins e.mode backslash following h
  character_begins k v _ rest (spelled.escaped_in_class backslash following h s) = escape_begins e.mode backslash following h
  character_begins k v _ rest (spelled.escaped_in_legacy backslash following h legacy s) = escape_begins e.mode backslash following h

  class_escape_begins : (k : CharacterClassEscapeKind) (w : List CodePoint) → values w ≡ class_escape_text k → BeginsAtom e.mode w
  class_escape_begins k w h = let l = class_letter k in begins_with e.mode w 92 (l.letter ∷ []) (h ∙ l.text) refl refl

  property_begins : (negative : Bool) (w : List CodePoint) (v : List ℕ) → values w ≡ property_opener negative ++ v → BeginsAtom e.mode w
  property_begins true w v h = begins_with e.mode w 92 (80 ∷ 123 ∷ v) h refl refl
  property_begins false w v h = begins_with e.mode w 92 (112 ∷ 123 ∷ v) h refl refl

  pub atom_begins : (a : Atom) (w rest : List CodePoint) → SpellsAtom e a w rest → BeginsAtom e.mode w
  atom_begins (character k v) w rest s = character_begins k v w rest s
  atom_begins (escape k) w rest s = class_escape_begins k w s
  atom_begins (property negative strings name value) w rest s = property_begins negative w (s.text ++ (125 ∷ [])) s.whole

  -- what stands after a backslash that spells a character
  data Escapes (k : CharacterKind) (v : ℕ) (following : List ℕ) : Type 0 where
    everywhere : (w rest : List ℕ) → SpellsEscape e k v w rest → following ≡ w ++ rest → Escapes k v following
    in_class : (w rest : List ℕ) → SpellsInClassAlone e.mode k v w → following ≡ w ++ rest → Escapes k v following

  text_after : (backslash : CodePoint) (w rest : List CodePoint) (all : List CodePoint) (following : List ℕ) → values all ≡ 92 ∷ following → all ≡ backslash ∷ (w ++ rest) → following ≡ values w ++ values rest
  text_after backslash w rest all following h whole =
      let text : 92 ∷ following ≡ backslash.value ∷ values (w ++ rest) = sym h ∙ ap values whole in
      let same : following ≡ values (w ++ rest) = cc text in
      same ∙ map-append (λ (u : CodePoint). u.value) w rest

  no_backslash_raw : (u : CodePoint) (all rest : List CodePoint) (following : List ℕ) → values all ≡ 92 ∷ following → all ≡ u ∷ rest → (u.value == 92) ≡ false → ⊥
  no_backslash_raw u all rest following h whole other =
      let text : 92 ∷ following ≡ u.value ∷ values rest = sym h ∙ ap values whole in
      let is : 92 ≡ u.value = cc text in
      true≢false (ap (λ c. c == 92) is ∙ other)

  escapes_there : is_unicode e.mode ≡ true → (k : CharacterKind) (v : ℕ) (all w rest : List CodePoint) (following : List ℕ) → values all ≡ 92 ∷ following → all ≡ w ++ rest → SpellsClassCharacter e k v w rest → Escapes k v following
  escapes_there u _ _ all _ rest following h whole (spelled.raw unit raw) = absurd (no_backslash_raw unit all rest following h whole (raw_other e.mode unit.value (values rest) raw).no_backslash)
  escapes_there u _ _ all _ rest following h whole (spelled.hyphen unit there is) = absurd (no_backslash_raw unit all rest following h whole (ap (λ c. c == 92) is))
  escapes_there u k v all _ rest following h whole (spelled.escaped backslash w is s) = everywhere (values w) (values rest) s (text_after backslash w rest all following h whole)
  escapes_there u k v all _ rest following h whole (spelled.escaped_in_class backslash w is s) = in_class (values w) (values rest) s (text_after backslash w rest all following h whole)
  escapes_there u k v all _ rest following h whole (spelled.escaped_in_legacy backslash w is legacy s) = absurd (true≢false (sym u ∙ legacy))

  -- No escape that stands in classes alone begins with this.
  none_alone : (mode : Mode) (k : CharacterKind) (v c : ℕ) (w rest more : List ℕ) → SpellsInClassAlone mode k v w → c ∷ more ≡ w ++ rest → (c == 98 || (c == 45 || is_reserved_punctuator c)) ≡ false → ⊥
  none_alone mode _ _ c _ rest more spelled.backspace h none = let is : c ≡ 98 = cc h in true≢false (ap (λ c. c == 98 || (c == 45 || is_reserved_punctuator c)) (sym is) ∙ none)
  none_alone mode _ _ c _ rest more (spelled.hyphen there) h none = let is : c ≡ 45 = cc h in true≢false (ap (λ c. c == 98 || (c == 45 || is_reserved_punctuator c)) (sym is) ∙ none)
  none_alone mode _ _ c _ rest more (spelled.reserved d sets is) h none =
      let same : c ≡ d = cc h in
      let p = or_parts (c == 45) (is_reserved_punctuator c) (or_parts (c == 98) (c == 45 || is_reserved_punctuator c) none).1 in
      true≢false (sym is ∙ ap is_reserved_punctuator (sym same) ∙ p.1)

  -- An escape that is read as none is spelled by none.
  not_escaped : is_unicode e.mode ≡ true → (k : CharacterKind) (v : ℕ) (w rest following : List ℕ) → SpellsEscape e k v w rest → following ≡ w ++ rest → escape_at true following ≡ escaped k v (length w)
  not_escaped u k v w rest following s h = ap (escape_at true) h ∙ ap (λ m. escape_at m (w ++ rest)) (sym u) ∙ spelled_escape e k v w rest s

  value_there : (d : Decoded) (k : CharacterKind) (v n : ℕ) → unicode_read d ≡ escaped k v n → (x : ℕ) × (m : ℕ) × (d ≡ decoding.value x m)
  value_there (decoding.value x m) k v n h = (x, m, refl)
  value_there q k v n h = absurd (let no : ⊥ = cc h in no)

  no_digits_after : is_unicode e.mode ≡ true → (k : CharacterKind) (v count : ℕ) (following : List ℕ) → PassesHex following count → Escapes k v following → ⊥
  no_digits_after u k v count following p (everywhere w rest s h) =
      let no : too_many count ≡ escaped k v (length w) = sym (too_many_escape following count p) ∙ not_escaped u k v w rest following s h in cc no
  no_digits_after u k v count following p (in_class w rest s h) = none_alone e.mode k v 117 w rest (123 ∷ (p.digits ++ p.next ∷ p.rest)) s (sym p.whole ∙ h) refl

  no_unicode_after : is_unicode e.mode ≡ true → (k : CharacterKind) (v : ℕ) (following : List ℕ) → ((v n : ℕ) → Decodes true (117 ∷ following) v n → ⊥) → Escapes k v (117 ∷ following) → ⊥
  no_unicode_after u k v following none (everywhere w rest s h) =
      let there = value_there (decoding_of true (117 ∷ following)) k v (length w) (sym (escape_u following) ∙ not_escaped u k v w rest (117 ∷ following) s h) in
      none there.0 there.1 ((value_law true (117 ∷ following) there.0 there.1).0 there.2)
  no_unicode_after u k v following none (in_class w rest s h) = none_alone e.mode k v 117 w rest following s h refl

  -- A property's letter begins no other escape.
  of_letter : (set : ℕ → Bool) (c : ℕ) → set 112 ≡ false → set 80 ≡ false → begins_property c ≡ true → set c ≡ false
  of_letter set c low high h = elim (or_cases (c == 112) (c == 80) h) [ inl i ↦ ap set (eqb-true c 112 i) ∙ low | inr i ↦ ap set (eqb-true c 80 i) ∙ high ]

  control_of : (c : ℕ) → begins_property c ≡ true → is_some (control_escape_value c) ≡ false
  control_of c h = of_letter (λ c. is_some (control_escape_value c)) c refl refl h

  not_letter : (c d : ℕ) → begins_property c ≡ true → c ≡ d → begins_property d ≡ false → ⊥
  not_letter c d h same other = true≢false (sym h ∙ ap begins_property same ∙ other)

  no_escape_of_letter : (k : CharacterKind) (v c : ℕ) (w rest more : List ℕ) → begins_property c ≡ true → SpellsEscape e k v w rest → c ∷ more ≡ w ++ rest → ⊥
  no_escape_of_letter _ v c _ rest more h (control {c = d} there) same =
      let is : c ≡ d = cc same in
      true≢false (ap is_some (sym there) ∙ ap (λ c. is_some (control_escape_value c)) (sym is) ∙ control_of c h)
  no_escape_of_letter _ v c _ rest more h (letter {c = d} there) same = not_letter c 99 h (cc same) refl
  no_escape_of_letter _ _ c _ rest more h (null there) same = not_letter c 48 h (cc same) refl
  no_escape_of_letter _ v c _ rest more h (hexadecimal {a} {b} there) same = not_letter c 120 h (cc same) refl
  no_escape_of_letter _ v c w rest more h (unicode s) same =
      let u = begins_with_u s in
      let text : c ∷ more ≡ 117 ∷ (u.0 ++ rest) = same ∙ ap (λ w. w ++ rest) u.1 in
      not_letter c 117 h (cc text) refl
  no_escape_of_letter _ _ c _ rest more h (identity {c = d} u there) same =
      let is : c ≡ d = cc same in
      true≢false (sym there ∙ ap is_identity_escape (sym is) ∙ of_letter is_identity_escape c refl refl h)

  no_property_after : (k : CharacterKind) (v c : ℕ) (following : List ℕ) → begins_property c ≡ true → Escapes k v (c ∷ following) → ⊥
  no_property_after k v c following h (everywhere w rest s same) = no_escape_of_letter k v c w rest following h s same
  no_property_after k v c following h (in_class w rest s same) = none_alone e.mode k v c w rest following s same (of_letter (λ c. c == 98 || (c == 45 || is_reserved_punctuator c)) c refl refl h)

ne_false : (b : Bool) → (b ≡ false → ⊥) → b ≡ true
ne_false true h = refl
ne_false false h = absurd (h refl)

-- No character, and no item that obeys.
pub record IsNoItem (a : Atom) : Type 0 where
  pub no_character : is_character a ≡ false
  pub not_obeying : atom_obeys a ≡ false

class_escape_other : (k : CharacterClassEscapeKind) (w : List CodePoint) (all rest : List CodePoint) (c : ℕ) (following : List ℕ) → values all ≡ 92 ∷ c ∷ following → all ≡ w ++ rest → values w ≡ class_escape_text k → (c == 117 || begins_property c) ≡ true → ⊥
class_escape_other k w all rest c following h whole s other =
    let text : 92 ∷ c ∷ following ≡ class_escape_text k ++ values rest = sym h ∙ ap values whole ∙ map-append (λ (u : CodePoint). u.value) w rest ∙ ap (λ v. v ++ values rest) s in
    by k text
  where
    no : (d : ℕ) → (d == 117 || begins_property d) ≡ false → c ≡ d → ⊥
    no d none same = true≢false (sym other ∙ ap (λ c. c == 117 || begins_property c) same ∙ none)

    by : (k : CharacterClassEscapeKind) → 92 ∷ c ∷ following ≡ class_escape_text k ++ values rest → ⊥
    by D t = no 100 refl (cc t)
    by NegativeD t = no 68 refl (cc t)
    by S t = no 115 refl (cc t)
    by NegativeS t = no 83 refl (cc t)
    by W t = no 119 refl (cc t)
    by NegativeW t = no 87 refl (cc t)

property_letter : (negative : Bool) (w : List CodePoint) (all rest : List CodePoint) (following : List ℕ) (v : List ℕ) → values all ≡ 92 ∷ 117 ∷ following → all ≡ w ++ rest → values w ≡ property_opener negative ++ v → ⊥
property_letter negative w all rest following v h whole s =
    let text : 92 ∷ 117 ∷ following ≡ (property_opener negative ++ v) ++ values rest = sym h ∙ ap values whole ∙ map-append (λ (u : CodePoint). u.value) w rest ∙ ap (λ v. v ++ values rest) s in
    by negative text
  where
    by : (negative : Bool) → 92 ∷ 117 ∷ following ≡ (property_opener negative ++ v) ++ values rest → ⊥
    by true t = true≢false (ap (λ w. starts 117 (drop 1 w)) t)
    by false t = true≢false (ap (λ w. starts 117 (drop 1 w)) t)

module _ (e : Environment) (us : List CodePoint) (first added place : ℕ) (rest : List CodePoint) (d : Diagnostic) where
  -- what begins where a character escape is refused
  pub escape_first : IsEscapeCause e.mode us first added place rest d → (w : List ℕ) × (values rest ≡ 92 ∷ 117 ∷ w)
  escape_first c = begun d c
    where
      begun : (d : Diagnostic) → IsEscapeCause e.mode us first added place rest d → (w : List ℕ) × (values rest ≡ 92 ∷ 117 ∷ w)
      begun _ (escapes.too_many_hex_digits count following u h p) = (123 ∷ (p.digits ++ p.next ∷ p.rest), h ∙ ap (λ w. 92 ∷ w) p.whole)
      begun _ (escapes.invalid_escape following u h no_value no_limit) = (following, h)

  pub no_character_escaped : (k : CharacterKind) (v : ℕ) (w more : List CodePoint) → IsEscapeCause e.mode us first added place rest d → rest ≡ w ++ more → SpellsClassCharacter e k v w more → ⊥
  no_character_escaped k v w more c whole s = by d c
    where
      by : (d : Diagnostic) → IsEscapeCause e.mode us first added place rest d → ⊥
      by _ (escapes.too_many_hex_digits count following u h p) = no_digits_after e u k v count following p (escapes_there e u k v rest w more following h whole s)
      by _ (escapes.invalid_escape following u h no_value no_limit) = no_unicode_after e u k v following no_value (escapes_there e u k v rest w more (117 ∷ following) h whole s)

  -- No atom is spelled where a character escape is refused.
  pub no_atom_escaped : (a : Atom) (w more : List CodePoint) → IsEscapeCause e.mode us first added place rest d → rest ≡ w ++ more → SpellsAtom e a w more → ⊥
  no_atom_escaped (character k v) w more c whole s = no_character_escaped k v w more c whole s
  no_atom_escaped (escape k) w more c whole s = let b = escape_first c in class_escape_other k w rest more 117 b.0 b.1 whole s refl
  no_atom_escaped (property negative strings name value) w more c whole s = let b = escape_first c in property_letter negative w rest more b.0 (s.text ++ (125 ∷ [])) b.1 whole s.whole

  -- Where a property escape is refused none is spelled but a negative one of strings.
  pub no_atom_of_property : (a : Atom) (w more : List CodePoint) → IsPropertyCause e.mode us first added place rest d → rest ≡ w ++ more → SpellsAtom e a w more → IsNoItem a
  no_atom_of_property (character k v) w more c whole s =
      let b = property_first e.mode us first added place rest d c in
      absurd (no_property_after e k v b.0 b.1 b.3 (escapes_there e (cause_unicode e.mode us first added place rest d c) k v rest w more (b.0 ∷ b.1) b.2 whole s))
  no_atom_of_property (escape k) w more c whole s =
      let b = property_first e.mode us first added place rest d c in
      absurd (class_escape_other k w rest more b.0 b.1 b.2 whole s (or_right (b.0 == 117) (begins_property b.0) b.3))
  no_atom_of_property (property negative strings name value) w more c whole s = record {
    no_character = refl;
    not_obeying = ap not (ne_false (negative && strings) (λ obeys. cause_begins_no_property e us first added place rest d c negative strings name value w more whole s obeys));
  }
