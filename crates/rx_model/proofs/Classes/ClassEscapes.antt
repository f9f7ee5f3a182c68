-- No atom of a class stands where no escape in it begins.
use Rattle.std.proofs.Common.{◌≡◌, refl, ap, sym, ◌∙◌, subst, ℕ, ◌==◌, ◌&&◌, true, false, not, is_some, None, List, [], ◌∷◌, ◌++◌, codes, arith}
use Rattle.std.proofs.lemmas.Bool.{or_parts, both_ways}
use Rattle.std.proofs.lemmas.Bool.Decides.{nat_tests}
use Rattle.rx_base.specs.Characters.{is_one_of}
use Rattle.rx_tables.specs.Characters.{is_decimal_digit, control_escape_value}
use Rattle.rx_ast.specs.declared.leaf.CharacterKind.{CharacterKind}
use Rattle.rx_units.specs.declared.code_point.CodePoint.{CodePoint}
use Rattle.rx_units.specs.Units.{values}
use Rattle.rx_units.specs.Digits.{front_is, is_hex_digit}
use Rattle.rx_model.specs.declared.mode.Mode.{Mode}
use Rattle.rx_model.specs.declared.mode.Mode.TheVariants.{Legacy, Unicode, Sets}
use Rattle.rx_model.specs.Classes.ClassFronts.{no_atom, atom_at, character_atom, escape_in_class}
use Rattle.rx_model.specs.Inputs.Environment.{Environment, is_sets, is_unicode}
use Rattle.rx_model.specs.Characters.EscapeFronts.{EscapeRead, escaped, escape_at, class_escape_at}
use Rattle.rx_model.specs.Characters.Escapes.{is_identity_escape, SpellsEscape, control, letter, null, hexadecimal, unicode, identity}
use Rattle.rx_model.specs.Properties.PropertyForms.{begins_property}
use Rattle.rx_model.specs.Refusals.Reached.{class_environment}
use Rattle.rx_model.specs.Refusals.Stops.{begins_class_escape, is_letter, two_hex_digits}
use Rattle.rx_model.proofs.Classes.ClassFronts.{at_backslash}
use Rattle.rx_model.proofs.Characters.Escapes.{begins_with_u, escape_spelled}
use Rattle.rx_model.proofs.Characters.LegacyEscapes.{any_in_unicode}
use Rattle.rx_model.proofs.Refusals.LegacyStops.{no_atom_after_backslash}
use Rattle.rx_model.proofs.Refusals.Stops.{two_there}

no_control : (c : ℕ) → is_one_of (codes "upPbdDsSwWfnrtv") c ≡ false → control_escape_value c ≡ None
no_control c h = grind (arith, nat_tests)

no_b : (c : ℕ) → is_one_of (codes "upPbdDsSwWfnrtv") c ≡ false → (c == 98) ≡ false
no_b c h = grind (arith, nat_tests)

no_p : (c : ℕ) → is_one_of (codes "upPbdDsSwWfnrtv") c ≡ false → begins_property c ≡ false
no_p c h = grind (arith, nat_tests)

no_class : (c : ℕ) → is_one_of (codes "upPbdDsSwWfnrtv") c ≡ false → class_escape_at c ≡ None
no_class c h = grind (arith, nat_tests)

module _ (us : List CodePoint) where
  abbrev here : Environment
  here = class_environment Unicode us

  -- what does not stand after a backslash that begins no escape in a class
  record NoBeginning (c : ℕ) (w : List ℕ) : Type 0 where
    no_letters : is_one_of (codes "upPbdDsSwWfnrtv") c ≡ false
    no_identity : is_identity_escape c ≡ false
    no_hyphen : (c == 45) ≡ false
    no_c : (c == 99 && front_is is_letter w) ≡ false
    no_null : (c == 48 && not (front_is is_decimal_digit w)) ≡ false
    no_hexadecimal : (c == 120 && two_hex_digits w) ≡ false

  no_beginning : (c : ℕ) (w : List ℕ) → begins_class_escape here (c ∷ w) ≡ false → NoBeginning c w
  no_beginning c w h =
      let whole = or_parts _ (not (is_unicode here.mode) && not (c == 107 && here.named)) h in
      let last = or_parts _ (c == 120 && two_hex_digits w) whole.0 in
      let fifth = or_parts _ (c == 48 && not (front_is is_decimal_digit w)) last.0 in
      let fourth = or_parts _ (c == 99 && front_is is_letter w) fifth.0 in
      let third = or_parts _ (c == 45) fourth.0 in
      let second = or_parts (is_one_of (codes "upPbdDsSwWfnrtv") c) (is_identity_escape c) third.0 in
      record {
        no_letters = second.0;
        no_identity = second.1;
        no_hyphen = third.1;
        no_c = fourth.1;
        no_null = fifth.1;
        no_hexadecimal = last.1;
      }

  -- An escape begins where one is spelled.
  escape_begins : (kind : CharacterKind) (v : ℕ) (w rest : List ℕ) → SpellsEscape here kind v w rest → begins_class_escape here (w ++ rest) ≡ false → ⊥
  escape_begins _ v _ rest (control {c} h) k = let f = no_control c (no_beginning c rest k).no_letters in cc (f, h)
  escape_begins _ v _ rest (letter {c} h) k = let f = (no_beginning 99 (c ∷ rest) k).no_c in both_ways (is_letter c) f (ap is_some h)
  escape_begins _ _ _ rest (null h) k = let f = (no_beginning 48 rest k).no_null in cc (f, ap not h)
  escape_begins _ v _ rest (hexadecimal {a} {b} h) k = let f = (no_beginning 120 (a ∷ b ∷ rest) k).no_hexadecimal in both_ways (is_hex_digit a && is_hex_digit b) f (two_there a b v h)
  escape_begins _ v w rest (unicode s) k = let u = begins_with_u s in let f = no_beginning 117 (u.0 ++ rest) (subst (λ w. begins_class_escape here (w ++ rest) ≡ false) u.1 k) in cc f.no_letters
  escape_begins _ _ _ rest (identity {c} u h) k = both_ways (is_identity_escape c) (no_beginning c rest k).no_identity h

  nothing_read : (w : List ℕ) (r : EscapeRead) → begins_class_escape here w ≡ false → escape_at true w ≡ r → character_atom r ≡ no_atom
  nothing_read w (escaped kind v n) h f = let s = escape_spelled here kind v n w f in absurd (escape_begins kind v s.spelled s.rest s.spells (ap (begins_class_escape here) (sym s.whole) ∙ h))
  nothing_read w q h f = refl

  no_escape_there : (w : List ℕ) → begins_class_escape here w ≡ false → escape_in_class here w ≡ no_atom
  no_escape_there [] h = refl
  no_escape_there (c ∷ w) h =
      let b = no_beginning c w h in
      rw (no_b c b.no_letters, b.no_hyphen, no_p c b.no_letters, no_class c b.no_letters) (ap character_atom (any_in_unicode true here (c ∷ w) refl) ∙ nothing_read (c ∷ w) (escape_at true (c ∷ w)) h refl)

  no_escape_in_unicode : (backslash : CodePoint) (rest : List CodePoint) → backslash.value ≡ 92 → begins_class_escape here (values rest) ≡ false → atom_at here (backslash ∷ rest) ≡ no_atom
  no_escape_in_unicode backslash rest h no_escape = at_backslash here backslash rest h ∙ no_escape_there (values rest) no_escape

-- In every mode but that of `v` no atom of a class stands where no escape begins.
pub no_escape_atom : (mode : Mode) → is_sets mode ≡ false → (us : List CodePoint) (backslash : CodePoint) (rest : List CodePoint) → backslash.value ≡ 92 →
    begins_class_escape (class_environment mode us) (values rest) ≡ false → atom_at (class_environment mode us) (backslash ∷ rest) ≡ no_atom
no_escape_atom Legacy no_sets us backslash rest h none = at_backslash (class_environment Legacy us) backslash rest h ∙ no_atom_after_backslash (class_environment Legacy us) refl (values rest) none
no_escape_atom Unicode no_sets us backslash rest h none = no_escape_in_unicode us backslash rest h none
no_escape_atom Sets no_sets us backslash rest h none = absurd (let no : ⊥ = cc no_sets in no)
