-- Escapes that are read alike in classes and outside them, in each environment.
use Rattle.std.proofs.Common.{◌≡◌, refl, sym, ap, ◌∙◌, ℕ, ◌≤◌, ◌==◌, nat_le, Bool, true, false, ◌&&◌, Some, None, List, [], ◌∷◌, length, drop, codes, arith, inl, inr, option_map, if◌then◌else◌}
use Rattle.std.proofs.lemmas.Bool.{and_left, eq-eqb}
use Rattle.rx_base.specs.Characters.{is_lead, is_within}
use Rattle.rx_class.proofs.Common.{CodePoint, Environment, cases_Bool, chosen, cond-false, control_escape_value, is_one_of, is_unicode, nat_tests, starts, values, values_length}
use Rattle.rx_tables.specs.Characters.{is_reserved_punctuator, short_escape_value}
use Rattle.rx_units.specs.Digits.{hex_number}
use Rattle.rx_ast.specs.declared.leaf.CharacterKind.TheVariants as kinds
use Rattle.rx_model.specs.Characters.Decoding.{after_u, pair_or_unit, trail_at, value}
use Rattle.rx_model.specs.Characters.EscapeFronts.{any_escape_at, escape_at, escaped, legacy_at, or_legacy, unicode_read}
use Rattle.rx_model.specs.Characters.Escapes.{control, identity, is_identity_escape}
use Rattle.rx_model.specs.Characters.LegacyEscapes.{four_next}
use Rattle.rx_model.specs.Characters.LegacyEscapes as legacy
use Rattle.rx_model.specs.Reading.FrontReading.{backslash_read, escape_read}
use Rattle.rx_model.proofs.Characters.LegacyEscapes.{any_in_unicode, any_legacy_read, any_read, any_small, any_within}
use Rattle.rx_model.proofs.Spelling.Backs.{syntax_identity}
use Rattle.rx_class.specs.EscapeReading.CommonEscapes.{IsCommonEscape}
use Rattle.rx_class.specs.SetReading.Fronts.{set_escape_at}
use Rattle.rx_class.specs.declared.escapes.common.CommonEscape.{CommonEscape}
use Rattle.rx_class.proofs.EscapeReading.Bounds.{environment_by}
use Rattle.rx_class.proofs.Modes.{unicode_by}

-- Nothing but a character escape begins with this character after a backslash, in classes and outside them.
record BeginsEscapeAlone (c : ℕ) : Type 0 where
  no_letter : is_one_of (codes "bBkpPAzZdDsSwW") c ≡ false
  no_digit : is_within 49 57 c ≡ false
  no_punctuator : is_reserved_punctuator c ≡ false
  small : nat_le c 0x10FFFF ≡ true

module _ (c : ℕ) (w : List ℕ) (first : BeginsEscapeAlone c) where
  alone_read : (e : Environment) → backslash_read e (c ∷ w) ≡ escape_read (any_escape_at false e (c ∷ w))
  alone_read e = let h = first.no_letter in let d = first.no_digit in grind (arith, nat_tests)

  set_read : set_escape_at (c ∷ w) ≡ escape_at true (c ∷ w)
  set_read = let h = first.no_letter in let p = first.no_punctuator in grind (arith, nat_tests)

  -- So one that is read as a character escape is read so everywhere.
  common : (unicode_mode : Bool) (us : List CodePoint) (it : CommonEscape) → values us ≡ c ∷ w → 1 ≤ it.length
      → ((inside : Bool) (e : Environment) → is_unicode e.mode ≡ unicode_mode → any_escape_at inside e (c ∷ w) ≡ escaped it.kind it.value it.length) → IsCommonEscape unicode_mode us it
  common unicode_mode us it whole some read =
      let unicode = environment_by true 0 true in
      let e = environment_by unicode_mode 0 true in
      let here = read false e (unicode_by unicode_mode) in
      record {
        read = λ inside e m. ap (any_escape_at inside e) whole ∙ read inside e m;
        alone = λ e m. ap (backslash_read e) whole ∙ alone_read e ∙ ap escape_read (read false e m);
        in_sets = λ m. ap set_escape_at whole ∙ set_read ∙ sym (any_in_unicode false unicode (c ∷ w) refl) ∙ read false unicode (sym m);
        some = some;
        within = omega (arith, any_within false e it.kind it.value it.length (c ∷ w) here, ap length whole, values_length us);
        small = any_small false e it.kind it.value it.length (c ∷ w) first.small here;
      }

-- a ControlEscape, a SyntaxCharacter or `/`
short_alone : (c v : ℕ) → short_escape_value c ≡ Some v → BeginsEscapeAlone c
short_alone c v h = record {
  no_letter = grind (arith, nat_tests);
  no_digit = grind (arith, nat_tests);
  no_punctuator = grind (arith, nat_tests);
  small = grind (arith, nat_tests);
}

control_differs : (c v : ℕ) → control_escape_value c ≡ Some v → (v == c) ≡ false
control_differs c v h = grind (arith, nat_tests)

module _ (inside : Bool) (e : Environment) (c : ℕ) (w : List ℕ) where
  identity_read : is_identity_escape c ≡ true → any_escape_at inside e (c ∷ w) ≡ escaped kinds.Identifier c 1
  identity_read h = elim (cases_Bool (is_unicode e.mode)) [
    | inl m ↦ any_read inside e kinds.Identifier c (c ∷ []) w (identity m h)
    | inr m ↦ any_legacy_read inside e kinds.Identifier c (c ∷ []) w m (legacy.identity (syntax_identity inside e c w h))
  ]

  short_read : (v : ℕ) → short_escape_value c ≡ Some v → any_escape_at inside e (c ∷ w) ≡ escaped (if v == c then kinds.Identifier else kinds.SingleEscape) v 1
  short_read v h = elim (chosen (is_identity_escape c) h) [
    | inl p ↦ let same : c ≡ v = cc p.1 in rw (← same, eq-eqb c c refl) (identity_read p.0)
    | inr p ↦ rw (control_differs c v p.1) (any_read inside e kinds.SingleEscape v (c ∷ []) w (control p.1))
  ]

-- `u` and four digits that begin no pair
no_trail : (w : List ℕ) → starts 92 w ≡ false → trail_at w ≡ None
no_trail [] h = refl
no_trail (x ∷ []) h = refl
no_trail (x ∷ y ∷ w) h = cond-false (x == 92 && y == 117) _ _ (and_left (x == 92) (y == 117) h)

no_pair : (lead : Bool) (v : ℕ) (w : List ℕ) → (lead && starts 92 w) ≡ false → (if lead then pair_or_unit v (trail_at w) else value v 5) ≡ value v 5
no_pair false v w h = refl
no_pair true v w h = ap (pair_or_unit v) (no_trail w h)

four_read : (u : Bool) (a b c d v : ℕ) (w : List ℕ) → hex_number (a ∷ b ∷ c ∷ d ∷ []) ≡ Some v → ((u && is_lead v) && starts 92 w) ≡ false → escape_at u (117 ∷ a ∷ b ∷ c ∷ d ∷ w) ≡ escaped kinds.UnicodeEscape v 5
unfolding escape_at
four_read u a b c d v w h alone = ap (λ o. unicode_read (after_u u (option_map (λ v. (v, w)) o) (a ∷ b ∷ c ∷ d ∷ w))) h ∙ ap unicode_read (no_pair (u && is_lead v) v w alone)

module _ (unicode_mode : Bool) (us : List CodePoint) where
  pub unicode_common : (w : List ℕ) (v : ℕ) → values us ≡ 117 ∷ w → four_next w ≡ Some v → ((unicode_mode && is_lead v) && starts 92 (drop 4 w)) ≡ false
      → IsCommonEscape unicode_mode us (record { kind = kinds.UnicodeEscape; value = v; length = 5 })
  unicode_common (a ∷ b ∷ c ∷ d ∷ w) v whole four alone =
      let more = a ∷ b ∷ c ∷ d ∷ w in
      let first : BeginsEscapeAlone 117 = record { no_letter = refl; no_digit = refl; no_punctuator = refl; small = refl } in
      common 117 more first unicode_mode us _ whole (omega arith) (λ inside e m.
      ap (λ r. or_legacy r (is_unicode e.mode) (legacy_at inside e (117 ∷ more))) (ap (λ u. escape_at u (117 ∷ more)) m ∙ four_read unicode_mode a b c d v w four alone))
  unicode_common w v whole four alone = absurd (let no : ⊥ = cc four in no)

  pub short_common : (c : ℕ) (w : List ℕ) (v : ℕ) → values us ≡ c ∷ w → short_escape_value c ≡ Some v
      → IsCommonEscape unicode_mode us (record { kind = if v == c then kinds.Identifier else kinds.SingleEscape; value = v; length = 1 })
  short_common c w v whole h = common c w (short_alone c v h) unicode_mode us _ whole (omega arith) (λ inside e m. short_read inside e c w v h)
