-- What bounds the steps of looking at an escape.
use Rattle.std.proofs.Common.{◌≡◌, ℕ, ◌≤◌, ◌==◌, Bool, true, false, cond, is_some, Option, Some, None, List, [], ◌∷◌, length, refl, inl, inr, arith, length-append}
use Rattle.rx_class.proofs.Common.{and-false, eqb-true, control_escape_value, is_decimal_digit, CharacterKind, front_is, chosen, Environment}
use Rattle.std.proofs.Math.Bool.{or-true}
use Rattle.rx_ast.specs.declared.leaf.CharacterKind.TheVariants as kinds
use Rattle.rx_units.specs.Digits.{hex_number}
use Rattle.rx_model.specs.Characters.Decoding.{four_at, after_u}
use Rattle.rx_model.specs.Characters.EscapeFronts.{escaped, nothing, no_unicode, escape_if, unicode_read, letter_at, two_at, escape_after, escape_at, legacy_at}
use Rattle.rx_model.specs.Characters.LegacyEscapes.{four_next, identity}
use Rattle.rx_model.specs.Characters.UnicodeEscapes.{Decodes, SpellsUnicode, braced}
use Rattle.rx_model.proofs.Characters.LegacyEscapes.{spelled_legacy}

-- A unicode escape takes four units at least.
pub spelled_long : (u : Bool) (v : ℕ) (w rest : List ℕ) → SpellsUnicode u v w rest → 4 ≤ length w
spelled_long _ _ _ _ (braced x xs h s) = omega (arith, length-append xs (125 ∷ []))
spelled_long _ _ _ _ it = omega arith

pub long_value : (u : Bool) (w : List ℕ) (v n : ℕ) → Decodes u w v n → 4 ≤ n
long_value u w v n d = omega (arith, d.count, spelled_long u v d.spelled d.rest d.spells)

-- An escape that is no unicode escape begins with `u`.
if_some : (k : CharacterKind) (n : ℕ) (o : Option ℕ) → escape_if k n o ≡ no_unicode → ⊥
if_some k n None h = cc h
if_some k n (Some v) h = cc h

null_some : (b : Bool) → cond b nothing (escaped kinds.Null 0 1) ≡ no_unicode → ⊥
null_some true h = cc h
null_some false h = cc h

u_after : (c : ℕ) (w : List ℕ) (o : Option ℕ) → escape_after false o c w ≡ no_unicode → (c == 117) ≡ true
u_after c w (Some v) h = absurd (let no : ⊥ = cc h in no)
u_after c w None h = elim (chosen (c == 99) h) [
  | inl p ↦ absurd (if_some kinds.ControlLetter 2 (letter_at w) p.1)
  | inr p ↦ elim (chosen (c == 48) p.1) [
    | inl q ↦ absurd (null_some (front_is is_decimal_digit w) q.1)
    | inr q ↦ elim (chosen (c == 120) q.1) [
      | inl r ↦ absurd (if_some kinds.HexadecimalEscape 3 (two_at w) r.1)
      | inr r ↦ elim (chosen (c == 117) r.1) [
        | inl s ↦ s.0
        | inr s ↦ absurd (let no : ⊥ = cc s.1 in no)
      ]
    ]
  ]
]

-- and no four digits follow it
no_number : (rest : List ℕ) (a b c d : ℕ) (o : Option ℕ) → hex_number (a ∷ b ∷ c ∷ d ∷ []) ≡ o → unicode_read (after_u false (four_at (a ∷ b ∷ c ∷ d ∷ rest)) (a ∷ b ∷ c ∷ d ∷ rest)) ≡ no_unicode → is_some o ≡ false
no_number rest a b c d None e h = refl
no_number rest a b c d (Some v) e h = absurd (let k = rw e at h in let no : ⊥ = cc k in no)

no_four : (w : List ℕ) → unicode_read (after_u false (four_at w) w) ≡ no_unicode → is_some (four_next w) ≡ false
no_four (a ∷ b ∷ c ∷ d ∷ w) h = no_number w a b c d (hex_number (a ∷ b ∷ c ∷ d ∷ [])) refl h
no_four w h = refl

u_alone : (inside : Bool) (e : Environment) (w : List ℕ) → is_some (four_next w) ≡ false → legacy_at inside e (117 ∷ w) ≡ escaped kinds.Identifier 117 1
u_alone inside e w h = spelled_legacy inside e kinds.Identifier 117 (117 ∷ []) w (identity record {
  no_letter = refl;
  no_octal = refl;
  no_k = and-false e.named;
  no_boundary = and-false _;
  no_reference = or-true inside;
  no_x = refl;
  no_u = h;
})

at_u : (inside : Bool) (e : Environment) (c : ℕ) (w : List ℕ) → c ≡ 117 → escape_at false (c ∷ w) ≡ no_unicode → legacy_at inside e (c ∷ w) ≡ escaped kinds.Identifier 117 1
unfolding escape_at
at_u inside e c w is h = let k = rw is at h in rw is (u_alone inside e w (no_four w k))

-- With neither `u` nor `v` such a `u` stands for itself.
pub stands_for_itself : (inside : Bool) (e : Environment) (w : List ℕ) → escape_at false w ≡ no_unicode → legacy_at inside e w ≡ escaped kinds.Identifier 117 1
unfolding escape_at
stands_for_itself inside e [] h = absurd (let no : ⊥ = cc h in no)
stands_for_itself inside e (c ∷ w) h = at_u inside e c w (eqb-true c 117 (u_after c w (control_escape_value c) h)) h
