-- The units of a text with neither `u` nor `v`: a character past FFFF is a lead and a trail, which a name combines again.
use Rattle.std.proofs.Common.{◌≡◌, refl, sym, ap, ap₂, ◌∙◌, subst, ℕ, ◌+◌, ◌≤◌, ◌==◌, ◌||◌, nat_lt, cond, Bool, true, false, List, [], ◌∷◌, ◌++◌, append_assoc, arith, codes, inl, inr}
use Rattle.std.specs.List.{list_all}
use Rattle.std.specs.Char.{len_utf8}
use Rattle.std.proofs.lemmas.Bool.{cases_Bool, cond-true, cond-false}
use Rattle.std.proofs.lemmas.Bool.Decides.{nat_tests}
use Rattle.std.proofs.lemmas.List.{map-append}
use Rattle.rx_base.specs.Characters.{is_one_of}
use Rattle.rx_base.specs.SurrogatePair.{IsLeadSurrogate, IsTrailSurrogate, surrogate_pair}
use Rattle.rx_units.specs.declared.code_point.EscapeKind.TheVariants as escape
use Rattle.rx_units.specs.Units.{unit, lead_of, trail_of, character_units, literal_units, values}
use Rattle.rx_units.specs.Digits.{front_is}
use Rattle.rx_units.proofs.Choices.{both}
use Rattle.rx_model.specs.Groups.GroupNames.{is_in_name, is_pair_in_name, SpellsNameCharacter, one_unit, raw_pair, SpellsNameParts, no_part, part, SpellsName, whole_name}
use Rattle.rx_model.proofs.Spelling.Bounds.{AreCodePoints}
use Rattle.rx_model.proofs.Groups.NameTexts.{IsName}
use Rattle.rx_model.proofs.Spelling.Narrows.{IsNarrow}

-- the values of the units of one character, and of a text
abbrev pub wide_one : ℕ → List ℕ
wide_one c = cond (nat_lt c 0x10000) (c ∷ []) (lead_of c ∷ trail_of c ∷ [])

abbrev pub wide : List ℕ → List ℕ
wide [] = []
wide (c ∷ cs) = wide_one c ++ wide cs

one_wide : (start end c : ℕ) (b : Bool) → values (cond b (unit start end c escape.None ∷ []) (unit start end (lead_of c) escape.None ∷ unit start end (trail_of c) escape.None ∷ [])) ≡ cond b (c ∷ []) (lead_of c ∷ trail_of c ∷ [])
one_wide start end c true = refl
one_wide start end c false = refl

pub values_wide : (at : ℕ) (text : List ℕ) → values (literal_units false at text) ≡ wide text
values_wide at [] = refl
values_wide at (c ∷ cs) =
    map-append (λ u. u.value) (character_units false at (at + len_utf8 c) c escape.None) (literal_units false (at + len_utf8 c) cs)
    ∙ ap₂ (λ v w. v ++ w) (one_wide at (at + len_utf8 c) c (nat_lt c 0x10000)) (values_wide (at + len_utf8 c) cs)

-- Of UTF-16 code units the units are the same in every mode.
pub narrow_units : (at : ℕ) (text : List ℕ) → IsNarrow text → literal_units false at text ≡ literal_units true at text
narrow_units at [] h = refl
narrow_units at (c ∷ cs) h =
    let p = both (nat_lt c 0x10000) _ h in
    ap (λ b. cond b (unit at (at + len_utf8 c) c escape.None ∷ []) (unit at (at + len_utf8 c) (lead_of c) escape.None ∷ unit at (at + len_utf8 c) (trail_of c) escape.None ∷ []) ++ literal_units false (at + len_utf8 c) cs) p.0
    ∙ ap (λ us. unit at (at + len_utf8 c) c escape.None ∷ us) (narrow_units (at + len_utf8 c) cs p.1)

-- A set without surrogates holds no first unit where it holds no first character.
pub front_wide : (set : ℕ → Bool) → ((c : ℕ) → 0xD800 ≤ c → set c ≡ false) → (text : List ℕ) → front_is set text ≡ false → front_is set (wide text) ≡ false
front_wide set high [] h = refl
front_wide set high (c ∷ cs) h = elim (cases_Bool (nat_lt c 0x10000)) [
  | inl p ↦ ap (λ v. front_is set (v ++ wide cs)) (cond-true (nat_lt c 0x10000) (c ∷ []) (lead_of c ∷ trail_of c ∷ []) p) ∙ h
  | inr p ↦ ap (λ v. front_is set (v ++ wide cs)) (cond-false (nat_lt c 0x10000) (c ∷ []) (lead_of c ∷ trail_of c ∷ []) p) ∙ high (lead_of c) (omega arith)
]

-- The units of two texts, one after the other.
pub wide-append : (at : ℕ) (u v : List ℕ) → (between : ℕ) × (literal_units false at (u ++ v) ≡ literal_units false at u ++ literal_units false between v)
wide-append at [] v = (at, refl)
wide-append at (c ∷ u) v =
    let h = wide-append (at + len_utf8 c) u v in
    let own = character_units false at (at + len_utf8 c) c escape.None in
    (h.0, ap (λ us. own ++ us) h.1 ∙ sym (append_assoc own (literal_units false (at + len_utf8 c) u) (literal_units false h.0 v)))

-- names
start_pair : (b : Bool) (c : ℕ) → (b || is_one_of (codes "$_") c) ≡ true → 0x10000 ≤ c → b ≡ true
start_pair b c h k = grind (arith, nat_tests)

part_pair : (b : Bool) (c : ℕ) → (b || c == 36) ≡ true → 0x10000 ≤ c → b ≡ true
part_pair b c h k = grind (arith, nat_tests)

pair_from : (first : Bool) (c : ℕ) → is_in_name first c ≡ true → 0x10000 ≤ c → is_pair_in_name first c ≡ true
pair_from true c h k = start_pair _ c h k
pair_from false c h k = part_pair _ c h k

joined_again : (c : ℕ) → 0x10000 ≤ c → c ≤ 0x10FFFF → surrogate_pair (lead_of c) (trail_of c) ≡ c
joined_again c h k = omega (arith, h, k)

lead_there : (c : ℕ) → 0x10000 ≤ c → c ≤ 0x10FFFF → IsLeadSurrogate (lead_of c)
lead_there c h k = (omega (arith, h, k), omega (arith, h, k))

trail_there : (c : ℕ) → IsTrailSurrogate (trail_of c)
trail_there c = (omega arith, omega arith)

above : (c : ℕ) → nat_lt c 0x10000 ≡ false → 0x10000 ≤ c
above c h = grind (arith, nat_tests)

character_spelled : (first : Bool) (c : ℕ) (rest : List ℕ) → is_in_name first c ≡ true → c ≤ 0x10FFFF → SpellsNameCharacter false first c (wide_one c) rest
character_spelled first c rest h low = elim (cases_Bool (nat_lt c 0x10000)) [
  | inl p ↦ subst (λ w. SpellsNameCharacter false first c w rest) (sym (cond-true (nat_lt c 0x10000) (c ∷ []) (lead_of c ∷ trail_of c ∷ []) p)) (one_unit h)
  | inr p ↦
      let k = above c p in
      let joined = joined_again c k low in
      subst (λ w. SpellsNameCharacter false first c w rest) (sym (cond-false (nat_lt c 0x10000) (c ∷ []) (lead_of c ∷ trail_of c ∷ []) p))
      (subst (λ d. SpellsNameCharacter false first d (lead_of c ∷ trail_of c ∷ []) rest) joined
      (raw_pair refl (lead_there c k low) (trail_there c) (ap (is_pair_in_name first) joined ∙ pair_from first c h k)))
]

parts_spelled : (cs rest : List ℕ) → list_all (is_in_name false) cs ≡ true → AreCodePoints cs → SpellsNameParts false cs (wide cs) rest
parts_spelled [] rest h l = no_part
parts_spelled (c ∷ cs) rest h l =
    let p = both (is_in_name false c) (list_all (is_in_name false) cs) h in
    part (wide_one c) (wide cs) rest (character_spelled false c (wide cs ++ rest) p.0 l.0) (parts_spelled cs rest p.1 l.1)

-- the units of a name spell it again
pub wide_name_spelled : (name rest : List ℕ) → IsName name → AreCodePoints name → SpellsName false name (wide name) rest
wide_name_spelled [] rest h l = absurd h
wide_name_spelled (c ∷ cs) rest h l = whole_name (wide_one c) (wide cs) rest (character_spelled true c (wide cs ++ rest) h.0 l.0) (parts_spelled cs rest h.1 l.1)

wide_before : (u v : List ℕ) → wide (u ++ v) ≡ wide u ++ wide v
wide_before [] v = refl
wide_before (c ∷ u) v = ap (λ w. wide_one c ++ w) (wide_before u v) ∙ sym (append_assoc (wide_one c) (wide u) (wide v))

-- a name before `>`
pub wide_closed : (name : List ℕ) → wide (name ++ (62 ∷ [])) ≡ wide name ++ (62 ∷ [])
wide_closed name = wide_before name (62 ∷ [])
