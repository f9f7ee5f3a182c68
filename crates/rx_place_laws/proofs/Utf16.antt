-- Places between characters, in UTF-16.
use Rattle.std.proofs.Common.{◌≡◌, ◌∙◌, refl, ap, sym, ℕ, zero, suc, ◌+◌, ◌-◌, ◌<◌, ◌≤◌, Bool, true, ◌&&◌, nat_lt, List, [], ◌∷◌, ◌++◌, length, arith}
use Rattle.std.proofs.lemmas.Bool.{and_parts, lt-ltb, ltb-true}
use Rattle.std.proofs.lemmas.List.Elements.{All-cons, All-head, All-nil, All-tail}
use Rattle.std.proofs.lemmas.Str.{len_utf8_ascii}
use Rattle.std.specs.Prelude.{if◌then◌else◌}
use Rattle.std.specs.Char.{len_utf8}
use Rattle.std.specs.Char.Escape.{encode_utf16}
use Rattle.std.specs.List.{flat_map}
use Rattle.rx_model.specs.declared.form.Form.{Form}
use Rattle.rx_model.specs.declared.form.Form.TheVariants.{Literal, Constructor}
use Rattle.rx_places.specs.Places.{in_utf16, len_utf16, units_before}
use Rattle.rx_places.proofs.Units.{units_at_place}
use Rattle.rx_place_laws.specs.Between.{AreAscii, HasUnitsBefore, IsBetweenCharacters}
use Rattle.rx_place_laws.specs.Texts.{empty_text}

one_unit : (c : ℕ) → c < 0x80 → len_utf16 c ≡ 1
one_unit c h = ap (λ b. if b then 1 else 2) (lt-ltb c 0x10000 (omega arith))

-- Of ASCII each byte is one code unit.
units_are_bytes : (cs : List ℕ) (n : ℕ) → AreAscii cs → units_before cs n ≡ n
unfolding units_before
units_are_bytes [] n h = refl
units_are_bytes (c ∷ cs) zero h = refl
units_are_bytes (c ∷ cs) (suc n) h =
    let small = All-head (λ c. c < 0x80) c cs h in
    let z : suc n - len_utf8 c ≡ n = omega (arith, len_utf8_ascii c small) in
    omega (arith, one_unit c small, ap (units_before cs) z, units_are_bytes cs n (All-tail (λ c. c < 0x80) c cs h))

ascii_place : (own : List ℕ) (added place : ℕ) → AreAscii own → added ≤ place → in_utf16 own added place ≡ place
ascii_place own added place h order = omega (arith, units_are_bytes own (place - added) h)

module _ (text : List ℕ) (added place : ℕ) (it : IsBetweenCharacters text added place) where
  own_units : in_utf16 text added place ≡ added + length (flat_map encode_utf16 it.front)
  own_units =
      ap (λ cs. in_utf16 cs added place) it.cut ∙ ap (in_utf16 (it.front ++ it.back) added) it.place_is ∙ units_at_place it.front it.back added

  -- counted in the text itself,
  pub counted : HasUnitsBefore text text added place
  counted = record { between = it; units_are = own_units }

  -- and in another, where both are ASCII
  pub counted_as_ascii : (own : List ℕ) → AreAscii own → AreAscii text → HasUnitsBefore own text added place
  counted_as_ascii own h k =
      let order : added ≤ place = omega (arith, it.place_is) in
      record { between = it; units_are = ascii_place own added place h order ∙ sym (ascii_place text added place k order) ∙ own_units }

-- What stands in for an empty text is ASCII.
abbrev all_small : List ℕ → Bool
all_small [] = true
all_small (c ∷ cs) = nat_lt c 0x80 && all_small cs

small_is_ascii : (cs : List ℕ) → all_small cs ≡ true → AreAscii cs
small_is_ascii [] h = All-nil (λ c. c < 0x80)
small_is_ascii (c ∷ cs) h =
    let parts = and_parts (nat_lt c 0x80) (all_small cs) h in
    All-cons (λ c. c < 0x80) c cs (ltb-true c 0x80 parts.0) (small_is_ascii cs parts.1)

pub empty_is_ascii : (form : Form) → AreAscii (empty_text form)
empty_is_ascii Literal = small_is_ascii (empty_text Literal) refl
empty_is_ascii Constructor = small_is_ascii (empty_text Constructor) refl
