-- Single steps of decoding a unicode escape.
use Rattle.std.proofs.Common.{◌≡◌, ◌↔◌, ◌<◌, ℕ, List, [], ◌∷◌, length, None, refl, arith}
use Rattle.rx_units.specs.Stored.{values_of}
use Rattle.rx_model.specs.Characters.Decoding.{four_at, value, overflow}
use Rattle.rx_model.specs.Characters.LegacyEscapes.{four_next}
use Rattle.rx_scan.specs.declared.unicode_escape.UnicodeEscape.{UnicodeEscape}
use Rattle.rx_scan.specs.declared.unicode_escape.UnicodeEscape.TheVariants as escape
use Rattle.rx_scan.specs.EscapeDecoding.{seen_escape}

module _ {Item : Type 0} (value : Item → ℕ) where
  pub short_four : (us : List Item) → length us < 4 → four_at (values_of value us) ≡ None
  short_four [] h = refl
  short_four (u ∷ []) h = refl
  short_four (u ∷ v ∷ []) h = refl
  short_four (u ∷ v ∷ w ∷ []) h = refl
  short_four (u ∷ v ∷ w ∷ x ∷ us) h = absurd (omega arith)

  pub short_next : (us : List Item) → length us < 4 → four_next (values_of value us) ≡ None
  short_next [] h = refl
  short_next (u ∷ []) h = refl
  short_next (u ∷ v ∷ []) h = refl
  short_next (u ∷ v ∷ w ∷ []) h = refl
  short_next (u ∷ v ∷ w ∷ x ∷ us) h = absurd (omega arith)

pub seen_value : (e : UnicodeEscape) (v n : ℕ) → (e ≡ escape.Value v n) ↔ (seen_escape e ≡ value v n)
seen_value (escape.Value a b) v n = (λ h. let k : value a b ≡ value v n = cc h in k, λ h. let k : escape.Value a b ≡ escape.Value v n = cc h in k)
seen_value escape.Invalid v n = (λ h. absurd (let no : ⊥ = cc h in no), λ h. absurd (let no : ⊥ = cc h in no))
seen_value (escape.Overflow a) v n = (λ h. absurd (let no : ⊥ = cc h in no), λ h. absurd (let no : ⊥ = cc h in no))

pub seen_overflow : (e : UnicodeEscape) (n : ℕ) → (e ≡ escape.Overflow n) ↔ (seen_escape e ≡ overflow n)
seen_overflow (escape.Value a b) n = (λ h. absurd (let no : ⊥ = cc h in no), λ h. absurd (let no : ⊥ = cc h in no))
seen_overflow escape.Invalid n = (λ h. absurd (let no : ⊥ = cc h in no), λ h. absurd (let no : ⊥ = cc h in no))
seen_overflow (escape.Overflow a) n = (λ h. let k : overflow a ≡ overflow n = cc h in k, λ h. let k : escape.Overflow a ≡ escape.Overflow n = cc h in k)

pub only_invalid : (e : UnicodeEscape) → ((v n : ℕ) → e ≡ escape.Value v n → ⊥) → ((n : ℕ) → e ≡ escape.Overflow n → ⊥) → e ≡ escape.Invalid
only_invalid (escape.Value v n) no_value no_overflow = absurd (no_value v n refl)
only_invalid escape.Invalid no_value no_overflow = refl
only_invalid (escape.Overflow n) no_value no_overflow = absurd (no_overflow n refl)

pub invalid_alone : (e : UnicodeEscape) → e ≡ escape.Invalid → ((v n : ℕ) → e ≡ escape.Value v n → ⊥) × ((n : ℕ) → e ≡ escape.Overflow n → ⊥)
invalid_alone e is = (λ v n h. let no : ⊥ = cc (is, h) in no, λ n h. let no : ⊥ = cc (is, h) in no)
