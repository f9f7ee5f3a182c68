-- How many units an escape takes, and which values it has.
use Rattle.std.proofs.Common.{◌≡◌, ℕ, ◌+◌, ◌≤◌, Bool, true, false, All, List, [], ◌∷◌, ◌++◌, length, arith, sym, ap, ◌∙◌, inl, inr, length-append}
use Rattle.rx_class.proofs.Common.{length-map, CharacterKind, CodePoint, values, mode_by, Environment, is_unicode, IsWithin, seen_escape, EscapeFound}
use Rattle.std.proofs.lemmas.List.Elements.{All-map, All-same}
use Rattle.rx_model.specs.Characters.EscapeFronts.{EscapeRead, legacy_at, or_legacy}
use Rattle.rx_model.specs.Reading.Fronts.{any_escape_at, escape_at, escaped, no_unicode, too_many}
use Rattle.rx_model.proofs.Characters.Decoding.{overflow_within}
use Rattle.rx_model.proofs.Characters.Escapes.{escape_small, escape_spelled, spelled_small, too_many_decoded}
use Rattle.rx_model.proofs.Characters.LegacyEscapes.{any_refused, any_spelled, legacy_small}
use Rattle.rx_class.specs.declared.escapes.found.EscapeFound.TheVariants as found
use Rattle.rx_class.proofs.Modes.{unicode_by}

-- n units are there as values
in_units : (us : List CodePoint) (a b : List ℕ) (n : ℕ) → values us ≡ a ++ b → length a ≡ n → n ≤ length us
in_units us a b n whole count = omega (arith, count, length-append a b, ap length whole, length-map us (λ (u : CodePoint). u.value))

-- an environment of n groups
abbrev pub environment_by : Bool → ℕ → Bool → Environment
environment_by unicode groups named = record { mode = mode_by unicode false; groups = groups; named = named; buffer_boundaries = true }

character_within : (u : Bool) (us : List CodePoint) (kind : CharacterKind) (v n : ℕ) → escape_at u (values us) ≡ escaped kind v n → (n ≤ length us) × (v ≤ 0x10FFFF)
character_within u us kind v n read =
    let e = environment_by u 0 u in
    let here = ap (λ m. escape_at m (values us)) (unicode_by u) ∙ read in
    let front = escape_spelled e kind v n (values us) here in
    (in_units us front.spelled front.rest n front.whole front.count, escape_small e kind v n (values us) here)

too_many_within : (u : Bool) (us : List CodePoint) (n : ℕ) → escape_at u (values us) ≡ too_many n → n + 2 ≤ length us
too_many_within u us n h = let more = overflow_within u us n (too_many_decoded u (values us) n h) in omega arith

no_unicode_within : (u : Bool) (us : List CodePoint) → escape_at u (values us) ≡ no_unicode → 1 ≤ length us
unfolding escape_at
no_unicode_within u [] h = absurd (let no : ⊥ = cc h in no)
no_unicode_within u (c ∷ us) h = omega arith

pub read_within : (unicode_mode : Bool) (us : List CodePoint) (answer : EscapeFound) → seen_escape answer ≡ escape_at unicode_mode (values us) → IsWithin (length us) answer
read_within unicode_mode us (found.Character kind v n) read = character_within unicode_mode us kind v n (sym read)
read_within unicode_mode us found.Nothing read = tt
read_within unicode_mode us (found.TooMany n) read = too_many_within unicode_mode us n (sym read)
read_within unicode_mode us found.Invalid read = no_unicode_within unicode_mode us (sym read)

-- the same of the escapes of every mode
module _ (inside : Bool) (e : Environment) (us : List CodePoint) where
  any_character_within : (kind : CharacterKind) (v n : ℕ) → All (λ unit. unit.value ≤ 0x10FFFF) us → any_escape_at inside e (values us) ≡ escaped kind v n → (n ≤ length us) × (v ≤ 0x10FFFF)
  any_character_within kind v n small read = elim (any_spelled inside e kind v n (values us) read) [
    | inl f ↦ (in_units us f.spelled f.rest n f.whole f.count, spelled_small e kind v f.spelled f.rest f.spells)
    | inr (legacy, f) ↦ (
      in_units us f.spelled f.rest n f.whole f.count,
      legacy_small inside e kind v f.spelled f.rest f.spells
          (All-same (λ c. c ≤ 0x10FFFF) (f.spelled ++ f.rest) (values us) (sym f.whole) (All-map (λ c. c ≤ 0x10FFFF) (λ (u : CodePoint). u.value) us small)),
    )
  ]

  pub any_read_within : (answer : EscapeFound) → seen_escape answer ≡ any_escape_at inside e (values us) → All (λ unit. unit.value ≤ 0x10FFFF) us → IsWithin (length us) answer
  any_read_within (found.Character kind v n) read small = any_character_within kind v n small (sym read)
  any_read_within found.Nothing read small = tt
  any_read_within (found.TooMany n) read small = let r = any_refused inside e (values us) (too_many n) (sym read) (λ no. no) in too_many_within true us n r.1
  any_read_within found.Invalid read small = let r = any_refused inside e (values us) no_unicode (sym read) (λ no. no) in no_unicode_within true us r.1

  -- With neither `u` nor `v`, after what is no escape of every mode.
  pub in_legacy : {read : EscapeRead} → is_unicode e.mode ≡ false → escape_at false (values us) ≡ read → any_escape_at inside e (values us) ≡ or_legacy read false (legacy_at inside e (values us))
  in_legacy legacy is = ap (λ m. or_legacy (escape_at m (values us)) m (legacy_at inside e (values us))) legacy ∙ ap (λ r. or_legacy r false (legacy_at inside e (values us))) is
