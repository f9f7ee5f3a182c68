-- The units that items are, as a list.
use Rattle.std.proofs.Common.{◌≡◌, ℕ, zero, suc, ◌+◌, ◌-◌, ◌%◌, ◌^◌, ◌<◌, ◌≤◌, List, [], ◌∷◌, length, drop, take, get_or, refl, ap, subst, sym, ◌∙◌, add-zero, zero-add, arith}
use Rattle.std.specs.Prelude.{map}
use Rattle.std.proofs.lemmas.List.{length-map}
use Rattle.rx_units.specs.declared.code_point.CodePoint.{CodePoint}
use Rattle.rx_units.specs.Bytes.{byte_units}
use Rattle.rx_units.specs.Stored.{units_of, values_of}
use Rattle.rx_units.specs.Units.{end_of, unit as unit_record, values}
use Rattle.rx_units.specs.declared.code_point.EscapeKind.TheVariants as kind
use Rattle.rx_units.proofs.Offsets.{end_of_take}

module _ {Item : Type 0} (unit : ℕ → Item → CodePoint) where
  pub units_length : (place : ℕ) (xs : List Item) → length (units_of unit place xs) ≡ length xs
  units_length place [] = refl
  units_length place (x ∷ xs) = ap suc (units_length (place + 1) xs)

  pub units_drop : (n place : ℕ) (xs : List Item) → units_of unit (place + n) (drop n xs) ≡ drop n (units_of unit place xs)
  units_drop zero place xs = ap (λ p. units_of unit p xs) (add-zero place)
  units_drop (suc n) place [] = refl
  units_drop (suc n) place (x ∷ xs) =
      let e : place + suc n ≡ place + 1 + n = omega arith in
      rw e (units_drop n (place + 1) xs)

  pub units_take : (n place : ℕ) (xs : List Item) → units_of unit place (take n xs) ≡ take n (units_of unit place xs)
  units_take zero place xs = refl
  units_take (suc n) place [] = refl
  units_take (suc n) place (x ∷ xs) = ap (λ us. unit place x ∷ us) (units_take n (place + 1) xs)

  pub unit_at : (place : ℕ) (xs : List Item) (i : ℕ) (d : Item) (e : CodePoint) → i < length xs → get_or (units_of unit place xs) i e ≡ unit (place + i) (get_or xs i d)
  unit_at place [] i d e h = absurd (omega arith)
  unit_at place (x ∷ xs) zero d e h = ap (λ p. unit p x) (sym (add-zero place))
  unit_at place (x ∷ xs) (suc i) d e h =
      let k : place + suc i ≡ place + 1 + i = omega arith in
      rw k (unit_at (place + 1) xs i d e (omega arith))

pub units_are : (place : ℕ) (us : List CodePoint) → units_of (λ _ u. u) place us ≡ us
units_are place [] = refl
units_are place (u ∷ us) = ap (λ w. u ∷ w) (units_are (place + 1) us)

-- bytes that are units stand where their places say
pub bytes_are : (place : ℕ) (bytes : List ℕ) → units_of (λ place b. unit_record place ((place + 1) % 2 ^ 32) b kind.None) place bytes ≡ byte_units place bytes
bytes_are place [] = refl
bytes_are place (b ∷ bytes) = ap (λ us. unit_record place ((place + 1) % 2 ^ 32) b kind.None ∷ us) (bytes_are (place + 1) bytes)

module _ {Item : Type 0} (unit : ℕ → Item → CodePoint) (value : Item → ℕ) (value_is : (place : ℕ) (item : Item) → (unit place item).value ≡ value item) where
  pub units_values : (place : ℕ) (xs : List Item) → values (units_of unit place xs) ≡ values_of value xs
  units_values place [] = refl
  units_values place (x ∷ xs) = rw (value_is place x, units_values (place + 1) xs) refl

-- units by their first item, and the units after it
module _ {Item : Type 0} (unit : ℕ → Item → CodePoint) (value : Item → ℕ) (value_is : (place : ℕ) (item : Item) → (unit place item).value ≡ value item) (place : ℕ) where
  pub first_value : (xs : List Item) (us rest : List CodePoint) (x : Item) (v : ℕ) → us ≡ units_of unit place xs → 1 ≤ length xs → x ≡ get_or xs 0 x → v ≡ value x → rest ≡ drop 1 us → values us ≡ v ∷ values rest
  first_value [] us rest x v us_are some x_is v_is rest_is = absurd (omega arith)
  first_value (y ∷ xs) us rest x v us_are some x_is v_is rest_is =
      ap values us_are ∙ ap (λ u. u ∷ values (units_of unit (place + 1) xs)) (value_is place y ∙ ap value (sym x_is) ∙ sym v_is) ∙ ap (λ w. v ∷ values w) (sym (rest_is ∙ ap (drop 1) us_are))

pub one_more : (v : ℕ) (us rest : List CodePoint) → values us ≡ v ∷ values rest → length us ≡ length rest + 1
one_more v us rest e = omega (arith, ap length e, length-map us (λ u. u.value), length-map rest (λ u. u.value))

unit_none : CodePoint
unit_none = unit_record 0 0 0 kind.None

-- the offset at a place is the end of the item before it
pub end_at : {Item : Type 0} (unit : ℕ → Item → CodePoint) (first place : ℕ) (xs : List Item) (i : ℕ) (d : Item) → i < length xs
    → end_of first (take (i + 1) (units_of unit place xs)) ≡ (unit (place + i) (get_or xs i d)).span.end
end_at unit first place xs i d h =
    let within : i + 1 ≤ length (units_of unit place xs) = omega (arith, units_length unit place xs) in
    let before : i + 1 - 1 ≡ i = omega arith in
    end_of_take first (units_of unit place xs) (i + 1) unit_none (omega arith) within
    ∙ ap (λ p. (get_or (units_of unit place xs) p unit_none).span.end) before ∙ ap (λ (u : CodePoint). u.span.end) (unit_at unit place xs i d unit_none h)
