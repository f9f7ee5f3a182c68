-- Steps of the loop that reads a name, and what is left of a text at a place.
use Rattle.std.proofs.Common.{◌≡◌, refl, ap, sym, ◌∙◌, ℕ, ◌+◌, ◌<◌, ◌≤◌, true, false, cond, ◌==◌, Some, None, List, [], ◌∷◌, ◌++◌, map, take, drop, get_or, append_assoc, append-nil, length, length-drop, arith}
use Rattle.std.proofs.Math.Bool.{and-true}
use Rattle.std.proofs.Math.Seq.{drop-length}
use Rattle.std.proofs.lemmas.List.{at_drop_more, drop-map, length-map, map_more, take-map}
use Rattle.rx_units.specs.declared.code_point.CodePoint.{CodePoint}
use Rattle.rx_units.specs.Cursor.{begins}
use Rattle.rx_units.specs.Stored.{values_of}
use Rattle.rx_units.specs.Units.{values}
use Rattle.rx_model.specs.FirstPass.Marks.{before_close, has_close, starts}
use Rattle.rx_scan.specs.MarkReading.{closed_part}

-- A loop has taken a step in each of so many turns.
abbrev pub HasStepped : ℕ → ℕ → ℕ → Type 0
HasStepped old new turns = new ≡ old + turns

module _ {Item : Type 0} (value : Item → ℕ) where
  -- what is left at a place begins with the item there
  pub value_at : {vs : List ℕ} {u : ℕ} (xs : List Item) (i : ℕ) (d : Item) → vs ≡ values_of value xs → i < length xs → u ≡ value (get_or xs i d) → drop i vs ≡ u ∷ drop (i + 1) vs
  value_at xs i d e h is =
      rw (e, is) (drop-map value i xs ∙ at_drop_more (map value) xs i d h ∙ ap (λ us. value (get_or xs i d) ∷ us) (sym (drop-map value (i + 1) xs)))

  -- before the place no `>` stands
  pub Passed : List Item → ℕ → Type 0
  Passed xs i =
      (before_close (map value xs) ≡ map value (take i xs) ++ before_close (map value (drop i xs))) × (has_close (map value xs) ≡ has_close (map value (drop i xs)))

  pub passed_none : (xs : List Item) → Passed xs 0
  unfolding Passed
  passed_none xs = (refl, refl)

  pub passed_more : (xs : List Item) (i : ℕ) (d : Item) → i < length xs → (value (get_or xs i d) == 62) ≡ false → Passed xs i → Passed xs (i + 1)
  unfolding Passed
  passed_more xs i d h n p =
      let e = at_drop_more (map value) xs i d h in
      let u = value (get_or xs i d) in let rest = map value (drop (i + 1) xs) in
      let b : before_close (map value (drop i xs)) ≡ u ∷ before_close rest = ap before_close e ∙ ap (λ b. cond b [] (u ∷ before_close rest)) n in
      let c : has_close (map value (drop i xs)) ≡ has_close rest = ap has_close e ∙ ap (λ b. cond b true (has_close rest)) n in
      let t : map value (take (i + 1) xs) ≡ map value (take i xs) ++ (u ∷ []) = map_more value xs i d h in
      (p.0 ∙ ap (λ z. map value (take i xs) ++ z) b ∙ sym (append_assoc (map value (take i xs)) (u ∷ []) (before_close rest)) ∙ ap (λ z. z ++ before_close rest) (sym t), p.1 ∙ c)

  pub closed_found : {us front : List ℕ} (xs : List Item) (i : ℕ) (d : Item) → us ≡ values_of value xs → front ≡ take i us → i < length xs → value (get_or xs i d) ≡ 62 → Passed xs i → Some front ≡ closed_part us
  unfolding Passed
  closed_found xs i d us_are front_is h n p =
      let e : map value (drop i xs) ≡ 62 ∷ map value (drop (i + 1) xs) = at_drop_more (map value) xs i d h ∙ ap (λ u. u ∷ map value (drop (i + 1) xs)) n in
      let b : before_close (map value xs) ≡ map value (take i xs) = p.0 ∙ ap (λ z. map value (take i xs) ++ before_close z) e ∙ append-nil (map value (take i xs)) in
      let c : has_close (map value xs) ≡ true = p.1 ∙ ap has_close e in
      rw (front_is, us_are, c, b, take-map value i xs) refl

  pub closed_none : {us : List ℕ} (xs : List Item) → us ≡ values_of value xs → Passed xs (length xs) → None ≡ closed_part us
  unfolding Passed
  closed_none xs us_are p = let c : has_close (map value xs) ≡ false = p.1 ∙ ap has_close (ap (map value) (drop-length xs)) in rw (us_are, c) refl

pub values_length : (us : List CodePoint) → length (values us) ≡ length us
values_length us = length-map us (λ u. u.value)

pub values_drop : (n : ℕ) (us : List CodePoint) → values (drop n us) ≡ drop n (values us)
values_drop n us = sym (drop-map (λ u. u.value) n us)

-- how many units there are, where one stands at a place
pub units_left : (place : ℕ) (us vs : List CodePoint) (u : ℕ) → drop place (values us) ≡ u ∷ values vs → length us ≡ place + (length vs + 1)
units_left place us vs u e = omega (arith, ap length e, length-drop place (values us), values_length us, values_length vs)

-- a character that does not stand first
pub starts_not : (c : ℕ) (us : List CodePoint) → begins (c ∷ []) us ≡ false → starts c (values us) ≡ false
starts_not c [] h = refl
starts_not c (u ∷ us) h = sym (and-true (u.value == c)) ∙ h

-- A loop that takes a step for each unit before its place: at the end, before it, and after a mark that begins there.
module _ (us : List CodePoint) (old new place : ℕ) (turns : HasStepped old new place) where
  pub stepped_all : drop place (values us) ≡ [] → place ≤ length us → new ≡ old + length us
  stepped_all none within = omega (arith, turns, within, ap length none, length-drop place (values us), values_length us)

  pub stepped_within : place ≤ length us → new ≤ old + length us
  stepped_within within = omega (arith, turns, within)

  pub stepped_over : (following : List CodePoint) (u ticked more last : ℕ) → drop place (values us) ≡ u ∷ values following → more ≤ length following → ticked ≡ new + 1 → last ≡ ticked + more → last ≤ old + length us
  stepped_over following u ticked more last here within tick steps = omega (arith, turns, within, tick, steps, units_left place us following u here)
