-- How many units a class has after its `[`, unit by unit, and how it goes on there.
use Rattle.std.proofs.Common.{◌≡◌, refl, ap, sym, ◌∙◌, subst, ℕ, zero, suc, ◌+◌, ◌==◌, ◌||◌, ◌&&◌, Bool, true, false, List, [], ◌∷◌, ◌++◌, length, length-append, append_assoc, arith, inl, inr}
use Rattle.std.proofs.lemmas.Bool.{and_parts, cases_Bool, eqb-true}
use Rattle.std.proofs.lemmas.List.{append-nil}
use Rattle.rx_model.specs.declared.mode.Mode.{Mode}
use Rattle.rx_model.specs.FirstPass.MarkTexts.{AreInClass, no_unit, escaped_unit, class_unit, inner_class, AreInOpenClass, all_inside, last_escape, open_inside, is_class_mark}
use Rattle.rx_model.specs.FirstPass.Marks.{class_rest}
use Rattle.rx_model.specs.Inputs.Environment.{is_sets}

none_of_three : (a b c : Bool) → (a || b || c) ≡ false → (a ≡ false) × (b ≡ false) × (c ≡ false)
none_of_three true b c h = absurd (let no : ⊥ = cc h in no)
none_of_three false true c h = absurd (let no : ⊥ = cc h in no)
none_of_three false false true h = absurd (let no : ⊥ = cc h in no)
none_of_three false false false h = (refl, refl, refl)

module _ (mode : Mode) where
  -- a unit that is no more than a unit
  pub unit_rest : (n u : ℕ) (us : List ℕ) → is_class_mark mode u ≡ false → class_rest mode false n (u ∷ us) ≡ class_rest mode false n us + 1
  unit_rest zero u us h = let p = none_of_three (u == 92) (u == 93) (u == 91 && is_sets mode) h in rw (p.0, p.1, p.2) refl
  unit_rest (suc n) u us h = let p = none_of_three (u == 92) (u == 93) (u == 91 && is_sets mode) h in rw (p.0, p.1, p.2) refl

  -- a backslash and the unit after it
  pub escaped_rest : (n u : ℕ) (us : List ℕ) → class_rest mode false n (92 ∷ u ∷ us) ≡ class_rest mode false n us + 2
  escaped_rest zero u us = omega arith
  escaped_rest (suc n) u us = omega arith

  -- the `[` of a class in it, and its `]`
  pub inside_begins : (n : ℕ) (us : List ℕ) → is_sets mode ≡ true → class_rest mode false n (91 ∷ us) ≡ class_rest mode false (suc n) us + 1
  inside_begins zero us h = rw h refl
  inside_begins (suc n) us h = rw h refl

  pub inside_ends : (n : ℕ) (us : List ℕ) → class_rest mode false (suc n) (93 ∷ us) ≡ class_rest mode false n us + 1
  inside_ends n us = refl

  -- units that do not end a class
  pub passed : (n : ℕ) (w rest : List ℕ) → AreInClass mode w → class_rest mode false n (w ++ rest) ≡ class_rest mode false n rest + length w
  passed n _ rest no_unit = omega arith
  passed n _ rest (escaped_unit c {w} a) = let e = passed n w rest a in let f = escaped_rest n c (w ++ rest) in omega (arith, e, f)
  passed n _ rest (class_unit {c} {w} h a) = let e = passed n w rest a in let f = unit_rest n c (w ++ rest) h in omega (arith, e, f)
  passed n _ rest (inner_class inside w sets a b) =
      let begins = inside_begins n (inside ++ (93 ∷ (w ++ rest))) sets in
      let within = passed (suc n) inside (93 ∷ (w ++ rest)) a in
      let ends = inside_ends n (w ++ rest) in
      let following = passed n w rest b in
      let l = length-append inside (93 ∷ w) in
      ap (λ us. class_rest mode false n (91 ∷ us)) (append_assoc inside (93 ∷ w) rest) ∙ omega (arith, begins, within, ends, following, l)

  -- a class that its `]` ends
  pub class_ends : (inside rest : List ℕ) → AreInClass mode inside → class_rest mode false 0 ((inside ++ (93 ∷ [])) ++ rest) ≡ length (inside ++ (93 ∷ []))
  class_ends inside rest a =
      let e = passed 0 inside (93 ∷ rest) a in
      let l = length-append inside (93 ∷ []) in
      ap (class_rest mode false 0) (append_assoc inside (93 ∷ []) rest) ∙ omega (arith, e, l)

  last_backslash : (n : ℕ) → class_rest mode false n (92 ∷ []) ≡ 1
  last_backslash zero = refl
  last_backslash (suc n) = refl

  -- a class that nothing ends
  pub class_held : (n : ℕ) (w : List ℕ) → AreInOpenClass mode w → class_rest mode false n w ≡ length w
  class_held n _ (all_inside {inside} a) = let e = passed n inside [] a in ap (class_rest mode false n) (sym (append-nil inside)) ∙ omega (arith, e)
  class_held n _ (last_escape inside a) =
      let e = passed n inside (92 ∷ []) a in let f = last_backslash n in let l = length-append inside (92 ∷ []) in omega (arith, e, f, l)
  class_held n _ (open_inside inside w sets a o) =
      let e = passed n inside (91 ∷ w) a in
      let f = inside_begins n w sets in
      let g = class_held (suc n) w o in
      let l = length-append inside (91 ∷ w) in
      omega (arith, e, f, g, l)

  -- How a class goes on after its `[` where n classes are open in it: it ends, or the innermost of them does, or they are open at the end of the text.
  pub data ClassFound : ℕ → List ℕ → Type 0 where
    ended : (inside rest : List ℕ) → AreInClass mode inside → ClassFound zero (inside ++ (93 ∷ rest))
    inner_ended : {n : ℕ} (inside rest : List ℕ) → AreInClass mode inside → ClassFound n rest → ClassFound (suc n) (inside ++ (93 ∷ rest))
    held : {n : ℕ} {w : List ℕ} → AreInOpenClass mode w → ClassFound n w

  -- what may stand in a class may stand before what is found
  abbrev MayStandFirst : List ℕ → Type 0
  MayStandFirst v = (w : List ℕ) → AreInClass mode w → AreInClass mode (v ++ w)

  open_before : (v w : List ℕ) → MayStandFirst v → AreInOpenClass mode w → AreInOpenClass mode (v ++ w)
  open_before v _ p (all_inside {inside} a) = all_inside (p inside a)
  open_before v _ p (last_escape inside a) = subst (AreInOpenClass mode) (append_assoc v inside (92 ∷ [])) (last_escape (v ++ inside) (p inside a))
  open_before v _ p (open_inside inside w sets a o) = subst (AreInOpenClass mode) (append_assoc v inside (91 ∷ w)) (open_inside (v ++ inside) w sets (p inside a) o)

  found_before : (n : ℕ) (v w : List ℕ) → MayStandFirst v → ClassFound n w → ClassFound n (v ++ w)
  found_before _ v _ p (ended inside rest a) = subst (ClassFound zero) (append_assoc v inside (93 ∷ rest)) (ended (v ++ inside) rest (p inside a))
  found_before _ v _ p (inner_ended {n} inside rest a f) = subst (ClassFound (suc n)) (append_assoc v inside (93 ∷ rest)) (inner_ended (v ++ inside) rest (p inside a) f)
  found_before n v _ p (held {w} o) = held (open_before v w p o)

  -- each unit in turn
  closer_found : (n : ℕ) (us : List ℕ) → ((m : ℕ) → ClassFound m us) → ClassFound n (93 ∷ us)
  closer_found zero us f = ended [] us no_unit
  closer_found (suc n) us f = inner_ended [] us no_unit (f n)

  bracket_found : (n : ℕ) (us : List ℕ) → is_sets mode ≡ true → ClassFound (suc n) us → ClassFound n (91 ∷ us)
  bracket_found _ _ sets (inner_ended {n} inside rest a f) =
      subst (λ us. ClassFound n (91 ∷ us)) (append_assoc inside (93 ∷ []) rest)
      (found_before n (91 ∷ (inside ++ (93 ∷ []))) rest (λ w b. subst (λ us. AreInClass mode (91 ∷ us)) (sym (append_assoc inside (93 ∷ []) w)) (inner_class inside w sets a b)) f)
  bracket_found n _ sets (held {w} o) = held (open_inside [] w sets no_unit o)

  none_of : (a b c : Bool) → a ≡ false → b ≡ false → c ≡ false → (a || b || c) ≡ false
  none_of a b c h k l = rw (h, k, l) refl

  abbrev pub escaping : Bool → List ℕ → List ℕ
  escaping true us = 92 ∷ us
  escaping false us = us

  pub class_found : (escaped : Bool) (n : ℕ) (us : List ℕ) → ClassFound n (escaping escaped us)
  class_found false n [] = held (all_inside no_unit)
  class_found true n [] = held (last_escape [] no_unit)
  class_found true n (c ∷ us) = found_before n (92 ∷ c ∷ []) us (λ w a. escaped_unit c a) (class_found false n us)
  class_found false n (c ∷ us) = elim (cases_Bool (c == 93)) [
    | inl h ↦ subst (λ c. ClassFound n (c ∷ us)) (sym (eqb-true c 93 h)) (closer_found n us (λ m. class_found false m us))
    | inr h ↦ elim (cases_Bool (c == 92)) [
      | inl k ↦ subst (λ c. ClassFound n (c ∷ us)) (sym (eqb-true c 92 k)) (class_found true n us)
      | inr k ↦ elim (cases_Bool (c == 91 && is_sets mode)) [
        | inl l ↦
            let p = and_parts (c == 91) (is_sets mode) l in
            subst (λ c. ClassFound n (c ∷ us)) (sym (eqb-true c 91 p.0)) (bracket_found n us p.1 (class_found false (suc n) us))
        | inr l ↦ found_before n (c ∷ []) us (λ w a. class_unit (none_of (c == 92) (c == 93) (c == 91 && is_sets mode) k h l) a) (class_found false n us)
      ]
    ]
  ]
