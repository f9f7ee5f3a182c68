-- The bits of letters of modifiers.
use Rattle.std.proofs.Common.{◌≡◌, refl, sym, ap, ap₂, ◌∙◌, subst, ℕ, ◌+◌, ◌<◌, true, false, cond, ◌==◌, ◌||◌, Some, None, List, [], ◌∷◌, ◌++◌, length, take, drop, get_or, bit_and, bit_or, arith, inl, inr}
use Rattle.rx_parser.proofs.Common.{nat_tests, is_modifier, occurs, has_twice, letters_bits, are_bits, and_three, or_three, three, chosen}
use Rattle.std.proofs.lemmas.Bool.{and_parts, cases_Bool, eqb-true, cond-true, cond-false, or_parts, or_from, or_left, or_right, or_cases, eq-eqb, false_from_ne_true, true≢false}
use Rattle.std.proofs.lemmas.List.{drop_more, length-drop, take-append-drop, take_more}
use Rattle.std.proofs.lemmas.List.Folds.{list_all-append, list_any-append}
use Rattle.std.proofs.lemmas.Nat.{and_comm}
use Rattle.std.specs.List.{list_all}
use Rattle.rx_parser.specs.Modifiers.{modifier_bit}

-- What holds of each letter and its bit.
by_letter : (P : ℕ → ℕ → Type 0) (c bit : ℕ) → P 105 1 → P 109 2 → P 115 4 → modifier_bit c ≡ Some bit → P c bit
by_letter P c bit i m s h = elim (chosen {x = Some 1} (c == 105) h) [
  | inl p ↦ at 105 1 p.0 p.1 i
  | inr p ↦ elim (chosen {x = Some 2} (c == 109) p.1) [
    | inl q ↦ at 109 2 q.0 q.1 m
    | inr q ↦ elim (chosen {x = Some 4} {y = None} (c == 115) q.1) [
      | inl r ↦ at 115 4 r.0 r.1 s
      | inr r ↦ absurd (let no : ⊥ = cc r.1 in no)
    ]
  ]
]
  where
    at : (d n : ℕ) → (c == d) ≡ true → Some n ≡ Some bit → P d n → P c bit
    at d n same is p = subst (P c) (let k : n ≡ bit = cc is in k) (subst (λ c. P c n) (sym (eqb-true c d same)) p)

-- one more letter
occurs_more : (d c : ℕ) (w : List ℕ) → occurs d (w ++ (c ∷ [])) ≡ (occurs d w || ((c == d) || false))
occurs_more d c w = list_any-append (λ x. x == d) w (c ∷ [])

bits_more : (c : ℕ) (w : List ℕ) → letters_bits (w ++ (c ∷ [])) ≡ three (occurs 105 w || ((c == 105) || false)) (occurs 109 w || ((c == 109) || false)) (occurs 115 w || ((c == 115) || false))
bits_more c w =
    ap (λ i. three i (occurs 109 (w ++ (c ∷ []))) (occurs 115 (w ++ (c ∷ [])))) (occurs_more 105 c w)
    ∙ ap₂ (three (occurs 105 w || ((c == 105) || false))) (occurs_more 109 c w) (occurs_more 115 c w)

-- The bit of a letter is set after it.
bit_inserted : (c bit : ℕ) (w : List ℕ) → modifier_bit c ≡ Some bit → bit_or (letters_bits w) bit ≡ letters_bits (w ++ (c ∷ []))
bit_inserted c bit w h =
    by_letter (λ c bit. bit_or (letters_bits w) bit ≡ letters_bits (w ++ (c ∷ []))) c bit
    (or_three (occurs 105 w) (occurs 109 w) (occurs 115 w) true false false ∙ sym (bits_more 105 w))
    (or_three (occurs 105 w) (occurs 109 w) (occurs 115 w) false true false ∙ sym (bits_more 109 w))
    (or_three (occurs 105 w) (occurs 109 w) (occurs 115 w) false false true ∙ sym (bits_more 115 w))
    h

-- the bit of a letter is set where the letter occurs
bit_contained : (c bit : ℕ) (w : List ℕ) → modifier_bit c ≡ Some bit → bit_and (letters_bits w) bit ≡ cond (occurs c w) bit 0
bit_contained c bit w h =
    by_letter (λ c bit. bit_and (letters_bits w) bit ≡ cond (occurs c w) bit 0) c bit
    (and_comm (letters_bits w) 1 ∙ and_three true false false (occurs 105 w) (occurs 109 w) (occurs 115 w) ∙ omega arith)
    (and_comm (letters_bits w) 2 ∙ and_three false true false (occurs 105 w) (occurs 109 w) (occurs 115 w) ∙ omega arith)
    (and_comm (letters_bits w) 4 ∙ and_three false false true (occurs 105 w) (occurs 109 w) (occurs 115 w) ∙ omega arith)
    h

bit_some : (c bit : ℕ) → modifier_bit c ≡ Some bit → 0 < bit
bit_some c bit h = by_letter (λ c bit. 0 < bit) c bit (omega arith) (omega arith) (omega arith) h

occurs_there : (c bit : ℕ) (w : List ℕ) → modifier_bit c ≡ Some bit → bit_and (letters_bits w) bit ≡ bit → occurs c w ≡ true
occurs_there c bit w h k = elim (cases_Bool (occurs c w)) [
  | inl there ↦ there
  | inr none ↦
      let zero : bit_and (letters_bits w) bit ≡ 0 = bit_contained c bit w h ∙ cond-false (occurs c w) bit 0 none in
      absurd (omega (arith, zero, k, bit_some c bit h))
]

occurs_nowhere : (c bit : ℕ) (w : List ℕ) → modifier_bit c ≡ Some bit → (bit_and (letters_bits w) bit ≡ bit → ⊥) → occurs c w ≡ false
occurs_nowhere c bit w h not = false_from_ne_true (occurs c w) (λ there. not (bit_contained c bit w h ∙ cond-true (occurs c w) bit 0 there))

bit_none : (c : ℕ) → is_modifier c ≡ true → modifier_bit c ≡ None → ⊥
bit_none c h k = grind (arith, nat_tests)

same_turned : (c d : ℕ) → (c == d) ≡ false → (d == c) ≡ false
same_turned c d h = false_from_ne_true (d == c) (λ same. true≢false (sym (eq-eqb c d (sym (eqb-true d c same))) ∙ h))

-- A letter that occurs before is there twice.
twice_there : (c : ℕ) (w v : List ℕ) → occurs c w ≡ true → has_twice (w ++ (c ∷ v)) ≡ true
twice_there c [] v h = absurd (true≢false (sym h))
twice_there c (d ∷ w) v h = elim (or_cases (d == c) (occurs c w) h) [
  | inl same ↦ or_left (occurs d (w ++ (c ∷ v))) (has_twice (w ++ (c ∷ v)))
      (list_any-append (λ x. x == d) w (c ∷ v) ∙ or_right (occurs d w) ((c == d) || occurs d v) (or_left (c == d) (occurs d v) (eq-eqb c d (sym (eqb-true d c same)))))
  | inr there ↦ or_right (occurs d (w ++ (c ∷ v))) (has_twice (w ++ (c ∷ v))) (twice_there c w v there)
]

-- A letter that does not occur before is there once.
once_more : (c : ℕ) (w : List ℕ) → has_twice w ≡ false → occurs c w ≡ false → has_twice (w ++ (c ∷ [])) ≡ false
once_more c [] h k = refl
once_more c (d ∷ w) h k =
    let twice = or_parts (occurs d w) (has_twice w) h in
    let other = or_parts (d == c) (occurs c w) k in
    or_from (occurs d (w ++ (c ∷ []))) (has_twice (w ++ (c ∷ [])))
    (occurs_more d c w ∙ or_from (occurs d w) ((c == d) || false) twice.0 (or_from (c == d) false (same_turned d c other.0) refl))
    (once_more c w twice.1 other.1)

module _ (w : List ℕ) (i : ℕ) {letter : ℕ} (here : drop i w ≡ letter ∷ drop (i + 1) w) where
  parted : w ≡ take i w ++ (letter ∷ drop (i + 1) w)
  parted = sym (take-append-drop i w) ∙ ap (λ v. take i w ++ v) here

  -- one more letter
  letters_more : take (i + 1) w ≡ take i w ++ (letter ∷ [])
  letters_more =
      let within : i < length w = omega (arith, ap length here, length-drop i w) in
      let at = sym (drop_more w i 0 within) ∙ here in
      let same : get_or w i 0 ≡ letter = cc at in
      take_more w i 0 within ∙ ap (λ c. take i w ++ (c ∷ [])) same

  letter_is : list_all is_modifier w ≡ true → is_modifier letter ≡ true
  letter_is h = (and_parts _ _ (and_parts _ _ (sym (list_all-append is_modifier (take i w) _) ∙ ap (list_all is_modifier) (sym parted) ∙ h)).1).0

  -- a letter has a bit
  pub some_bit : list_all is_modifier w ≡ true → None ≡ modifier_bit letter → ⊥
  some_bit h k = bit_none letter (letter_is h) (sym k)

  -- a letter whose bit is set already
  pub no_bits_twice : (bit : ℕ) → Some bit ≡ modifier_bit letter → bit_and (letters_bits (take i w)) bit ≡ bit → None ≡ are_bits w
  no_bits_twice bit h k =
      sym (cond-true (has_twice w) None (Some (letters_bits w)) (ap has_twice parted ∙ twice_there letter (take i w) (drop (i + 1) w) (occurs_there letter bit (take i w) (sym h) k)))

  pub once_next : (bit : ℕ) → Some bit ≡ modifier_bit letter → (bit_and (letters_bits (take i w)) bit ≡ bit → ⊥) → has_twice (take i w) ≡ false → has_twice (take (i + 1) w) ≡ false
  once_next bit h k once = ap has_twice letters_more ∙ once_more letter (take i w) once (occurs_nowhere letter bit (take i w) (sym h) k)

  pub bits_next : (bit : ℕ) → Some bit ≡ modifier_bit letter → bit_or (letters_bits (take i w)) bit ≡ letters_bits (take (i + 1) w)
  bits_next bit h = bit_inserted letter bit (take i w) (sym h) ∙ ap letters_bits (sym letters_more)
