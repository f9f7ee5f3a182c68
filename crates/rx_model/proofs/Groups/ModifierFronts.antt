-- What is read of modifiers after `(?` stands there.
use Rattle.std.proofs.Common.{◌≡◌, ◌≢◌, refl, sym, ap, ap₂, ◌∙◌, subst, ℕ, suc, ◌+◌, Bool, true, false, not, ◌==◌, ◌&&◌, ◌||◌, ◌⊎◌, cond, Option, Some, None, List, [], ◌∷◌, ◌++◌, length, take, drop, bit_and, arith, inl, inr}
use Rattle.std.proofs.Math.Seq.{drop-drop, drop-append_seam, take-append_seam, take-add}
use Rattle.std.proofs.lemmas.Bool.{cases_Bool, cond-true, cond-false, cond_both, eqb-true, eq-eqb, or_from, or_left, or_right, and_from, and_parts, not_from_false, true≢false}
use Rattle.std.proofs.lemmas.List.Folds.{list_any-append}
use Rattle.rx_model.specs.FirstPass.Marks.{starts}
use Rattle.rx_model.specs.Groups.GroupFronts.{letters_at, SidesRead, sides, sides_at, modified_group}
use Rattle.rx_model.specs.Groups.Groups.{is_mark}
use Rattle.rx_model.specs.Groups.ModifierFronts.{ModifiersHalt, no_colon, letter_twice, no_letter, letter_shared, ModifiersRead, modifiers_read, no_modifiers_read, are_bits, read_bits, read_sides, modifiers_read_at}
use Rattle.rx_model.specs.Groups.Modifiers.{is_modifier, occurs, has_twice, share_some, letters_bits, AreSides, one_side, two_sides}
use Rattle.rx_model.specs.Refusals.Causes.{LeadNowhere}
use Rattle.rx_model.specs.Trees.Token.{Opener, ignoring}
use Rattle.rx_model.proofs.Groups.ModifierBits.{no_letters, share}
use Rattle.rx_model.proofs.Groups.Modifiers.{SidesFront, sides_spelled, sides_letters}
use Rattle.rx_model.proofs.Reading.Splits.{starts_there}
use Rattle.rx_units.specs.Digits.{front_is}
use Rattle.rx_units.proofs.Choices.{chosen}

-- After `(?` stand modifiers of n units, which are wrong in this way.
pub data AreWrong : List ℕ → ℕ → ModifiersHalt → Type 0 where
  unknown : (text following : List ℕ) → LeadNowhere text following → AreWrong (text ++ following) (length text) no_colon
  duplicated : {enabled disabled : List ℕ} (text following : List ℕ) → AreSides enabled disabled text → (has_twice enabled || has_twice disabled) ≡ true
      → AreWrong (text ++ (58 ∷ following)) (length text) letter_twice
  empty : {following : List ℕ} → AreWrong (45 ∷ 58 ∷ following) 1 no_letter
  invalid : {enabled disabled : List ℕ} (text following : List ℕ) → AreSides enabled disabled text → (has_twice enabled || has_twice disabled) ≡ false → share_some enabled disabled ≡ true
      → AreWrong (text ++ (58 ∷ following)) (length text) letter_shared

-- A reading of modifiers, by the group that they begin.
abbrev pub SaysModifiers : List ℕ → Option (Opener × ℕ) → ModifiersRead → Type 0
SaysModifiers all o (modifiers_read a b n) = (o ≡ Some (ignoring (Some (a, b)), n + 3)) × (bit_and a b ≡ 0) × (a + b ≢ 0)
SaysModifiers all o (no_modifiers_read it n) = AreWrong all n it

-- No letter stands after the letters at the front.
letters_end : (w : List ℕ) → front_is is_modifier (drop (letters_at w) w) ≡ false
letters_end [] = refl
letters_end (c ∷ w) = elim (cases_Bool (is_modifier c)) [
  | inl h ↦ ap (λ n. front_is is_modifier (drop n (c ∷ w))) (cond-true (is_modifier c) _ _ h) ∙ letters_end w
  | inr h ↦ ap (λ n. front_is is_modifier (drop n (c ∷ w))) (cond-false (is_modifier c) _ _ h) ∙ h
]

dash_there : (k j : ℕ) (all : List ℕ) → starts 45 (drop k all) ≡ true → occurs 45 (take (k + suc j) all) ≡ true
dash_there k j all h =
    let s = starts_there 45 (drop k all) h in
    ap (occurs 45) (take-add k (suc j) all ∙ ap (λ w. take k all ++ take (suc j) w) s.1)
    ∙ list_any-append (λ x. x == 45) (take k all) (45 ∷ take j s.0)
    ∙ or_right (occurs 45 (take k all)) true refl

-- What does not stand after the modifiers that are read.
record SidesEnd (n : ℕ) (all : List ℕ) : Type 0 where
  no_letter : front_is is_modifier (drop n all) ≡ false
  no_dash : starts 45 (drop n all) ≡ true → occurs 45 (take n all) ≡ true

sides_end : (all w v : List ℕ) (n : ℕ) → sides_at all ≡ sides w v n → SidesEnd n all
sides_end all w v n h =
    let k = letters_at all in
    let following = drop (k + 1) all in
    elim (chosen (starts 45 (drop k all)) h) [
      | inl p ↦
          let count : k + 1 + letters_at following ≡ n = cc p.1 in record {
            no_letter = ap (λ n. front_is is_modifier (drop n all)) (sym count) ∙ ap (front_is is_modifier) (sym (drop-drop (letters_at following) (k + 1) all)) ∙ letters_end following;
            no_dash = λ _. ap (λ n. occurs 45 (take n all)) (let same : n ≡ k + suc (letters_at following) = omega (arith, count) in same) ∙ dash_there k (letters_at following) all p.0;
          }
      | inr p ↦
          let count : k ≡ n = cc p.1 in record {
            no_letter = ap (λ n. front_is is_modifier (drop n all)) (sym count) ∙ letters_end all;
            no_dash = λ dash. absurd (true≢false (sym dash ∙ ap (λ n. starts 45 (drop n all)) (sym count) ∙ p.0));
          }
    ]

-- Sides without a letter are a `-`, or nothing.
dash_alone : (text : List ℕ) → AreSides [] [] text → (text ≡ []) ⊎ (text ≡ 45 ∷ [])
dash_alone text s = go [] [] text s refl refl
  where
    go : (w v text : List ℕ) → AreSides w v text → w ≡ [] → v ≡ [] → (text ≡ []) ⊎ (text ≡ 45 ∷ [])
    go w _ _ (one_side h) e f = inl e
    go _ _ _ (two_sides w v h k) e f = inr (ap₂ (λ w v. w ++ (45 ∷ v)) e f)

module _ (all : List ℕ) (other : front_is is_mark all ≡ false) (w v : List ℕ) (n : ℕ) (read : sides_at all ≡ sides w v n) where
  at_front : SidesFront w v n all
  at_front = sides_spelled all w v n read

  after : drop n all ≡ at_front.rest
  after = ap (drop n) at_front.whole ∙ ap (λ n. drop n (at_front.text ++ at_front.rest)) (sym at_front.count) ∙ drop-append_seam at_front.text at_front.rest

  before : take n all ≡ at_front.text
  before = ap (take n) at_front.whole ∙ ap (λ n. take n (at_front.text ++ at_front.rest)) (sym at_front.count) ∙ take-append_seam at_front.text at_front.rest

  wrong_of : (it : ModifiersHalt) → AreWrong (at_front.text ++ at_front.rest) (length at_front.text) it → AreWrong all n it
  wrong_of it f = subst (λ w. AreWrong w n it) (sym at_front.whole) (subst (λ n. AreWrong (at_front.text ++ at_front.rest) n it) at_front.count f)

  -- no `:` stands after them
  unknown_there : starts 58 (drop n all) ≡ false → AreWrong all n no_colon
  unknown_there none =
      let end = sides_end all w v n read in
      wrong_of no_colon (unknown at_front.text at_front.rest (record {
        enabled = w;
        disabled = v;
        sides = at_front.spelled;
        no_letter = ap (front_is is_modifier) (sym after) ∙ end.no_letter;
        no_dash = λ dash. ap (occurs 45) (sym before) ∙ end.no_dash (ap (starts 45) after ∙ dash);
        no_colon = ap (starts 58) (sym after) ∙ none;
        no_mark = λ empty. ap (front_is is_mark) (ap (λ w. w ++ at_front.rest) (sym empty) ∙ sym at_front.whole) ∙ other;
      }))

  module _ (there : starts 58 (drop n all) ≡ true) where
    closed : (following : List ℕ) × (at_front.rest ≡ 58 ∷ following)
    closed = starts_there 58 at_front.rest (ap (starts 58) (sym after) ∙ there)

    closed_wrong : (it : ModifiersHalt) → AreWrong (at_front.text ++ (58 ∷ closed.0)) (length at_front.text) it → AreWrong all n it
    closed_wrong it f = wrong_of it (subst (λ rest. AreWrong (at_front.text ++ rest) (length at_front.text) it) (sym closed.1) f)

    twice_there : (has_twice w || has_twice v) ≡ true → AreWrong all n letter_twice
    twice_there twice = closed_wrong letter_twice (duplicated at_front.text closed.0 at_front.spelled twice)

    empty_there : letters_bits w ≡ 0 → letters_bits v ≡ 0 → AreWrong all n no_letter
    empty_there none_enabled none_disabled =
        let letters = sides_letters w v at_front.text at_front.spelled in
        let s = subst (λ v. AreSides [] v at_front.text) (no_letters v letters.1 none_disabled) (subst (λ w. AreSides w v at_front.text) (no_letters w letters.0 none_enabled) at_front.spelled) in
        elim (dash_alone at_front.text s) [
          | inl none ↦ absurd (true≢false (sym (ap (front_is is_mark) (at_front.whole ∙ ap₂ (λ a b. a ++ b) none closed.1)) ∙ other))
          | inr dash ↦ closed_wrong no_letter (subst (λ text. AreWrong (text ++ (58 ∷ closed.0)) (length text) no_letter) (sym dash) empty)
        ]

    abbrev Says : ModifiersRead → Type 0
    Says = SaysModifiers all (modified_group (sides w v n) all)

    both_said : (has_twice w || has_twice v) ≡ false → Says (read_bits (Some (letters_bits w)) (Some (letters_bits v)) n)
    both_said once =
        let a = letters_bits w in
        let b = letters_bits v in
        let rest : ModifiersRead = cond (bit_and a b == 0) (modifiers_read a b n) (no_modifiers_read letter_shared n) in
        cond_both (a == 0 && b == 0) (no_modifiers_read no_letter n) rest Says
        (λ none. let p = and_parts (a == 0) (b == 0) none in empty_there (eqb-true a 0 p.0) (eqb-true b 0 p.1))
        (λ some. cond_both (bit_and a b == 0) (modifiers_read a b n) (no_modifiers_read letter_shared n) Says
        (λ apart. (
          cond-true (starts 58 (drop n all) && not (has_twice w || has_twice v)) _ _
              (and_from (starts 58 (drop n all)) (not (has_twice w || has_twice v)) there (not_from_false (has_twice w || has_twice v) once)),
          eqb-true (bit_and a b) 0 apart,
          λ none. true≢false (sym (and_from (a == 0) (b == 0) (eq-eqb a 0 (omega (arith, none))) (eq-eqb b 0 (omega (arith, none)))) ∙ some),
        ))
        (λ common. closed_wrong letter_shared (invalid at_front.text closed.0 at_front.spelled once (share w v (λ none. true≢false (sym (eq-eqb (bit_and a b) 0 none) ∙ common))))))

    bits_said : (t s : Bool) → has_twice w ≡ t → has_twice v ≡ s → Says (read_bits (cond t None (Some (letters_bits w))) (cond s None (Some (letters_bits v))) n)
    bits_said true s e f = twice_there (or_left (has_twice w) (has_twice v) e)
    bits_said false true e f = twice_there (or_right (has_twice w) (has_twice v) f)
    bits_said false false e f = both_said (or_from (has_twice w) (has_twice v) e f)

-- What is read of modifiers holds.
pub modifiers_said : (all : List ℕ) → front_is is_mark all ≡ false → SaysModifiers all (modified_group (sides_at all) all) (modifiers_read_at all)
modifiers_said all other = go (sides_at all) refl
  where
    go : (r : SidesRead) → sides_at all ≡ r → SaysModifiers all (modified_group r all) (read_sides r all)
    go (sides w v n) e =
        cond_both (starts 58 (drop n all)) (read_bits (are_bits w) (are_bits v) n) (no_modifiers_read no_colon n) (SaysModifiers all (modified_group (sides w v n) all))
        (λ there. bits_said all other w v n e there (has_twice w) (has_twice v) refl refl) (λ none. unknown_there all other w v n e none)
