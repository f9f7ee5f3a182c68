-- The modifiers of a group: what is spelled is read, and what is read is spelled.
use Rattle.std.proofs.Common.{◌≡◌, ◌≢◌, ℕ, suc, ◌+◌, ◌==◌, Bool, true, false, not, ◌&&◌, ◌||◌, List, [], ◌∷◌, ◌++◌, take, drop, length, Some, refl, sym, ap, ap₂, ◌∙◌, subst, arith, inl, inr, append_assoc, length-append}
use Rattle.std.proofs.Math.Seq.{drop-append_seam, drop-append-add, take-append_seam}
use Rattle.std.proofs.lemmas.Bool.{cond-true, cond-false, and_from, or_left, cases_Bool, not-true, true≢false}
use Rattle.std.proofs.lemmas.Bool.Decides.{nat_tests}
use Rattle.std.specs.List.{list_all}
use Rattle.rx_model.specs.Groups.GroupFronts.{letters_at, SidesRead, sides, second_side, sides_at, modified_group}
use Rattle.rx_model.specs.Groups.Groups.{is_mark}
use Rattle.rx_model.specs.FirstPass.Marks.{starts}
use Rattle.rx_model.specs.Groups.Modifiers.{is_modifier, has_twice, letters_bits, AreSides, one_side, two_sides, SpellsModifiers}
use Rattle.rx_model.specs.Trees.Token.{Opener, ignoring}
use Rattle.rx_model.proofs.Reading.Splits.{starts_there}
use Rattle.rx_units.specs.Digits.{front_is}
use Rattle.rx_units.proofs.Choices.{chosen, both}

-- letters are read to their end
pub letters_read : (w rest : List ℕ) → list_all is_modifier w ≡ true → front_is is_modifier rest ≡ false → letters_at (w ++ rest) ≡ length w
letters_read [] [] h k = refl
letters_read [] (c ∷ rest) h k = cond-false (is_modifier c) _ _ k
letters_read (c ∷ w) rest h k =
    let p = both (is_modifier c) (list_all is_modifier w) h in
    cond-true (is_modifier c) _ _ p.0 ∙ ap suc (letters_read w rest p.1 k)

take_front : (w rest : List ℕ) (n : ℕ) → n ≡ length w → take n (w ++ rest) ≡ w
take_front w rest n e = ap (λ n. take n (w ++ rest)) e ∙ take-append_seam w rest

drop_front : (w rest : List ℕ) (n : ℕ) → n ≡ length w → drop n (w ++ rest) ≡ rest
drop_front w rest n e = ap (λ n. drop n (w ++ rest)) e ∙ drop-append_seam w rest

one_side_read : (w rest : List ℕ) → list_all is_modifier w ≡ true → sides_at (w ++ (58 ∷ rest)) ≡ sides w [] (length w)
one_side_read w rest h = rw (letters_read w (58 ∷ rest) h refl, drop-append_seam w (58 ∷ rest), take-append_seam w (58 ∷ rest)) refl

two_sides_read : (w v rest : List ℕ) → list_all is_modifier w ≡ true → list_all is_modifier v ≡ true →
    sides_at (w ++ (45 ∷ (v ++ (58 ∷ rest)))) ≡ sides w v (length (w ++ (45 ∷ v)))
two_sides_read w v rest h k =
    let back : List ℕ = 45 ∷ (v ++ (58 ∷ rest)) in
    rw (letters_read w back h refl, drop-append_seam w back, drop-append-add w back 1, letters_read v (58 ∷ rest) k refl, take-append_seam w back, take-append_seam v (58 ∷ rest))
    (ap (sides w v) (omega (arith, length-append w (45 ∷ v))))

-- spelled → read
pub sides_read : (w v text rest : List ℕ) → AreSides w v text → sides_at (text ++ (58 ∷ rest)) ≡ sides w v (length text)
sides_read w _ _ rest (one_side h) = one_side_read w rest h
sides_read _ _ _ rest (two_sides w v h k) = ap sides_at (append_assoc w (45 ∷ v) (58 ∷ rest)) ∙ two_sides_read w v rest h k

pub modified_read : (enabling disabling : ℕ) (text rest : List ℕ) → SpellsModifiers enabling disabling text →
    modified_group (sides_at (text ++ (58 ∷ rest))) (text ++ (58 ∷ rest)) ≡ Some (ignoring (Some (enabling, disabling)), length text + 3)
modified_read enabling disabling text rest s =
    ap (λ r. modified_group r (text ++ (58 ∷ rest))) (sides_read s.enabled s.disabled text rest s.sides)
    ∙ rw (drop-append_seam text (58 ∷ rest), s.once) refl
    ∙ ap₂ (λ a b. Some (ignoring (Some (a, b)), length text + 3)) (sym s.enabling_is) (sym s.disabling_is)

-- a letter, or the `-`
abbrev pub begins_modifiers : ℕ → Bool
begins_modifiers c = is_modifier c || c == 45

pub modifiers_begin : (w v text : List ℕ) → AreSides w v text → text ≢ [] → front_is begins_modifiers text ≡ true
modifiers_begin [] _ _ (one_side h) some = absurd (some refl)
modifiers_begin (c ∷ w) _ _ (one_side h) some = or_left (is_modifier c) (c == 45) (both (is_modifier c) (list_all is_modifier w) h).0
modifiers_begin _ _ _ (two_sides [] v h k) some = refl
modifiers_begin _ _ _ (two_sides (c ∷ w) v h k) some = or_left (is_modifier c) (c == 45) (both (is_modifier c) (list_all is_modifier w) h).0

pub not_mark : (c : ℕ) → begins_modifiers c ≡ true → is_mark c ≡ false
not_mark c h = grind (arith, nat_tests)

-- Modifiers begin with none of : = ! <
pub no_mark : (enabling disabling : ℕ) (text : List ℕ) → SpellsModifiers enabling disabling text → (c : ℕ) × (w : List ℕ) × (text ≡ c ∷ w) × (is_mark c ≡ false)
no_mark enabling disabling [] s = absurd (s.some refl)
no_mark enabling disabling (c ∷ w) s = (c, w, refl, not_mark c (modifiers_begin s.enabled s.disabled (c ∷ w) s.sides s.some))

-- the letters at the front
record Letters (w : List ℕ) : Type 0 where
  run : List ℕ
  rest : List ℕ
  all : list_all is_modifier run ≡ true
  whole : w ≡ run ++ rest
  count : letters_at w ≡ length run

letters_there : (w : List ℕ) → Letters w
letters_there [] = record { run = []; rest = []; all = refl; whole = refl; count = refl }
letters_there (c ∷ w) = elim (cases_Bool (is_modifier c)) [
  | inl h ↦ let r = letters_there w in record {
    run = c ∷ r.run;
    rest = r.rest;
    all = and_from (is_modifier c) (list_all is_modifier r.run) h r.all;
    whole = ap (λ w. c ∷ w) r.whole;
    count = cond-true (is_modifier c) _ _ h ∙ ap suc r.count;
  }
  | inr h ↦ record { run = []; rest = c ∷ w; all = refl; whole = refl; count = cond-false (is_modifier c) _ _ h }
]

-- modifiers that stand at the front
pub record SidesFront (w v : List ℕ) (n : ℕ) (all : List ℕ) : Type 0 where
  pub text : List ℕ
  pub rest : List ℕ
  pub spelled : AreSides w v text
  pub whole : all ≡ text ++ rest
  pub count : length text ≡ n

second_is : (all run back : List ℕ) (n : ℕ) → all ≡ run ++ (45 ∷ back) → n ≡ length run → (r : Letters back) →
    second_side all n (drop (n + 1) all) ≡ sides run r.run (length (run ++ (45 ∷ r.run)))
second_is all run back n e l r =
    let whole : List ℕ = run ++ (45 ∷ back) in
    ap (λ all. second_side all n (drop (n + 1) all)) e
    ∙ ap (λ n. second_side whole n (drop (n + 1) whole)) l
    ∙ ap₂ (λ w v. sides w (take (letters_at v) v) (length run + 1 + letters_at v)) (take-append_seam run (45 ∷ back)) (drop-append-add run (45 ∷ back) 1)
    ∙ ap (λ k. sides run (take k back) (length run + 1 + k)) r.count
    ∙ ap₂ (sides run) (ap (take (length r.run)) r.whole ∙ take-append_seam r.run r.rest) (omega (arith, length-append run (45 ∷ r.run)))

sides_of : {w x v y : List ℕ} {n m : ℕ} (text rest : List ℕ) → AreSides w v text → length text ≡ n → sides w v n ≡ sides x y m → SidesFront x y m (text ++ rest)
sides_of {w} {x} {v} {y} {n} {m} text rest s l h =
    let same : w ≡ x = cc h in
    let equal : v ≡ y = cc h in
    record {
      text = text;
      rest = rest;
      spelled = subst (λ w. AreSides w y text) same (subst (λ v. AreSides w v text) equal s);
      whole = refl;
      count = l ∙ (let k : n ≡ m = cc h in k);
    }

-- read → spelled
pub sides_spelled : (all w v : List ℕ) (n : ℕ) → sides_at all ≡ sides w v n → SidesFront w v n all
sides_spelled all w v n h =
    let r = letters_there all in
    let after : drop (letters_at all) all ≡ r.rest = ap (drop (letters_at all)) r.whole ∙ drop_front r.run r.rest (letters_at all) r.count in
    let before : take (letters_at all) all ≡ r.run = ap (take (letters_at all)) r.whole ∙ take_front r.run r.rest (letters_at all) r.count in
    elim (chosen (starts 45 (drop (letters_at all) all)) h) [
      | inl p ↦
          let s = starts_there 45 r.rest (ap (starts 45) (sym after) ∙ p.0) in
          let whole = r.whole ∙ ap (λ rest. r.run ++ rest) s.1 in
          let q = letters_there s.0 in
          let text = r.run ++ (45 ∷ q.run) in
          subst (SidesFront w v n) (append_assoc r.run (45 ∷ q.run) q.rest ∙ ap (λ back. r.run ++ (45 ∷ back)) (sym q.whole) ∙ sym whole)
          (sides_of text q.rest (two_sides r.run q.run r.all q.all) refl (sym (second_is all r.run s.0 (letters_at all) whole r.count q) ∙ p.1))
      | inr p ↦ subst (SidesFront w v n) (sym r.whole) (sides_of r.run r.rest (one_side r.all) (sym r.count) (ap (λ w. sides w [] (letters_at all)) (sym before) ∙ p.1))
    ]

-- modifiers before a `:` that stand at the front
pub record ModifiersFront (p : Opener × ℕ) (all : List ℕ) : Type 0 where
  pub enabling : ℕ
  pub disabling : ℕ
  pub text : List ℕ
  pub rest : List ℕ
  pub spelled : SpellsModifiers enabling disabling text
  pub whole : all ≡ text ++ (58 ∷ rest)
  pub is_so : Some (ignoring (Some (enabling, disabling)), length text + 3) ≡ Some p

-- the sides are letters
pub sides_letters : (w v text : List ℕ) → AreSides w v text → (list_all is_modifier w ≡ true) × (list_all is_modifier v ≡ true)
sides_letters w _ _ (one_side h) = (h, refl)
sides_letters _ _ _ (two_sides w v h k) = (h, k)

modified_found : (all w v : List ℕ) (n : ℕ) (p : Opener × ℕ) → starts 58 all ≡ false → SidesFront w v n all → starts 58 (drop n all) ≡ true → (has_twice w || has_twice v) ≡ false →
    Some (ignoring (Some (letters_bits w, letters_bits v)), n + 3) ≡ Some p → ModifiersFront p all
modified_found all w v n p h f k once same =
    let after : drop n all ≡ f.rest = ap (drop n) f.whole ∙ drop_front f.text f.rest n (sym f.count) in
    let s = starts_there 58 f.rest (ap (starts 58) (sym after) ∙ k) in
    let whole = f.whole ∙ ap (λ rest. f.text ++ rest) s.1 in
    record {
      enabling = letters_bits w;
      disabling = letters_bits v;
      text = f.text;
      rest = s.0;
      spelled = record {
        enabled = w;
        disabled = v;
        sides = f.spelled;
        some = λ none. true≢false (ap (λ text. starts 58 (text ++ (58 ∷ s.0))) (sym none) ∙ ap (starts 58) (sym whole) ∙ h);
        once = once;
        enabling_is = refl;
        disabling_is = refl;
      };
      whole = whole;
      is_so = ap (λ n. Some (ignoring (Some (letters_bits w, letters_bits v)), n + 3)) f.count ∙ same;
    }

pub modified_spelled : (all : List ℕ) (p : Opener × ℕ) → starts 58 all ≡ false → modified_group (sides_at all) all ≡ Some p → ModifiersFront p all
modified_spelled all p h k = go (sides_at all) refl k
  where
    go : (r : SidesRead) → sides_at all ≡ r → modified_group r all ≡ Some p → ModifiersFront p all
    go (sides w v n) e k = elim (chosen (starts 58 (drop n all) && not (has_twice w || has_twice v)) k) [
      | inl q ↦ let b = both (starts 58 (drop n all)) (not (has_twice w || has_twice v)) q.0 in modified_found all w v n p h (sides_spelled all w v n e) b.0 (not-true _ b.1) q.1
      | inr q ↦ absurd (let no : ⊥ = cc q.1 in no)
    ]
