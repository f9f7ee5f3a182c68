-- The stair of ranges: what it answers, and how a range is added to it.
use Rattle.std.proofs.Common.{◌≡◌, refl, ap, sym, ◌∙◌, ℕ, ◌≤◌, ◌<◌, true, false, ◌||◌, nat_le, nat_lt, nat_eq, cond, arith, Option, Some, List, [], ◌∷◌, ◌++◌, ◌⊎◌, inl, inr}
use Rattle.std.specs.List.{list_any}
use Rattle.std.proofs.lemmas.Bool.Decides.{nat_tests}
use Rattle.std.proofs.Math.Bool.{or-true}
use Rattle.std.proofs.lemmas.List.Folds.{list_any-append}
use Rattle.rx_lint.specs.Coverage.{Range, covers_both, AreLater, IsRising, IsStair}

-- The last range of the stair that begins up to `low` answers.
pub answer_of_last : (at : ℕ → Option ℕ) (rs : List Range) (low high p a : ℕ) → IsStair at rs → at p ≡ Some a → p ≤ low → ((q b : ℕ) → q ≤ low → at q ≡ Some b → q ≤ p) → nat_le high a ≡ list_any (covers_both low high) rs
answer_of_last at rs low high p a s is le last =
    elim (list_any (covers_both low high) rs) as (λ b. list_any (covers_both low high) rs ≡ b → nat_le high a ≡ b) [
      | true ↦ λ any.
          let w = s.whole low high any in
          let before = last w.0 w.1 w.3 w.2 in
          let most : w.1 ≤ a = elim (nat_lt w.0 p) as (λ b. nat_lt w.0 p ≡ b → w.1 ≤ a) [
            | true ↦ λ lt. let less : w.0 < p = grind (arith, nat_tests) in let r = s.rising w.0 w.1 p a w.2 is less in omega arith
            | false ↦ λ ge. let not_less : p ≤ w.0 = grind (arith, nat_tests) in let same : w.0 ≡ p = omega arith in let e : Some a ≡ Some w.1 = sym is ∙ ap at (sym same) ∙ w.2 in let f : a ≡ w.1 = cc in omega arith
          ] refl in
          let end = w.4 in
          grind (arith, nat_tests)
      | false ↦ λ any.
          elim (nat_le high a) as (λ b. nat_le high a ≡ b → b ≡ false) [
            | true ↦ λ yes. let h : high ≤ a = grind (arith, nat_tests) in let t = s.sound p a is low high le h in sym t ∙ any
            | false ↦ λ no. refl
          ] refl
    ] refl

-- Of some, what is left after ranges were taken away that begin at `low` or later and end at `high` or before.
pub record IsThinned (low high : ℕ) (at after : ℕ → Option ℕ) : Type 0 where
  pub kept : (q b : ℕ) → after q ≡ Some b → at q ≡ Some b
  pub gone : (q b : ℕ) → at q ≡ Some b → (after q ≡ Some b) ⊎ ((low ≤ q) × (b ≤ high))

pub still_rising : (low high : ℕ) (at after : ℕ → Option ℕ) → IsRising at → IsThinned low high at after → IsRising after
still_rising low high at after r t p a q b i j l = r p a q b (t.kept p a i) (t.kept q b j) l

same_number : (n : ℕ) → nat_eq n n ≡ true
same_number n = grind (arith, nat_tests)

any_more : (low high l h : ℕ) (rs : List Range) → list_any (covers_both l h) (rs ++ ((low, high) ∷ [])) ≡ (list_any (covers_both l h) rs || (covers_both l h (low, high) || false))
any_more low high l h rs = list_any-append (covers_both l h) rs ((low, high) ∷ [])

-- The range is added: nothing that is left begins there or later and ends at `high` or before.
pub range_added : (low high : ℕ) (at left after : ℕ → Option ℕ) (rs : List Range) → IsStair at rs → list_any (covers_both low high) rs ≡ false → IsThinned low high at left → AreLater low high left → ((q : ℕ) → after q ≡ cond (nat_eq low q) (Some high) (left q)) → IsStair after (rs ++ ((low, high) ∷ []))
range_added low high at left after rs s fresh t later is =
    let here : (q b : ℕ) → after q ≡ Some b → ((q ≡ low) × (b ≡ high)) ⊎ (left q ≡ Some b) = λ q b i. elim (nat_eq low q) as (λ v. nat_eq low q ≡ v → cond v (Some high) (left q) ≡ Some b → ((q ≡ low) × (b ≡ high)) ⊎ (left q ≡ Some b)) [
      | true ↦ λ same e. let k : q ≡ low = grind (arith, nat_tests) in inl (k, cc)
      | false ↦ λ other e. inr e
    ] refl (sym (is q) ∙ i) in
    let short : (q b : ℕ) → left q ≡ Some b → q < low → b < high = λ q b i l.
    elim (nat_le high b) as (λ v. nat_le high b ≡ v → b < high) [
      | true ↦ λ yes. let h : high ≤ b = grind (arith, nat_tests) in let c = s.sound q b (t.kept q b i) low high (omega arith) h in let e : true ≡ false = sym c ∙ fresh in cc
      | false ↦ λ no. grind (arith, nat_tests)
    ] refl in
    let first : after low ≡ Some high = is low ∙ ap (λ v. cond v (Some high) (left low)) (same_number low) in
    let still : (q b : ℕ) → at q ≡ Some b → (l h : ℕ) → q ≤ l → h ≤ b → (p : ℕ) × (a : ℕ) × (after p ≡ Some a) × (p ≤ l) × (h ≤ a) = λ q b i l h u v. elim (t.gone q b i) [
      | inr out ↦ let x = out.0 in let y = out.1 in (low, high, first, omega arith, omega arith)
      | inl kept ↦ elim (nat_eq low q) as (λ w. nat_eq low q ≡ w → (p : ℕ) × (a : ℕ) × (after p ≡ Some a) × (p ≤ l) × (h ≤ a)) [
        | true ↦ λ same. let e : low ≡ q = grind (arith, nat_tests) in let more = later q b kept (omega arith) in let c = s.sound q b i low high (omega arith) (omega arith) in let no : true ≡ false = sym c ∙ fresh in cc
        | false ↦ λ other. (q, b, is q ∙ ap (λ v. cond v (Some high) (left q)) other ∙ kept, u, v)
      ] refl
    ] in
    let covered : (l h : ℕ) → (false || (covers_both l h (low, high) || false)) ≡ true → (low ≤ l) × (h ≤ high) = λ l h z. (grind (arith, nat_tests), grind (arith, nat_tests)) in
    record {
      rising = λ p a q b i j l. elim (here p a i) [
        | inl x ↦ elim (here q b j) [
          | inl y ↦ let e = x.0 in let f = y.0 in absurd (omega arith)
          | inr y ↦ let e = x.0 in let f = x.1 in let g = later q b y (omega arith) in omega arith
        ]
        | inr x ↦ elim (here q b j) [
          | inl y ↦ let e = y.0 in let f = y.1 in let g = short p a x (omega arith) in omega arith
          | inr y ↦ s.rising p a q b (t.kept p a x) (t.kept q b y) l
        ]
      ];
      sound = λ p a i l h u v. any_more low high l h rs ∙ elim (here p a i) [
        | inl x ↦ let e = x.0 in let f = x.1 in let c : covers_both l h (low, high) ≡ true = grind (arith, nat_tests) in ap (λ b. list_any (covers_both l h) rs || (b || false)) c ∙ or-true (list_any (covers_both l h) rs)
        | inr x ↦ ap (λ b. b || (covers_both l h (low, high) || false)) (s.sound p a (t.kept p a x) l h u v)
      ];
      whole = λ l h any. elim (list_any (covers_both l h) rs) as (λ v. list_any (covers_both l h) rs ≡ v → (v || (covers_both l h (low, high) || false)) ≡ true → (p : ℕ) × (a : ℕ) × (after p ≡ Some a) × (p ≤ l) × (h ≤ a)) [
        | true ↦ λ old z.
            let w = s.whole l h old in
            still w.0 w.1 w.2 l h w.3 w.4
        | false ↦ λ new z.
            let c = covered l h z in
            (low, high, first, c.0, c.1)
      ] refl (sym (any_more low high l h rs) ∙ any);
    }

one_covers : (low high l h : ℕ) → (false || (covers_both l h (low, high) || false)) ≡ true → (low ≤ l) × (h ≤ high)
one_covers low high l h covers = (grind (arith, nat_tests), grind (arith, nat_tests))

-- A range that another covers adds nothing.
pub covered_added : (low high : ℕ) (at : ℕ → Option ℕ) (rs : List Range) → IsStair at rs → list_any (covers_both low high) rs ≡ true → IsStair at (rs ++ ((low, high) ∷ []))
covered_added low high at rs s there = record {
  rising = s.rising;
  sound = λ p a is l h u v. any_more low high l h rs ∙ ap (λ b. b || (covers_both l h (low, high) || false)) (s.sound p a is l h u v);
  whole = λ l h any. elim (list_any (covers_both l h) rs) as (λ v. list_any (covers_both l h) rs ≡ v → (v || (covers_both l h (low, high) || false)) ≡ true → (p : ℕ) × (a : ℕ) × (at p ≡ Some a) × (p ≤ l) × (h ≤ a)) [
    | true ↦ λ old z. s.whole l h old
    | false ↦ λ new z.
        let both = one_covers low high l h z in
        let first = both.0 in
        let last = both.1 in
        let w = s.whole low high there in
        let start = w.3 in
        let end = w.4 in
        (w.0, w.1, w.2, omega arith, omega arith)
  ] refl (sym (any_more low high l h rs) ∙ any);
}
