-- The bits of modifiers, and their canonical letters, which spell them.
use Rattle.std.proofs.Common.{◌≡◌, ◌≢◌, refl, sym, subst, ℕ, ◌+◌, ◌%◌, ◌<◌, true, false, ◌==◌, List, [], ◌++◌, codes, arith}
use Rattle.std.specs.List.{list_all}
use Rattle.std.proofs.lemmas.Bool.{cond_both, eqb-true}
use Rattle.std.proofs.lemmas.Bool.Decides.{nat_tests}
use Rattle.std.proofs.lemmas.List.{append-nil}
use Rattle.rx_model.specs.Groups.Modifiers.{is_modifier, has_twice, letters_bits, AreSides, one_side, two_sides, SpellsModifiers}
use Rattle.rx_ast.specs.Texts.{three_letters, letters, dash}
use Rattle.rx_model.proofs.Spelling.SomeTexts.{some, some-append, some_after}
use Rattle.rx_model.proofs.Groups.ModifierBits.{bits_small}

-- Bits of three letters, on both sides.
abbrev pub AreThreeBits : ℕ × ℕ → Type 0
AreThreeBits bits = (bits.0 < 8) × (bits.1 < 8)

-- the bits of what is spelled
pub modifiers_known : (enabling disabling : ℕ) (text : List ℕ) → SpellsModifiers enabling disabling text → AreThreeBits (enabling, disabling)
modifiers_known enabling disabling text s =
    (subst (λ n. n < 8) (sym s.enabling_is) (bits_small s.enabled), subst (λ n. n < 8) (sym s.disabling_is) (bits_small s.disabled))

seven : (n : ℕ) → n < 8 → (n == 0) ≡ false → (n == 1) ≡ false → (n == 2) ≡ false → (n == 3) ≡ false → (n == 4) ≡ false → (n == 5) ≡ false → (n == 6) ≡ false → n ≡ 7
seven n low a b c d e f g = grind (arith, nat_tests)

-- What holds of each bits and their letters.
by_letters : (P : ℕ → List ℕ → Type 0) (n : ℕ) → n < 8 →
    P 0 [] → P 1 (codes "i") → P 2 (codes "m") → P 3 (codes "im") → P 4 (codes "s") → P 5 (codes "is") → P 6 (codes "ms") → P 7 (codes "ims") → P n (letters n)
unfolding letters
by_letters P n low p0 p1 p2 p3 p4 p5 p6 p7 =
    let at = λ (k : ℕ) (w : List ℕ) (p : P k w) (e : n ≡ k). subst (λ n. P n w) (sym e) p in
    subst (λ k. P n (three_letters k)) (let same : n ≡ n % 8 = omega (arith, low) in same)
    (cond_both (n == 0) _ _ (P n) (λ e. at 0 [] p0 (eqb-true n 0 e))
    (λ a. cond_both (n == 1) _ _ (P n) (λ e. at 1 _ p1 (eqb-true n 1 e))
    (λ b. cond_both (n == 2) _ _ (P n) (λ e. at 2 _ p2 (eqb-true n 2 e))
    (λ c. cond_both (n == 3) _ _ (P n) (λ e. at 3 _ p3 (eqb-true n 3 e))
    (λ d. cond_both (n == 4) _ _ (P n) (λ e. at 4 _ p4 (eqb-true n 4 e))
    (λ f. cond_both (n == 5) _ _ (P n) (λ e. at 5 _ p5 (eqb-true n 5 e))
    (λ g. cond_both (n == 6) _ _ (P n) (λ e. at 6 _ p6 (eqb-true n 6 e))
    (λ h. at 7 _ p7 (seven n low a b c d f g h)))))))))

letters_are : (n : ℕ) → n < 8 → list_all is_modifier (letters n) ≡ true
letters_are n low = by_letters (λ n w. list_all is_modifier w ≡ true) n low refl refl refl refl refl refl refl refl

letters_once : (n : ℕ) → n < 8 → has_twice (letters n) ≡ false
letters_once n low = by_letters (λ n w. has_twice w ≡ false) n low refl refl refl refl refl refl refl refl

bits_letters : (n : ℕ) → n < 8 → n ≡ letters_bits (letters n)
bits_letters n low = by_letters (λ n w. n ≡ letters_bits w) n low refl refl refl refl refl refl refl refl

some_letters : (n : ℕ) → n < 8 → n ≢ 0 → letters n ≢ []
some_letters n low =
    by_letters (λ n w. n ≢ 0 → w ≢ []) n low (λ h. absurd (h refl)) (λ _. some 105 []) (λ _. some 109 []) (λ _. some 105 _) (λ _. some 115 []) (λ _. some 105 _) (λ _. some 109 _) (λ _. some 105 _)

-- with no bit on the second side
one_alone : (a : ℕ) → a < 8 → AreSides (letters a) (letters 0) (letters a ++ letters 0)
unfolding letters
one_alone a low = subst (AreSides (letters a) []) (sym (append-nil (letters a))) (one_side (letters_are a low))

sides : (a b : ℕ) → a < 8 → b < 8 → AreSides (letters a) (letters b) (letters a ++ (dash b ++ letters b))
sides a b p q =
    cond_both (b % 8 == 0) _ _ (λ d. AreSides (letters a) (letters b) (letters a ++ (d ++ letters b)))
    (λ e. let none : b ≡ 0 = let k = eqb-true (b % 8) 0 e in omega (arith, q, k) in
    subst (λ n. AreSides (letters a) (letters n) (letters a ++ letters n)) (sym none) (one_alone a p))
    (λ _. two_sides (letters a) (letters b) (letters_are a p) (letters_are b q))

some_modifiers : (a b : ℕ) → a < 8 → b < 8 → a + b ≢ 0 → letters a ++ (dash b ++ letters b) ≢ []
some_modifiers a b p q h =
    cond_both (b % 8 == 0) _ _ (λ d. letters a ++ (d ++ letters b) ≢ [])
    (λ e. let k = eqb-true (b % 8) 0 e in some-append (letters a) (letters b) (some_letters a p (λ none. h (omega (arith, q, k, none)))))
    (λ _. some_after (letters a) 45 (letters b))

-- The canonical text of modifiers spells them, where there is some letter.
pub modifiers_spelled : (bits : ℕ × ℕ) → AreThreeBits bits → bits.0 + bits.1 ≢ 0 → SpellsModifiers bits.0 bits.1 (letters bits.0 ++ (dash bits.1 ++ letters bits.1))
modifiers_spelled bits low h = record {
  enabled = letters bits.0;
  disabled = letters bits.1;
  sides = sides bits.0 bits.1 low.0 low.1;
  some = some_modifiers bits.0 bits.1 low.0 low.1 h;
  once = rw (letters_once bits.0 low.0, letters_once bits.1 low.1) refl;
  enabling_is = bits_letters bits.0 low.0;
  disabling_is = bits_letters bits.1 low.1;
}
