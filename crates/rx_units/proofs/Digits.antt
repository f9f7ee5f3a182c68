-- Digits: which ones they are, and how large the numbers are that they spell.
use Rattle.std.proofs.Common.{◌≡◌, ℕ, ◌+◌, ◌*◌, ◌<◌, ◌≤◌, ◌==◌, true, false, not, ◌&&◌, List, [], ◌∷◌, Option, Some, None, option_and_then, refl, ap, arith}
use Rattle.std.proofs.lemmas.Bool.Decides.{nat_tests}
use Rattle.std.proofs.lemmas.Option.{option_and_then_some}
use Rattle.rx_base.specs.Characters.{is_within}
use Rattle.rx_tables.specs.Characters.{hex_digit_value, is_decimal_digit, is_octal_digit}
use Rattle.rx_units.specs.Digits.{front_is, hex_after, hex_number, octal}

-- digits only add to a number
pub hex_le : (n : ℕ) (ds : List ℕ) (v : ℕ) → hex_after n ds ≡ Some v → n ≤ v
hex_le n [] v h = let e : n ≡ v = cc h in omega arith
hex_le n (x ∷ ds) v h = option_and_then_some (λ d. hex_after (16 * n + d) ds) (hex_digit_value x) v h (λ d e f. let k = hex_le (16 * n + d) ds v f in omega (arith, k))

digit_small : (c d : ℕ) → hex_digit_value c ≡ Some d → d < 16
digit_small c d h = grind (arith, nat_tests)

pub two_small : (a b v : ℕ) → hex_number (a ∷ b ∷ []) ≡ Some v → v ≤ 0xFF
two_small a b v h =
    option_and_then_some _ (hex_digit_value a) v h (λ i ia h.
    option_and_then_some _ (hex_digit_value b) v h (λ j jb h.
    let same : 16 * (16 * 0 + i) + j ≡ v = cc h in
    omega (arith, digit_small a i ia, digit_small b j jb)))

pub four_small : (a b c d v : ℕ) → hex_number (a ∷ b ∷ c ∷ d ∷ []) ≡ Some v → v ≤ 0xFFFF
four_small a b c d v h =
    option_and_then_some _ (hex_digit_value a) v h (λ i ia h.
    option_and_then_some _ (hex_digit_value b) v h (λ j jb h.
    option_and_then_some _ (hex_digit_value c) v h (λ k kc h.
    option_and_then_some _ (hex_digit_value d) v h (λ l ld h.
    let same : 16 * (16 * (16 * (16 * 0 + i) + j) + k) + l ≡ v = cc h in
    omega (arith, digit_small a i ia, digit_small b j jb, digit_small c k kc, digit_small d l ld)))))

pub octal_small : (c : ℕ) → is_octal_digit c ≡ true → octal c < 8
octal_small c h = grind (arith, nat_tests)

-- A `0` that stands alone and yet is no Null stands before an 8 or a 9.
pub zero_next : (c : ℕ) (w : List ℕ) → (c == 48) ≡ true → (c == 48 && not (front_is is_decimal_digit w)) ≡ false → front_is is_octal_digit w ≡ false → front_is (is_within 56 57) w ≡ true
zero_next c [] e z x = grind (arith, nat_tests)
zero_next c (d ∷ w) e z x = grind (arith, nat_tests)

pub nonzero_octal : (c : ℕ) → is_octal_digit c ≡ true → (c == 48) ≡ false → is_within 49 55 c ≡ true
nonzero_octal c o e = grind (arith, nat_tests)

pub high_octal : (c : ℕ) → is_octal_digit c ≡ true → is_within 48 51 c ≡ false → is_within 52 55 c ≡ true
high_octal c o e = grind (arith, nat_tests)

pub nonzero_digit : (c : ℕ) → is_decimal_digit c ≡ true → (c == 48) ≡ false → is_within 49 57 c ≡ true
nonzero_digit c h k = grind (arith, nat_tests)

-- the number of two, and of four, by what each stands for
abbrev pub two : Option ℕ → Option ℕ → Option ℕ
two a b = option_and_then (λ i. option_and_then (λ j. Some (16 * (16 * 0 + i) + j)) b) a

abbrev pub four : Option ℕ → Option ℕ → Option ℕ → Option ℕ → Option ℕ
four a b c d = option_and_then (λ i. option_and_then (λ j. option_and_then (λ k. option_and_then (λ l. Some (16 * (16 * (16 * (16 * 0 + i) + j) + k) + l)) d) c) b) a

none_first : (a b c d : Option ℕ) → None ≡ two a b → None ≡ four a b c d
none_first None b c d none = refl
none_first (Some i) None c d none = refl
none_first (Some i) (Some j) c d none = absurd (let no : ⊥ = cc none in no)

none_last : (a b c d : Option ℕ) (m : ℕ) → Some m ≡ two a b → None ≡ two c d → None ≡ four a b c d
none_last None b c d m high none = absurd (let no : ⊥ = cc high in no)
none_last (Some i) None c d m high none = absurd (let no : ⊥ = cc high in no)
none_last (Some i) (Some j) None d m high none = refl
none_last (Some i) (Some j) (Some k) None m high none = refl
none_last (Some i) (Some j) (Some k) (Some l) m high none = absurd (let no : ⊥ = cc none in no)

some_both : (a b c d : Option ℕ) (m n : ℕ) → Some m ≡ two a b → Some n ≡ two c d → Some (256 * m + n) ≡ four a b c d
some_both None b c d m n high low = absurd (let no : ⊥ = cc high in no)
some_both (Some i) None c d m n high low = absurd (let no : ⊥ = cc high in no)
some_both (Some i) (Some j) None d m n high low = absurd (let no : ⊥ = cc low in no)
some_both (Some i) (Some j) (Some k) None m n high low = absurd (let no : ⊥ = cc low in no)
some_both (Some i) (Some j) (Some k) (Some l) m n high low =
    let first : m ≡ 16 * (16 * 0 + i) + j = cc high in
    let last : n ≡ 16 * (16 * 0 + k) + l = cc low in
    ap Some (omega (arith, first, last))

pub none_by_first : (a b c d : ℕ) → None ≡ hex_number (a ∷ b ∷ []) → None ≡ hex_number (a ∷ b ∷ c ∷ d ∷ [])
none_by_first a b c d = none_first (hex_digit_value a) (hex_digit_value b) (hex_digit_value c) (hex_digit_value d)

pub none_by_last : (a b c d m : ℕ) → Some m ≡ hex_number (a ∷ b ∷ []) → None ≡ hex_number (c ∷ d ∷ []) → None ≡ hex_number (a ∷ b ∷ c ∷ d ∷ [])
none_by_last a b c d = none_last (hex_digit_value a) (hex_digit_value b) (hex_digit_value c) (hex_digit_value d)

pub some_by_both : (a b c d m n : ℕ) → Some m ≡ hex_number (a ∷ b ∷ []) → Some n ≡ hex_number (c ∷ d ∷ []) → Some (256 * m + n) ≡ hex_number (a ∷ b ∷ c ∷ d ∷ [])
some_by_both a b c d = some_both (hex_digit_value a) (hex_digit_value b) (hex_digit_value c) (hex_digit_value d)
