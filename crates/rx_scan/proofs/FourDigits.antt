-- Four hexadecimal digits by two and two: how many of them are looked at, and where they are read.
use Rattle.std.proofs.Common.{◌≡◌, ℕ, ◌+◌, ◌<◌, ◌≤◌, cond, is_some, List, [], ◌∷◌, length, min, drop, get_or, Option, Some, None, option_map, refl, ap, ◌∙◌, sym, arith}
use Rattle.std.proofs.lemmas.Bool.{le-ltb, lt-ltb}
use Rattle.rx_base.specs.Rising.{Rises}
use Rattle.rx_tables.specs.Characters.{hex_digit_value}
use Rattle.rx_units.specs.Digits.{hex_number}
use Rattle.rx_units.specs.Stored.{values_of}
use Rattle.rx_units.proofs.Digits.{four, two}
use Rattle.rx_model.specs.Characters.Decoding.{four_at}
use Rattle.rx_model.specs.Characters.LegacyEscapes.{four_next}
use Rattle.rx_scan.specs.DecodingSteps.{digits_of_four, hex_run}

-- the digits at the front of two and what follows them
abbrev run : Option ℕ → Option ℕ → ℕ → ℕ
run a b more = cond (is_some a) (1 + cond (is_some b) (1 + more) 0) 0

run_first : (a b : Option ℕ) (more old new : ℕ) → None ≡ two a b → new ≡ run a b 0 + old → new ≡ run a b more + old
run_first None b more old new none looked = looked
run_first (Some i) None more old new none looked = looked
run_first (Some i) (Some j) more old new none looked = absurd (let no : ⊥ = cc none in no)

run_both : (a b : Option ℕ) (m more old middle new : ℕ) → Some m ≡ two a b → middle ≡ run a b 0 + old → new ≡ more + middle → new ≡ run a b more + old
run_both None b m more old middle new high looked rest = absurd (let no : ⊥ = cc high in no)
run_both (Some i) None m more old middle new high looked rest = absurd (let no : ⊥ = cc high in no)
run_both (Some i) (Some j) m more old middle new high looked rest = omega arith

pub looked_by_first : (a b c d old new : ℕ) → None ≡ hex_number (a ∷ b ∷ []) → new ≡ hex_run (a ∷ b ∷ []) + old → new ≡ hex_run (a ∷ b ∷ c ∷ d ∷ []) + old
looked_by_first a b c d = run_first (hex_digit_value a) (hex_digit_value b) (hex_run (c ∷ d ∷ []))

pub looked_by_both : (a b c d m old middle new : ℕ) → Some m ≡ hex_number (a ∷ b ∷ []) → middle ≡ hex_run (a ∷ b ∷ []) + old → new ≡ hex_run (c ∷ d ∷ []) + middle → new ≡ hex_run (a ∷ b ∷ c ∷ d ∷ []) + old
looked_by_both a b c d m = run_both (hex_digit_value a) (hex_digit_value b) m (hex_run (c ∷ d ∷ []))

-- of four that are no number, one is not looked at
run_few : (a b c d : Option ℕ) → None ≡ four a b c d → run a b (run c d 0) ≤ 3
run_few None b c d none = omega arith
run_few (Some i) None c d none = omega arith
run_few (Some i) (Some j) None d none = omega arith
run_few (Some i) (Some j) (Some k) None none = omega arith
run_few (Some i) (Some j) (Some k) (Some l) none = absurd (let no : ⊥ = cc none in no)

run_all : (a b c d : Option ℕ) (n : ℕ) → Some n ≡ four a b c d → run a b (run c d 0) ≡ 4
run_all None b c d n some = absurd (let no : ⊥ = cc some in no)
run_all (Some i) None c d n some = absurd (let no : ⊥ = cc some in no)
run_all (Some i) (Some j) None d n some = absurd (let no : ⊥ = cc some in no)
run_all (Some i) (Some j) (Some k) None n some = absurd (let no : ⊥ = cc some in no)
run_all (Some i) (Some j) (Some k) (Some l) n some = refl

run_front : (a b c d : Option ℕ) (more : ℕ) → min 4 (run a b (run c d more)) ≡ run a b (run c d 0)
run_front None b c d more = omega arith
run_front (Some i) None c d more = omega arith
run_front (Some i) (Some j) None d more = omega arith
run_front (Some i) (Some j) (Some k) None more = omega arith
run_front (Some i) (Some j) (Some k) (Some l) more = omega arith

four_looked : (a b c d : ℕ) (rest : List ℕ) → digits_of_four (a ∷ b ∷ c ∷ d ∷ rest) ≡ hex_run (a ∷ b ∷ c ∷ d ∷ [])
four_looked a b c d rest =
    ap (λ short. cond short 0 (min 4 (hex_run (a ∷ b ∷ c ∷ d ∷ rest)))) (le-ltb (length (a ∷ b ∷ c ∷ d ∷ rest)) 4 (omega arith))
    ∙ run_front (hex_digit_value a) (hex_digit_value b) (hex_digit_value c) (hex_digit_value d) (hex_run rest)

module _ (w : List ℕ) (a b c d : ℕ) (rest : List ℕ) (is : w ≡ a ∷ b ∷ c ∷ d ∷ rest) where
  pub four_unread : None ≡ hex_number (a ∷ b ∷ c ∷ d ∷ []) → None ≡ four_at w
  four_unread none = rw is (ap (option_map (λ v. (v, rest))) none)

  pub four_read : (n : ℕ) → Some n ≡ hex_number (a ∷ b ∷ c ∷ d ∷ []) → Some (n, rest) ≡ four_at w
  four_read n some = rw is (ap (option_map (λ v. (v, rest))) some)

  pub next_read : (o : Option ℕ) → o ≡ hex_number (a ∷ b ∷ c ∷ d ∷ []) → o ≡ four_next w
  next_read o read = rw is read

  pub digits_read : (old new : ℕ) → new ≡ hex_run (a ∷ b ∷ c ∷ d ∷ []) + old → new ≡ digits_of_four w + old
  digits_read old new looked = rw is (looked ∙ ap (λ k. k + old) (sym (four_looked a b c d rest)))

  pub steps_unread : (old new units : ℕ) → length w ≡ units → None ≡ hex_number (a ∷ b ∷ c ∷ d ∷ []) → new ≡ hex_run (a ∷ b ∷ c ∷ d ∷ []) + old → Rises old new 0 3 × (new ≤ old + units)
  steps_unread old new units length_is none looked =
      let few = run_few (hex_digit_value a) (hex_digit_value b) (hex_digit_value c) (hex_digit_value d) none in
      let long : 4 ≤ units = omega (arith, ap length is) in
      ((omega arith, omega arith), omega arith)

pub steps_read : (a b c d n old new : ℕ) → Some n ≡ hex_number (a ∷ b ∷ c ∷ d ∷ []) → new ≡ hex_run (a ∷ b ∷ c ∷ d ∷ []) + old → new ≡ old + 4
steps_read a b c d n old new some looked =
    let all = run_all (hex_digit_value a) (hex_digit_value b) (hex_digit_value c) (hex_digit_value d) n some in
    omega arith

pub short_looked : (w : List ℕ) (old : ℕ) → length w < 4 → old ≡ digits_of_four w + old
short_looked w old short = rw (lt-ltb (length w) 4 short) (omega arith)

-- the items that a pattern of four and more binds
pub four_items : {Item : Type 0} (value : Item → ℕ) (w : List ℕ) (xs : List Item) (p q r s : Item) (a b c d : ℕ) → w ≡ values_of value xs → 4 ≤ length xs → p ≡ get_or xs 0 p → q ≡ get_or xs 1 q → r ≡ get_or xs 2 r
    → s ≡ get_or xs 3 s → a ≡ value p → b ≡ value q → c ≡ value r → d ≡ value s → w ≡ a ∷ b ∷ c ∷ d ∷ drop 4 w
four_items value w [] p q r s a b c d w_is long first second third fourth a_is b_is c_is d_is = absurd (omega arith)
four_items value w (x ∷ []) p q r s a b c d w_is long first second third fourth a_is b_is c_is d_is = absurd (omega arith)
four_items value w (x ∷ y ∷ []) p q r s a b c d w_is long first second third fourth a_is b_is c_is d_is = absurd (omega arith)
four_items value w (x ∷ y ∷ z ∷ []) p q r s a b c d w_is long first second third fourth a_is b_is c_is d_is = absurd (omega arith)
four_items value w (x ∷ y ∷ z ∷ u ∷ xs) p q r s a b c d w_is long first second third fourth a_is b_is c_is d_is =
    rw (w_is, a_is, b_is, c_is, d_is, first, second, third, fourth) refl
