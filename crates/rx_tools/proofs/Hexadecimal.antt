-- The bytes of a number in hexadecimal.
use Rattle.std.proofs.Common.{◌≡◌, refl, ℕ, zero, suc, ◌/◌, ◌%◌, ◌-◌, ◌<◌, ◌≤◌, arith, true, false, [], ◌∷◌, ◌++◌, nat_lt, List}
use Rattle.std.specs.Str.{IsAscii}
use Rattle.std.proofs.lemmas.Bool.Decides.{nat_tests}
use Rattle.rx_tables.specs.Characters.{hex_digit}
use Rattle.rx_model.specs.Spelling.CharacterText.{hex}
use Rattle.rx_tools.specs.Utf8.{utf8}
use Rattle.rx_tools.proofs.Pieces.{utf8-nil}

pub hex_none : (places n : ℕ) → places ≡ 0 → utf8 (hex places n) ≡ []
hex_none places n none = rw none utf8-nil

-- the digits before the last, and the last
pub hex_more : (places n : ℕ) → ¬ (places ≡ 0) → 16 ≤ n → hex places n ≡ hex (places - 1) (n / 16) ++ (hex_digit (n % 16) ∷ [])
hex_more zero n some large = absurd (some refl)
hex_more (suc places) n some large =
    let test : nat_lt n 16 ≡ false = grind (arith, nat_tests) in
    let before : suc places - 1 ≡ places = omega arith in
    rw (test, before) refl

pub hex_one : (places n : ℕ) → ¬ (places ≡ 0) → n < 16 → hex places n ≡ hex_digit (n % 16) ∷ []
hex_one zero n some small = absurd (some refl)
hex_one (suc places) n some small =
    let test : nat_lt n 16 ≡ true = grind (arith, nat_tests) in
    rw test refl

-- a number of four digits
pub hex_four : (n : ℕ) → 0x1000 ≤ n → n < 0x10000 → hex 8 n ≡ hex_digit (n / 4096 % 16) ∷ hex_digit (n / 256 % 16) ∷ hex_digit (n / 16 % 16) ∷ hex_digit (n % 16) ∷ []
hex_four n low high =
    let second : n / 16 / 16 ≡ n / 256 = omega arith in
    let third : n / 16 / 16 / 16 ≡ n / 4096 = omega arith in
    rw (hex_more 8 n (omega arith) (omega arith), hex_more 7 (n / 16) (omega arith) (omega arith), hex_more 6 (n / 16 / 16) (omega arith) (omega arith), hex_one 5 (n / 16 / 16 / 16) (omega arith) (omega arith), third, second) refl

pub ascii_cons : (b : ℕ) (bytes : List ℕ) → b < 128 → IsAscii bytes → IsAscii (b ∷ bytes)
ascii_cons b bytes small rest zero = small
ascii_cons b bytes small rest (suc i) = rest i
