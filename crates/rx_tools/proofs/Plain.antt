-- Characters that are spelled as themselves, or after a backslash.
use Rattle.std.proofs.Common.{◌≡◌, refl, ℕ, ◌<◌, ◌≤◌, arith, true, false, not, ◌&&◌, ◌||◌, ◌==◌, nat_lt, [], ◌∷◌, ◌++◌, codes}
use Rattle.std.specs.Prelude.{if◌then◌else◌}
use Rattle.std.proofs.lemmas.Bool.Decides.{nat_tests}
use Rattle.rx_base.specs.Characters.{is_surrogate, is_within}
use Rattle.rx_model.specs.declared.mode.Mode.{Mode}
use Rattle.rx_model.specs.declared.mode.Mode.TheVariants.{Legacy, Unicode, Sets}
use Rattle.rx_model.specs.Spelling.CharacterText.{Place, outside, in_class, character_text, is_escaped, goes_on, greatest_raw, surrogate_text}

always_raw : (mode : Mode) (c : ℕ) → c < 127 → nat_lt (greatest_raw mode) c ≡ false
always_raw Legacy c h = grind (arith, nat_tests)
always_raw Unicode c h = grind (arith, nat_tests)
always_raw Sets c h = grind (arith, nat_tests)

-- the rows of printable ASCII
printable_text : (mode : Mode) (place : Place) (c : ℕ) → 32 ≤ c → c < 127 →
    character_text mode place c ≡ (if is_escaped mode place c then 92 ∷ c ∷ [] else (if goes_on place c then codes "\\x3" ++ (c ∷ []) else c ∷ []))
unfolding character_text
printable_text mode place c low high =
    let control : is_within 9 13 c ≡ false = grind (arith, nat_tests) in
    let two_digits : (nat_lt c 32 || is_within 127 159 c) ≡ false = grind (arith, nat_tests) in
    let separator : (c == 0x2028 || c == 0x2029) ≡ false = grind (arith, nat_tests) in
    let surrogate : is_surrogate c ≡ false = grind (arith, nat_tests) in
    rw (control, two_digits, separator, surrogate, always_raw mode c high) refl

-- the row of what stands after a backslash
pub escaped_text : (mode : Mode) (place : Place) (c : ℕ) → 32 ≤ c → c < 127 → is_escaped mode place c ≡ true → character_text mode place c ≡ 92 ∷ c ∷ []
escaped_text mode place c low high escaped = rw (printable_text mode place c low high, escaped) refl

-- the last row
pub unescaped_text : (mode : Mode) (place : Place) (c : ℕ) → (is_within 32 126 c && not (is_escaped mode place c)) ≡ true → goes_on place c ≡ false → character_text mode place c ≡ c ∷ []
unescaped_text mode place c unescaped alone =
    let free : is_escaped mode place c ≡ false = grind (arith, nat_tests) in
    rw (printable_text mode place c (grind (arith, nat_tests)) (grind (arith, nat_tests)), free, alone) refl

never_escaped : (mode : Mode) (place : Place) (c : ℕ) → 160 ≤ c → is_escaped mode place c ≡ false
never_escaped mode (outside after_reference) c h = grind (arith, nat_tests)
never_escaped Legacy in_class c h = grind (arith, nat_tests)
never_escaped Unicode in_class c h = grind (arith, nat_tests)
never_escaped Sets in_class c h = grind (arith, nat_tests)

never_goes_on : (place : Place) (c : ℕ) → 160 ≤ c → goes_on place c ≡ false
never_goes_on (outside true) c h = grind (arith, nat_tests)
never_goes_on (outside false) c h = refl
never_goes_on in_class c h = refl

-- the last row past ASCII
pub far_text : (mode : Mode) (place : Place) (c : ℕ) → 160 ≤ c → c ≤ greatest_raw mode → (c == 0x2028 || c == 0x2029) ≡ false → is_surrogate c ≡ false → character_text mode place c ≡ c ∷ []
unfolding character_text
far_text mode place c low raw separator surrogate =
    let control : is_within 9 13 c ≡ false = grind (arith, nat_tests) in
    let two_digits : (nat_lt c 32 || is_within 127 159 c) ≡ false = grind (arith, nat_tests) in
    let read : nat_lt (greatest_raw mode) c ≡ false = grind (arith, nat_tests) in
    rw (control, two_digits, separator, surrogate, read, never_escaped mode place c low, never_goes_on place c low) refl

-- the row of surrogates
pub surrogate_row : (mode : Mode) (place : Place) (c : ℕ) → is_surrogate c ≡ true → character_text mode place c ≡ surrogate_text mode c
unfolding character_text
surrogate_row mode place c surrogate =
    let control : is_within 9 13 c ≡ false = grind (arith, nat_tests) in
    let two_digits : (nat_lt c 32 || is_within 127 159 c) ≡ false = grind (arith, nat_tests) in
    let separator : (c == 0x2028 || c == 0x2029) ≡ false = grind (arith, nat_tests) in
    rw (control, two_digits, separator, surrogate) refl
