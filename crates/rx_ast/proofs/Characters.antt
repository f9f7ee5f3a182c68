-- The text of a character, row by row, and its bytes.
use Rattle.std.proofs.Common.{◌≡◌, refl, ℕ, ◌+◌, ◌<◌, ◌≤◌, ◌^◌, arith, Bool, true, false, [], ◌∷◌, ◌++◌, codes, nat_le, ◌&&◌, ◌⊎◌}
use Rattle.std.specs.Char.{encode_utf8, OutOfScalarRange, InScalarRange}
use Rattle.std.specs.Str.{encode_utf8_all}
use Rattle.std.proofs.lemmas.Bool.Decides.{nat_tests}
use Rattle.rx_base.specs.Characters.{is_character}
use Rattle.rx_base.proofs.Messages.{encoded_hex}
use Rattle.rx_ast.specs.declared.leaf.Character.{Character}
use Rattle.rx_ast.specs.declared.leaf.CharacterKind.{CharacterKind}
use Rattle.rx_ast.specs.declared.leaf.CharacterKind.TheVariants as kind
use Rattle.rx_ast.specs.Shown.{at_least, character_shown, control_shown, hexadecimal, hexadecimal_shown, kind_shown, octal, octal_shown, shows_number, unicode_shown}
use Rattle.rx_ast.proofs.OwnBytes.{own_bytes_then, own_bytes_padded, own_bytes_octal}

pub bytes_of_four : (v : ℕ) → v ≤ 0xFFFF → encode_utf8_all (unicode_shown v) ≡ codes "\\u" ++ at_least 4 (hexadecimal v)
unfolding unicode_shown encode_utf8
bytes_of_four v low =
    let test : nat_le v 0xFFFF ≡ true = grind (arith, nat_tests) in
    rw test (own_bytes_then (codes "\\u") (at_least 4 (hexadecimal v)) refl (own_bytes_padded 4 (hexadecimal v) (encoded_hex v (omega arith))))

pub bytes_in_braces : (v : ℕ) → v < 2 ^ 32 → 0xFFFF < v → encode_utf8_all (unicode_shown v) ≡ codes "\\u{" ++ (hexadecimal v ++ codes "}")
unfolding unicode_shown encode_utf8
bytes_in_braces v small high =
    let test : nat_le v 0xFFFF ≡ false = grind (arith, nat_tests) in
    rw test (own_bytes_then (codes "\\u{") (hexadecimal v ++ codes "}") refl (own_bytes_then (hexadecimal v) (codes "}") (encoded_hex v small) refl))

pub bytes_of_two : (v : ℕ) → v < 2 ^ 32 → encode_utf8_all (hexadecimal_shown v) ≡ codes "\\x" ++ at_least 2 (hexadecimal v)
unfolding hexadecimal_shown encode_utf8
bytes_of_two v small = own_bytes_then (codes "\\x") (at_least 2 (hexadecimal v)) refl (own_bytes_padded 2 (hexadecimal v) (encoded_hex v small))

pub bytes_of_octal : (k v : ℕ) → v < 2 ^ 32 → encode_utf8_all (octal_shown k v) ≡ codes "\\" ++ at_least k (octal v)
unfolding octal_shown encode_utf8
bytes_of_octal k v small = own_bytes_then (codes "\\") (at_least k (octal v)) refl (own_bytes_padded k (octal v) (own_bytes_octal v small))

pub control_letter : (v : ℕ) → 1 ≤ v → v ≤ 26 → control_shown v ≡ 92 ∷ 99 ∷ (64 + v) ∷ []
unfolding control_shown
control_letter v low high =
    let test : (nat_le 1 v && nat_le v 26) ≡ true = grind (arith, nat_tests) in
    rw test refl

pub control_in_two : (v : ℕ) → (v < 1) ⊎ (26 < v) → v ≤ 0xFF → control_shown v ≡ hexadecimal_shown v
unfolding control_shown
control_in_two v outside low =
    let test : (nat_le 1 v && nat_le v 26) ≡ false = grind (arith, nat_tests) in
    let within : nat_le v 0xFF ≡ true = grind (arith, nat_tests) in
    rw (test, within) refl

pub control_by_number : (v : ℕ) → 0xFF < v → control_shown v ≡ unicode_shown v
unfolding control_shown
control_by_number v high =
    let test : (nat_le 1 v && nat_le v 26) ≡ false = grind (arith, nat_tests) in
    let past : nat_le v 0xFF ≡ false = grind (arith, nat_tests) in
    rw (test, past) refl

never : (b : Bool) → (b && false) ≡ false
never true = refl
never false = refl

-- of a value that is a character
pub shown_by_kind : (c : Character) → InScalarRange c.value → character_shown c ≡ kind_shown c.kind c.value
unfolding character_shown
shown_by_kind c scalar =
    let test : is_character c.value ≡ true = grind (arith, nat_tests) in
    rw (test, never (shows_number c.kind)) refl

no_character : (v : ℕ) → OutOfScalarRange v → is_character v ≡ false
no_character v out = grind (arith, nat_tests)

pub shown_by_number : (c : Character) → OutOfScalarRange c.value → shows_number c.kind ≡ true → character_shown c ≡ unicode_shown c.value
unfolding character_shown
shown_by_number c out by_number = rw (no_character c.value out, by_number) refl

null_alone : (k : CharacterKind) (v : ℕ) → shows_number k ≡ false → kind_shown k v ≡ codes "\\0"
null_alone kind.Null v none = refl
null_alone kind.Symbol v none = absurd (let no : ⊥ = cc none in no)
null_alone kind.UnicodeEscape v none = absurd (let no : ⊥ = cc none in no)
null_alone kind.HexadecimalEscape v none = absurd (let no : ⊥ = cc none in no)
null_alone kind.Identifier v none = absurd (let no : ⊥ = cc none in no)
null_alone kind.SingleEscape v none = absurd (let no : ⊥ = cc none in no)
null_alone kind.ControlLetter v none = absurd (let no : ⊥ = cc none in no)
null_alone kind.Octal1 v none = absurd (let no : ⊥ = cc none in no)
null_alone kind.Octal2 v none = absurd (let no : ⊥ = cc none in no)
null_alone kind.Octal3 v none = absurd (let no : ⊥ = cc none in no)

pub shown_as_null : (c : Character) → shows_number c.kind ≡ false → character_shown c ≡ codes "\\0"
unfolding character_shown
shown_as_null c none = rw none (null_alone c.kind c.value none)
