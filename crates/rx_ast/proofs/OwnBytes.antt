-- Texts whose characters are their bytes.
use Rattle.std.proofs.Common.{◌≡◌, refl, ap, ap₂, ◌∙◌, ℕ, zero, suc, ◌-◌, ◌<◌, ◌^◌, arith, length, true, false, List, [], ◌∷◌, ◌++◌, replicate, codes, Option, Some, None, ◌==◌, ◌&&◌, append-nil}
use Rattle.std.specs.Char.{encode_utf8}
use Rattle.std.specs.Fmt.{char_count, decimal, digits, format_spec, padded_integral, radix_prefix, shown_prefix}
use Rattle.std.specs.Str.{encode_utf8_all}
use Rattle.std.specs.Str.Parse.{AllDigits}
use Rattle.std.specs.Option.{option_map}
use Rattle.std.proofs.lemmas.Fmt.{IsAscii-decimal, IsAscii-from_digits, digits_is_IsNumeral}
use Rattle.std.proofs.lemmas.Str.{encodes-IsAscii, encodes-append}
use Rattle.std.proofs.lemmas.Bool.Decides.{nat_tests}
use Rattle.rx_ast.specs.Shown.{at_least}
use Rattle.rx_ast.specs.Texts.{counts_text}

-- one after the other
pub own_bytes_then : (first second : List ℕ) → encode_utf8_all first ≡ first → encode_utf8_all second ≡ second → encode_utf8_all (first ++ second) ≡ first ++ second
own_bytes_then first second a b = encodes-append first second ∙ ap₂ (λ xs ys. xs ++ ys) a b

pub own_bytes_decimal : (n : ℕ) → n < 2 ^ 64 → encode_utf8_all (decimal n) ≡ decimal n
own_bytes_decimal n small = encodes-IsAscii (decimal n) (IsAscii-decimal n small)

-- the counts of a quantifier that are no sign alone
pub bytes_at_least : (min : ℕ) → min < 2 ^ 64 → (min == 0) ≡ false → (min == 1) ≡ false → encode_utf8_all (counts_text min None) ≡ codes "{" ++ (decimal min ++ codes ",}")
unfolding encode_utf8
bytes_at_least min small some more = rw (some, more) (own_bytes_then (codes "{") (decimal min ++ codes ",}") refl (own_bytes_then (decimal min) (codes ",}") (own_bytes_decimal min small) refl))

pub bytes_exactly : (min max : ℕ) → min < 2 ^ 64 → min ≡ max → encode_utf8_all (counts_text min (Some max)) ≡ codes "{" ++ (decimal min ++ codes "}")
unfolding encode_utf8
bytes_exactly min max small same =
    let no_sign : (min == 0 && max == 1) ≡ false = grind (arith, nat_tests) in
    let test : (min == max) ≡ true = grind (arith, nat_tests) in
    rw (no_sign, test) (own_bytes_then (codes "{") (decimal min ++ codes "}") refl (own_bytes_then (decimal min) (codes "}") (own_bytes_decimal min small) refl))

pub bytes_between : (min max : ℕ) → min < 2 ^ 64 → max < 2 ^ 64 → (min == 0 && max == 1) ≡ false → (min == max) ≡ false →
    encode_utf8_all (counts_text min (Some max)) ≡ codes "{" ++ (decimal min ++ (codes "," ++ (decimal max ++ codes "}")))
unfolding encode_utf8
bytes_between min max low high no_sign other =
    let end = own_bytes_then (decimal max) (codes "}") (own_bytes_decimal max high) refl in
    let following = own_bytes_then (codes ",") (decimal max ++ codes "}") refl end in
    rw (no_sign, other) (own_bytes_then (codes "{") (decimal min ++ (codes "," ++ (decimal max ++ codes "}"))) refl (own_bytes_then (decimal min) (codes "," ++ (decimal max ++ codes "}")) (own_bytes_decimal min low) following))

own_bytes_zeros : (n : ℕ) → encode_utf8_all (replicate n 48) ≡ replicate n 48
unfolding encode_utf8
own_bytes_zeros zero = refl
own_bytes_zeros (suc n) = ap (λ zeros. 48 ∷ zeros) (own_bytes_zeros n)

pub own_bytes_padded : (k : ℕ) (ds : List ℕ) → encode_utf8_all ds ≡ ds → encode_utf8_all (at_least k ds) ≡ at_least k ds
own_bytes_padded k ds own = own_bytes_then (replicate (k - length ds) 48) ds (own_bytes_zeros (k - length ds)) own

in_decimal : (ds : List ℕ) → AllDigits 8 ds → AllDigits 10 ds
in_decimal [] all = tt
in_decimal (d ∷ ds) all = (omega (arith, all.0), in_decimal ds all.1)

pub own_bytes_octal : (n : ℕ) → n < 2 ^ 32 → encode_utf8_all (digits 8 false n) ≡ digits 8 false n
own_bytes_octal n small =
    encodes-IsAscii (digits 8 false n) (IsAscii-from_digits (digits 8 false n) (in_decimal (digits 8 false n) (digits_is_IsNumeral 8 false (omega arith) (omega arith) n (omega arith)).0.1))

-- what a hole with a width writes of digits
padded_is : (k : ℕ) (ds : List ℕ) → padded_integral (format_spec 32 0 4 k (2 ^ 64 - 1)) false [] ds ≡ at_least k ds
unfolding padded_integral char_count
padded_is k ds =
    let zeros : k - length ds - 0 - 0 ≡ k - length ds = omega arith in
    ap₂ (λ n text. replicate n 48 ++ text) zeros (append-nil ds)

pub padded_output : (base k : ℕ) (o : Option (List ℕ)) (ds : List ℕ) → o ≡ Some ds →
    option_map (padded_integral (format_spec 32 0 4 k (2 ^ 64 - 1)) false (shown_prefix (format_spec 32 0 4 k (2 ^ 64 - 1)) (radix_prefix base))) o ≡ Some (at_least k ds)
padded_output base k o ds shown = rw shown (ap Some (padded_is k ds))
