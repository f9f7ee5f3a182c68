-- Places between characters, in UTF-16.
use Rattle.std.proofs.Common.{◌≡◌, ◌∙◌, refl, ap, sym, ℕ, zero, suc, ◌+◌, ◌-◌, ◌<◌, Bool, true, false, cond, List, [], ◌∷◌, ◌++◌, length, length-append, arith}
use Rattle.std.proofs.lemmas.Str.{len_utf8_bounds, length-encode}
use Rattle.std.specs.Prelude.{encode_utf8_all, nat_lt, if◌then◌else◌}
use Rattle.std.specs.Char.{len_utf8}
use Rattle.std.specs.Char.Escape.{encode_utf16}
use Rattle.std.specs.List.{flat_map}
use lib.Utf8.{encode}
use Rattle.rx_places.specs.Places.{in_utf16, len_utf16, units_before}
use Rattle.rx_places.proofs.Tables.{none_before}

-- after a character
after_one : (c : ℕ) (cs : List ℕ) (n m : ℕ) → n ≡ len_utf8 c + m → units_before (c ∷ cs) n ≡ len_utf16 c + units_before cs m
unfolding units_before
after_one c cs zero m e = absurd (omega (arith, e, (len_utf8_bounds c).0))
after_one c cs (suc n) m e =
    let z : suc n - len_utf8 c ≡ m = omega (arith, e) in
    ap (λ k. len_utf16 c + units_before cs k) z

one_or_two : (b : Bool) (x y z : ℕ) → (if b then 1 else 2) ≡ length (cond b (x ∷ []) (y ∷ z ∷ []))
one_or_two true x y z = refl
one_or_two false x y z = refl

units_of_one : (c : ℕ) → len_utf16 c ≡ length (encode_utf16 c)
units_of_one c = one_or_two (nat_lt c 0x10000) _ _ _

pub units_of_front : (front back : List ℕ) → units_before (front ++ back) (length (encode_utf8_all front)) ≡ length (flat_map encode_utf16 front)
units_of_front [] back = none_before back
units_of_front (c ∷ cs) back =
    after_one c (cs ++ back) _ (length (encode_utf8_all cs)) (length-append (encode c) (encode_utf8_all cs) ∙ ap (λ k. k + length (encode_utf8_all cs)) (length-encode c))
    ∙ omega (arith, units_of_one c, units_of_front cs back, length-append (encode_utf16 c) (flat_map encode_utf16 cs))

pub units_at_place : (front back : List ℕ) (offset : ℕ) → in_utf16 (front ++ back) offset (offset + length (encode_utf8_all front)) ≡ offset + length (flat_map encode_utf16 front)
units_at_place front back offset =
    let z : offset + length (encode_utf8_all front) - offset ≡ length (encode_utf8_all front) = omega arith in
    ap (λ n. offset + units_before (front ++ back) n) z ∙ ap (λ n. offset + n) (units_of_front front back)
