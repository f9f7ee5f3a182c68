-- Bytes that lack one, and the first place of a byte.
use Rattle.std.proofs.Common.{◌≡◌, refl, sym, ap, ◌∙◌, ℕ, zero, suc, ◌+◌, ◌<◌, true, ◌==◌, arith, List, [], ◌∷◌, ◌++◌, length, take, drop, get_or, slice_index, Some, None}
use Rattle.std.proofs.lemmas.Bool.{and_parts, and_from, not_from_false, false_from_ne_true, eqb-true}
use Rattle.std.proofs.lemmas.List.{take-append-drop, drop_more, get_or-take, length-take-le}
use Rattle.memchr.specs.Find.{IsFirstByte, is_byte}
use Rattle.rx_run.specs.Lines.{lacks}

pub lacks_none : (byte : ℕ) → lacks byte [] ≡ true
unfolding lacks
lacks_none byte = refl

pub lacks_from : (byte : ℕ) (xs : List ℕ) → ((k : ℕ) → k < length xs → (slice_index xs k == byte) ≡ true → ⊥) → lacks byte xs ≡ true
unfolding lacks
lacks_from byte [] h = refl
lacks_from byte (x ∷ xs) h =
    and_from _ _ (not_from_false _ (false_from_ne_true _ (h 0 (omega arith)))) (lacks_from byte xs (λ k l. h (suc k) (omega arith)))

pub lacks-append : (byte : ℕ) (xs ys : List ℕ) → lacks byte xs ≡ true → lacks byte ys ≡ true → lacks byte (xs ++ ys) ≡ true
unfolding lacks
lacks-append byte [] ys h g = g
lacks-append byte (x ∷ xs) ys h g = let p = and_parts _ _ h in and_from _ _ p.0 (lacks-append byte xs ys p.1 g)

pub lacks-take : (byte n : ℕ) (xs : List ℕ) → lacks byte xs ≡ true → lacks byte (take n xs) ≡ true
unfolding lacks
lacks-take byte zero xs h = refl
lacks-take byte (suc n) [] h = refl
lacks-take byte (suc n) (x ∷ xs) h = let p = and_parts _ _ h in and_from _ _ p.0 (lacks-take byte n xs p.1)

pub never_found : (byte : ℕ) (xs : List ℕ) → IsFirstByte (is_byte byte) xs None → lacks byte xs ≡ true
never_found byte xs h = lacks_from byte xs (λ k l. h k (omega arith) l)

pub first_found : (byte : ℕ) (xs : List ℕ) (at : ℕ) → IsFirstByte (is_byte byte) xs (Some at) → (xs ≡ take at xs ++ byte ∷ drop (at + 1) xs) × (lacks byte (take at xs) ≡ true)
first_found byte xs at h =
    let within : at < length xs = h.0.high in
    let here : get_or xs at 0 ≡ byte = eqb-true _ _ h.1 in
    let whole : take at xs ++ drop at xs ≡ xs = take-append-drop at xs in
    let more : drop at xs ≡ get_or xs at 0 ∷ drop (at + 1) xs = drop_more xs at 0 within in
    let len : length (take at xs) ≡ at = length-take-le at xs (omega arith) in (
      cc,
      lacks_from byte (take at xs) (λ k l is.
          let lt : k < at = omega arith in
          let same : get_or (take at xs) k 0 ≡ get_or xs k 0 = get_or-take at xs k 0 lt in
          h.0.before k (omega arith) lt (ap (λ (n : ℕ). n == byte) (sym same) ∙ is)),
    )
