-- What a read moves.
use Rattle.std.proofs.Common.{◌≡◌, ap, ◌∙◌, sym, ℕ, ◌+◌, ◌<◌, ◌≤◌, List, [], ◌++◌, length, take, drop, arith}
use Rattle.std.proofs.lemmas.List.{take-append-drop, drop-drop, drop_all}

-- The front of the bytes from `at` on was moved to a buffer, and none only where none was left or the buffer was empty.
pub moved : (bytes buffer left : List ℕ) (at n : ℕ) → drop at bytes ≡ left → take n buffer ≡ take n (drop at bytes) → (n ≡ 0 → 0 < length buffer → length bytes ≤ at) →
    (left ≡ take n buffer ++ drop (at + n) bytes) × (n ≡ 0 → 0 < length buffer → drop (at + n) bytes ≡ [])
moved bytes buffer left at n was front ended = (
  sym was ∙ sym (take-append-drop n (drop at bytes)) ∙ ap (λ xs. xs ++ drop n (drop at bytes)) (sym front) ∙ ap (λ xs. take n buffer ++ xs) (drop-drop n at bytes),
  λ none room. drop_all (at + n) bytes (omega (arith, ended none room)),
)
