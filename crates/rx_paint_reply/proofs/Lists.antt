-- Lists that are written element by element.
use Rattle.std.proofs.Common.{◌≡◌, ◌∙◌, refl, sym, ap, ℕ, ◌+◌, ◌<◌, List, ◌++◌, append_assoc, length, drop, get_or, add-one}
use Rattle.std.specs.List.{flat_map}
use Rattle.std.proofs.Math.Seq.{drop-cons}

-- one more element is written, and the rest is still to come
pub written_more : {X : Type 0} (text : X → List ℕ) (xs : List X) (i : ℕ) (d : X) (whole bytes more : List ℕ) → i < length xs
    → bytes ++ flat_map text (drop i xs) ≡ whole → more ≡ bytes ++ text (get_or xs i d) → more ++ flat_map text (drop (i + 1) xs) ≡ whole
written_more text xs i d whole bytes more within so_far e =
    let rest = flat_map text (drop (i + 1) xs) in
    let here : flat_map text (drop i xs) ≡ text (get_or xs i d) ++ rest = rw (add-one, drop-cons xs i d) refl in
    ap (λ (bytes : List ℕ). bytes ++ rest) e ∙ append_assoc bytes (text (get_or xs i d)) rest ∙ ap (λ (text : List ℕ). bytes ++ text) (sym here) ∙ so_far
