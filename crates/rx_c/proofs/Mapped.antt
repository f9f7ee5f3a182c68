-- A list whose first items were changed, each by the same function.
use Rattle.std.proofs.Common.{◌≡◌, refl, ap, ◌∙◌, ℕ, zero, suc, ◌+◌, ◌<◌, ◌≤◌, arith, List, [], ◌∷◌, get_or, length, map, set}

abbrev pub mapped : {X : Type 0} → (X → X) → ℕ → List X → List X
mapped f zero xs = xs
mapped f (suc i) [] = []
mapped f (suc i) (x ∷ xs) = f x ∷ mapped f i xs

one_more : {X : Type 0} (f : X → X) (i : ℕ) (xs : List X) (default : X) → i < length xs → set (mapped f i xs) i (f (get_or (mapped f i xs) i default)) ≡ mapped f (suc i) xs
one_more f i [] default within = absurd (omega arith)
one_more f zero (x ∷ xs) default within = refl
one_more f (suc i) (x ∷ xs) default within = ap (λ ys. f x ∷ ys) (one_more f i xs default (omega arith))

pub mapped_more : {X : Type 0} (f : X → X) (i : ℕ) (xs ys : List X) (default new : X) → i < length xs → ys ≡ mapped f i xs → new ≡ f (get_or ys i default) → set ys i new ≡ mapped f (i + 1) xs
mapped_more f i xs ys default new within are is =
    let next : suc i ≡ i + 1 = omega arith in
    ap (λ y. set ys i y) is ∙ ap (λ zs. set zs i (f (get_or zs i default))) are ∙ one_more f i xs default within ∙ ap (λ n. mapped f n xs) next

pub mapped_all : {X : Type 0} (f : X → X) (i : ℕ) (xs : List X) → length xs ≤ i → mapped f i xs ≡ map f xs
mapped_all f zero [] past = refl
mapped_all f (suc i) [] past = refl
mapped_all f zero (x ∷ xs) past = absurd (omega arith)
mapped_all f (suc i) (x ∷ xs) past = ap (λ ys. f x ∷ ys) (mapped_all f i xs (omega arith))
