-- A loop over two lists, index by index.
use Rattle.std.proofs.Common.{◌≡◌, ap, sym, ◌∙◌, subst, ℕ, ◌+◌, ◌<◌, List, [], ◌∷◌, ◌++◌, length, take, get_or}
use Rattle.std.specs.List.{AllZip}
use Rattle.std.proofs.lemmas.List.{take_more}
use Rattle.std.proofs.lemmas.List.Elements.{AllZip-push}

module _ {A : Type 0} (R : A → A → Type 0) (xs ys : List A) (i : ℕ) (x y : A) (in_first : i < length xs) (here : x ≡ get_or xs i x) (there : y ≡ get_or ys i y) where
  pub pairs_more : i < length ys → AllZip R (take i xs) (take i ys) → R x y → AllZip R (take (i + 1) xs) (take (i + 1) ys)
  pairs_more in_second so_far now =
      let first : take (i + 1) xs ≡ take i xs ++ (x ∷ []) = take_more xs i x in_first ∙ ap (λ z. take i xs ++ (z ∷ [])) (sym here) in
      let second : take (i + 1) ys ≡ take i ys ++ (y ∷ []) = take_more ys i y in_second ∙ ap (λ z. take i ys ++ (z ∷ [])) (sym there) in
      subst (λ zs. AllZip R zs (take (i + 1) ys)) (sym first) (subst (λ zs. AllZip R (take i xs ++ (x ∷ [])) zs) (sym second) (AllZip-push R (take i xs) (take i ys) x y so_far now))
