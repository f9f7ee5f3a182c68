-- Relations that are reflexive, symmetric and transitive.
use Rattle.std.specs.Prelude.{◌≡◌, refl, List, [], ◌∷◌, Option, Some, None, MatchOption, IsNone, IsSomeAnd}
use Rattle.std.specs.List.{AllZip}
use Rattle.std.proofs.Common.{sym, ◌∙◌}
use Rattle.std.proofs.lemmas.Bool.{true≢false}

-- Why: docs/DECISIONS.md, 50.
pub record IsEquivalence {A : Type 0} (R : A → A → Type 0) : Type 0 where
  pub reflexive : (a : A) → R a a
  pub symmetric : (a b : A) → R a b → R b a
  pub transitive : (a b c : A) → R a b → R b c → R a c

-- Equal content is an equivalence.
pub same_content : {A C : Type 0} (content : A → C) → IsEquivalence {A = A} (λ a b. content a ≡ content b)
same_content content = record { reflexive = λ a. refl; symmetric = λ a b e. sym e; transitive = λ a b c e f. e ∙ f }

module _ {A : Type 0} (R : A → A → Type 0) where
  each_reflexive : ((a : A) → R a a) → (xs : List A) → AllZip R xs xs
  each_reflexive r [] = tt
  each_reflexive r (x ∷ xs) = (r x, each_reflexive r xs)

  each_symmetric : ((a b : A) → R a b → R b a) → (xs ys : List A) → AllZip R xs ys → AllZip R ys xs
  each_symmetric s [] [] h = tt
  each_symmetric s [] (y ∷ ys) h = absurd h
  each_symmetric s (x ∷ xs) [] h = absurd h
  each_symmetric s (x ∷ xs) (y ∷ ys) h = (s x y h.0, each_symmetric s xs ys h.1)

  each_transitive : ((a b c : A) → R a b → R b c → R a c) → (xs ys zs : List A) → AllZip R xs ys → AllZip R ys zs → AllZip R xs zs
  each_transitive t [] [] zs h k = k
  each_transitive t [] (y ∷ ys) zs h k = absurd h
  each_transitive t (x ∷ xs) [] zs h k = absurd h
  each_transitive t (x ∷ xs) (y ∷ ys) [] h k = absurd k
  each_transitive t (x ∷ xs) (y ∷ ys) (z ∷ zs) h k = (t x y z h.0 k.0, each_transitive t xs ys zs h.1 k.1)

  -- So is a relation item by item.
  pub each_equivalent : IsEquivalence R → IsEquivalence (AllZip R)
  each_equivalent is = record { reflexive = each_reflexive is.reflexive; symmetric = each_symmetric is.symmetric; transitive = each_transitive is.transitive }

  -- Both are `None`, or both are `Some` and related.
  abbrev pub BothOrNeither : Option A → Option A → Type 0
  BothOrNeither o p = MatchOption o (IsNone p) (λ x. IsSomeAnd p (R x))

  both_reflexive : ((a : A) → R a a) → (o : Option A) → BothOrNeither o o
  both_reflexive r None = refl
  both_reflexive r (Some x) = r x

  both_symmetric : ((a b : A) → R a b → R b a) → (o p : Option A) → BothOrNeither o p → BothOrNeither p o
  both_symmetric s None None h = refl
  both_symmetric s None (Some y) h = absurd (true≢false h)
  both_symmetric s (Some x) None h = absurd h
  both_symmetric s (Some x) (Some y) h = s x y h

  both_transitive : ((a b c : A) → R a b → R b c → R a c) → (o p q : Option A) → BothOrNeither o p → BothOrNeither p q → BothOrNeither o q
  both_transitive t None None q h k = k
  both_transitive t None (Some y) q h k = absurd (true≢false h)
  both_transitive t (Some x) None q h k = absurd h
  both_transitive t (Some x) (Some y) None h k = absurd k
  both_transitive t (Some x) (Some y) (Some z) h k = t x y z h k

  pub both_equivalent : IsEquivalence R → IsEquivalence BothOrNeither
  both_equivalent is = record { reflexive = both_reflexive is.reflexive; symmetric = both_symmetric is.symmetric; transitive = both_transitive is.transitive }
