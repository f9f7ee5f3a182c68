-- The owner of an offset is a deepest node that holds it, where one does.
use Rattle.std.proofs.Common.{◌≡◌, refl, ap, sym, ◌∙◌, ℕ, ◌+◌, ◌≤◌, ◌<◌, Bool, true, false, nat_lt, arith, ◌⊎◌, inl, inr, Option, Some, None, List, [], ◌∷◌, ◌++◌}
use Rattle.std.specs.Prelude.{if◌then◌else◌}
use Rattle.std.proofs.lemmas.Bool.Decides.{nat_tests}
use Rattle.rx_paint.specs.declared.token.Token.{Token}
use Rattle.rx_ast.specs.Forest.{Forest, nothing, tree, Path, here, inside, onward, LeadsTo}
use Rattle.rx_paint.specs.Owners.{DeepNode, deep_nodes, holds, deeper, deepest, token_or, owner, Owns}

-- a node is one of a list
abbrev IsOneOf : DeepNode → List DeepNode → Type 0
IsOneOf n [] = ⊥
IsOneOf n (m ∷ ms) = (n ≡ m) ⊎ IsOneOf n ms

in_left : (n : DeepNode) (xs ys : List DeepNode) → IsOneOf n xs → IsOneOf n (xs ++ ys)
in_left n [] ys i = absurd i
in_left n (x ∷ xs) ys (inl e) = inl e
in_left n (x ∷ xs) ys (inr i) = inr (in_left n xs ys i)

in_right : (n : DeepNode) (xs ys : List DeepNode) → IsOneOf n ys → IsOneOf n (xs ++ ys)
in_right n [] ys i = i
in_right n (x ∷ xs) ys i = inr (in_right n xs ys i)

in_both : (n : DeepNode) (xs ys : List DeepNode) → IsOneOf n (xs ++ ys) → IsOneOf n xs ⊎ IsOneOf n ys
in_both n [] ys i = inr i
in_both n (x ∷ xs) ys (inl e) = inl (inl e)
in_both n (x ∷ xs) ys (inr i) = elim (in_both n xs ys i) [ inl j ↦ inl (inr j) | inr j ↦ inr j ]

path_in : (path : Path) (f : Forest Token) (top depth : ℕ) (t : Token) → LeadsTo path top depth t f → IsOneOf (depth, t) (deep_nodes top f)
path_in path nothing top depth t at = absurd at
path_in here (tree m inner after) top depth t at = inl (ap (λ d. (d, t)) at.0 ∙ ap (λ u. (top, u)) at.1)
path_in (inside path) (tree m inner after) top depth t at = inr (in_left _ _ _ (path_in path inner (top + 1) depth t at))
path_in (onward path) (tree m inner after) top depth t at = inr (in_right _ (deep_nodes (top + 1) inner) _ (path_in path after top depth t at))

in_path : (f : Forest Token) (top : ℕ) (n : DeepNode) → IsOneOf n (deep_nodes top f) → (path : Path) × LeadsTo path top n.0 n.1 f
in_path nothing top n i = absurd i
in_path (tree m inner after) top n (inl e) = (here, (ap (λ (n : DeepNode). n.0) e, ap (λ (n : DeepNode). n.1) e))
in_path (tree m inner after) top n (inr i) = elim (in_both n (deep_nodes (top + 1) inner) (deep_nodes top after) i) [
  | inl j ↦ let p = in_path inner (top + 1) n j in (inside p.0, p.1)
  | inr j ↦ let p = in_path after top n j in (onward p.0, p.1)
]

-- what the search for the deepest finds
abbrev Finds : ℕ → List DeepNode → Option DeepNode → Type 0
Finds offset ns None = (m : DeepNode) → IsOneOf m ns → holds offset m.1 ≡ false
Finds offset ns (Some n) = IsOneOf n ns × (holds offset n.1 ≡ true) × ((m : DeepNode) → IsOneOf m ns → holds offset m.1 ≡ true → m.0 ≤ n.0)

not_both : (b : Bool) → b ≡ true → b ≡ false → ⊥
not_both b p q = let e : true ≡ false = sym p ∙ q in cc

finds_held : (offset : ℕ) (n : DeepNode) (ns : List DeepNode) (o : Option DeepNode) → holds offset n.1 ≡ true → Finds offset ns o → Finds offset (n ∷ ns) (deeper n o)
finds_held offset n ns None held found = (
  inl refl,
  held,
  λ m i k. elim i [
    | inl e ↦ let d : m.0 ≡ n.0 = ap (λ (n : DeepNode). n.0) e in omega arith
    | inr j ↦ absurd (not_both (holds offset m.1) k (found m j))
  ],
)
finds_held offset n ns (Some x) held found = elim (nat_lt n.0 x.0) as (λ b. nat_lt n.0 x.0 ≡ b → Finds offset (n ∷ ns) (if b then Some x else Some n)) [
  | true ↦ λ is. (
    inr found.0,
    found.1,
    λ m i k. elim i [
      | inl e ↦ let d : m.0 ≡ n.0 = ap (λ (n : DeepNode). n.0) e in let lt : n.0 ≤ x.0 = grind (arith, nat_tests) in omega arith
      | inr j ↦ found.2 m j k
    ],
  )
  | false ↦ λ is. (
    inl refl,
    held,
    λ m i k. elim i [
      | inl e ↦ let d : m.0 ≡ n.0 = ap (λ (n : DeepNode). n.0) e in omega arith
      | inr j ↦ let le : x.0 ≤ n.0 = grind (arith, nat_tests) in let more = found.2 m j k in omega arith
    ],
  )
] refl

finds_past : (offset : ℕ) (n : DeepNode) (ns : List DeepNode) (o : Option DeepNode) → holds offset n.1 ≡ false → Finds offset ns o → Finds offset (n ∷ ns) o
finds_past offset n ns None out found = λ m i. elim i [ inl e ↦ ap (λ (n : DeepNode). holds offset n.1) e ∙ out | inr j ↦ found m j ]
finds_past offset n ns (Some x) out found = (
  inr found.0,
  found.1,
  λ m i k. elim i [
    | inl e ↦ absurd (not_both (holds offset m.1) k (ap (λ (n : DeepNode). holds offset n.1) e ∙ out))
    | inr j ↦ found.2 m j k
  ],
)

finds : (offset : ℕ) (ns : List DeepNode) → Finds offset ns (deepest offset ns)
finds offset [] = λ m i. absurd i
finds offset (n ∷ ns) = elim (holds offset n.1) as (λ b. holds offset n.1 ≡ b → Finds offset (n ∷ ns) (if b then deeper n (deepest offset ns) else deepest offset ns)) [
  | true ↦ λ held. finds_held offset n ns (deepest offset ns) held (finds offset ns)
  | false ↦ λ out. finds_past offset n ns (deepest offset ns) out (finds offset ns)
] refl

no_deeper : (root : Token) (f : Forest Token) (offset depth : ℕ) → ((path : Path) (k : ℕ) (u : Token) → LeadsTo path 1 k u f → holds offset u ≡ true → k ≤ depth) → (path : Path) (k : ℕ) (u : Token) → LeadsTo path 0 k u (tree root f nothing) → holds offset u ≡ true → k ≤ depth
no_deeper root f offset depth below here k u at h = let e = at.0 in omega arith
no_deeper root f offset depth below (inside path) k u at h = below path k u at h
no_deeper root f offset depth below (onward path) k u at h = absurd at

none_deeper : (root : Token) (f : Forest Token) (offset : ℕ) → ((m : DeepNode) → IsOneOf m (deep_nodes 1 f) → holds offset m.1 ≡ false) → (path : Path) (k : ℕ) (u : Token) → LeadsTo path 0 k u (tree root f nothing) → holds offset u ≡ true → k ≤ 0
none_deeper root f offset none here k u at h = let e = at.0 in omega arith
none_deeper root f offset none (inside path) k u at h = absurd (not_both (holds offset u) h (none (k, u) (path_in path f 1 k u at)))
none_deeper root f offset none (onward path) k u at h = absurd at

owner_found : (root : Token) (f : Forest Token) (offset : ℕ) (o : Option DeepNode) → holds offset root ≡ true → Finds offset (deep_nodes 1 f) o → (path : Path) × (depth : ℕ) × Owns (tree root f nothing) offset path depth (token_or root o)
owner_found root f offset None held found = (here, 0, record { stands = (refl, refl); holds_it = held; deepest = none_deeper root f offset found })
owner_found root f offset (Some n) held found =
    let p = in_path f 1 n found.0 in
    (inside p.0, n.0, record { stands = p.1; holds_it = found.1; deepest = no_deeper root f offset n.0 (λ path k u at h. found.2 (k, u) (path_in path f 1 k u at) h) })

-- The owner is a deepest node that holds the offset.
pub owner_is : (root : Token) (f : Forest Token) (offset : ℕ) → root.span.start ≤ offset → offset < root.span.end → (path : Path) × (depth : ℕ) × Owns (tree root f nothing) offset path depth (owner root f offset)
owner_is root f offset low high = owner_found root f offset (deepest offset (deep_nodes 1 f)) (grind (arith, nat_tests)) (finds offset (deep_nodes 1 f))
