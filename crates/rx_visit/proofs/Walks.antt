-- How visits are put together.
use Rattle.std.proofs.Common.{◌≡◌, refl, ap, sym, ◌∙◌, subst, ℕ, ◌+◌, ◌<◌, ◌≤◌, Bool, true, false, List, [], ◌∷◌, ◌++◌, length, take, map, get_or}
use Rattle.std.proofs.lemmas.List.{map-append, take_more, take_all}
use Rattle.rx_ast.specs.Kinds.{Kind, children}
use Rattle.rx_visit.specs.Visits.{Visited, VisitedAll, descend, pass, none, next}

-- a node whose children were visited
pub descended : {V : Type 0} {entered : V → Kind → Bool → V → Type 0} {left : V → Kind → V → Type 0} {v w : V} {k : Kind} (ks : List Kind) (answer : Bool) (m n joined : V)
    → children k ≡ ks → answer ≡ true → entered v k answer m → VisitedAll entered left m ks n → joined ≡ n → left joined k w → Visited entered left v k w
descended {V} {entered} {left} {v} {w} {k} ks answer m n joined in_it answered enters visits is leaves =
    descend v k m n w (subst (λ b. entered v k b m) answered enters) (subst (λ cs. VisitedAll entered left m cs n) (sym in_it) visits) (subst (λ s. left s k w) is leaves)

-- a node that was passed over
pub passed : {V : Type 0} {entered : V → Kind → Bool → V → Type 0} {left : V → Kind → V → Type 0} {v w : V} {k : Kind} (answer : Bool) (m joined : V)
    → answer ≡ false → entered v k answer m → joined ≡ m → left joined k w → Visited entered left v k w
passed {V} {entered} {left} {v} {w} {k} answer m joined answered enters is leaves =
    pass v k m w (subst (λ b. entered v k b m) answered enters) (subst (λ s. left s k w) is leaves)

-- a node with no node in it
pub leaf : {V : Type 0} {entered : V → Kind → Bool → V → Type 0} {left : V → Kind → V → Type 0} {v w : V} {k : Kind} (answer : Bool) (m : V)
    → children k ≡ [] → entered v k answer m → left m k w → Visited entered left v k w
leaf true m in_it enters leaves = descended [] true m m m in_it refl enters (none m) refl leaves
leaf false m in_it enters leaves = passed false m m refl enters refl leaves

-- one node
pub one : {V : Type 0} {entered : V → Kind → Bool → V → Type 0} {left : V → Kind → V → Type 0} {v w : V} {k : Kind} → Visited entered left v k w → VisitedAll entered left v (k ∷ []) w
one visit = next _ _ _ _ _ visit (none _)

-- one node more
last : {V : Type 0} {entered : V → Kind → Bool → V → Type 0} {left : V → Kind → V → Type 0} {v m w : V} {ks : List Kind} {k : Kind}
    → VisitedAll entered left v ks m → Visited entered left m k w → VisitedAll entered left v (ks ++ (k ∷ [])) w
last (none v) visit = next _ _ _ _ _ visit (none _)
last (next v k m ks w first others) visit = next v k m _ _ first (last others visit)

-- one more of the nodes that a loop goes over
pub taken : {X : Type 0} (f : X → Kind) (xs : List X) (i : ℕ) (x : X) → i < length xs → x ≡ get_or xs i x → map f (take (i + 1) xs) ≡ map f (take i xs) ++ (f x ∷ [])
taken f xs i x within is = ap (λ ys. map f ys) (take_more xs i x within) ∙ map-append f (take i xs) (get_or xs i x ∷ []) ∙ ap (λ y. map f (take i xs) ++ (f y ∷ [])) (sym is)

-- a turn of a loop over nodes
pub turned : {V X : Type 0} {entered : V → Kind → Bool → V → Type 0} {left : V → Kind → V → Type 0} {v m w : V} (f : X → Kind) (xs : List X) (i : ℕ) (x : X)
    → i < length xs → x ≡ get_or xs i x → VisitedAll entered left v (map f (take i xs)) m → Visited entered left m (f x) w → VisitedAll entered left v (map f (take (i + 1) xs)) w
turned {V} {X} {entered} {left} {v} {m} {w} f xs i x within is so_far visit =
    subst (λ ks. VisitedAll entered left v ks w) (sym (taken f xs i x within is)) (last so_far visit)

-- the end of a loop over nodes
pub looped : {V X : Type 0} {entered : V → Kind → Bool → V → Type 0} {left : V → Kind → V → Type 0} {v w : V} (f : X → Kind) (xs : List X) (i : ℕ)
    → length xs ≤ i → VisitedAll entered left v (map f (take i xs)) w → VisitedAll entered left v (map f xs) w
looped {V} {X} {entered} {left} {v} {w} f xs i past visits = subst (λ ys. VisitedAll entered left v (map f ys) w) (take_all i xs past) visits

-- the same visit, by another form of the node
pub visited_as : {V : Type 0} {entered : V → Kind → Bool → V → Type 0} {left : V → Kind → V → Type 0} {v w : V} {k other : Kind} → other ≡ k → Visited entered left v k w → Visited entered left v other w
visited_as {V} {entered} {left} {v} {w} same visit = subst (λ it. Visited entered left v it w) (sym same) visit
