-- The names of a row of marks are distinct exactly where no two of its marks have one name.
use Rattle.std.proofs.Common.{◌≡◌, refl, ap, subst, ℕ, zero, suc, ◌<◌, Option, Some, None, List, [], ◌∷◌, ◌++◌, Contains, arith, inl, inr}
use Rattle.std.proofs.lemmas.List.Elements.{Contains-append_left, Contains-append_right, Contains-append_cases}
use Rattle.rx_model.specs.declared.mode.Mode.{Mode}
use Rattle.rx_model.specs.FirstPass.Marks.{Mark, listed, mark_at, mark_name, names}
use Rattle.rx_model.specs.Trees.Names.{AreDistinct}

listed_there : (o : Option (List ℕ)) (name : List ℕ) → o ≡ Some name → Contains (listed o) name
listed_there None name h = absurd (let no : ⊥ = cc h in no)
listed_there (Some x) name h = let same : x ≡ name = cc h in (0, omega arith, same)

there_listed : (o : Option (List ℕ)) (name : List ℕ) → Contains (listed o) name → o ≡ Some name
there_listed None name c = let l = c.1 in absurd (omega arith)
there_listed (Some x) name (zero, l, e) = ap Some e
there_listed (Some x) name (suc k, l, e) = absurd (omega arith)

-- the name of a mark is among them
named_there : (mode : Mode) (ms : List Mark) (b : ℕ) (name : List ℕ) → mark_name mode (mark_at ms b) ≡ Some name → Contains (names mode ms) name
named_there mode [] b name h = absurd (let no : ⊥ = cc h in no)
named_there mode (m ∷ ms) zero name h = Contains-append_left (listed (mark_name mode m)) (names mode ms) name (listed_there (mark_name mode m) name h)
named_there mode (m ∷ ms) (suc b) name h = Contains-append_right (listed (mark_name mode m)) (names mode ms) name (named_there mode ms b name h)

-- and each of them is that of a mark
there_named : (mode : Mode) (ms : List Mark) (name : List ℕ) → Contains (names mode ms) name → (b : ℕ) × (mark_name mode (mark_at ms b) ≡ Some name)
there_named mode [] name c = let l = c.1 in absurd (omega arith)
there_named mode (m ∷ ms) name c = elim (Contains-append_cases (listed (mark_name mode m)) (names mode ms) name c) [
  | inl h ↦ (0, there_listed (mark_name mode m) name h)
  | inr h ↦ let r = there_named mode ms name h in (suc r.0, r.1)
]

tail_distinct : (o : Option (List ℕ)) (ns : List (List ℕ)) → AreDistinct (listed o ++ ns) → AreDistinct ns
tail_distinct None ns d = d
tail_distinct (Some x) ns d = d.1

head_apart : (o : Option (List ℕ)) (ns : List (List ℕ)) → AreDistinct (listed o ++ ns) → (name : List ℕ) → o ≡ Some name → Contains ns name → ⊥
head_apart None ns d name h c = absurd (let no : ⊥ = cc h in no)
head_apart (Some x) ns d name h c = let same : name ≡ x = cc h in d.0 (subst (Contains ns) same c)

one_more : (o : Option (List ℕ)) (ns : List (List ℕ)) → ((name : List ℕ) → o ≡ Some name → Contains ns name → ⊥) → AreDistinct ns → AreDistinct (listed o ++ ns)
one_more None ns f d = d
one_more (Some x) ns f d = (f x refl, d)

-- no two marks have one name
abbrev pub NoneTwice : Mode → List Mark → Type 0
NoneTwice mode ms = (a b : ℕ) (name : List ℕ) → a < b → mark_name mode (mark_at ms a) ≡ Some name → mark_name mode (mark_at ms b) ≡ Some name → ⊥

pub none_twice : (mode : Mode) (ms : List Mark) → AreDistinct (names mode ms) → NoneTwice mode ms
none_twice mode [] d a b name l h k = absurd (let no : ⊥ = cc k in no)
none_twice mode (m ∷ ms) d a zero name l h k = absurd (omega arith)
none_twice mode (m ∷ ms) d zero (suc b) name l h k = head_apart (mark_name mode m) (names mode ms) d name h (named_there mode ms b name k)
none_twice mode (m ∷ ms) d (suc a) (suc b) name l h k = none_twice mode ms (tail_distinct (mark_name mode m) (names mode ms) d) a b name (omega arith) h k

pub are_distinct : (mode : Mode) (ms : List Mark) → NoneTwice mode ms → AreDistinct (names mode ms)
are_distinct mode [] f = tt
are_distinct mode (m ∷ ms) f =
    one_more (mark_name mode m) (names mode ms) (λ name h c. let r = there_named mode ms name c in f 0 (suc r.0) name (omega arith) h r.1)
    (are_distinct mode ms (λ a b name l h k. f (suc a) (suc b) name (omega (arith, l)) h k))
