-- The slot of a group's name is that of its number, where no two groups have one name.
use Rattle.std.proofs.Common.{◌≡◌, refl, ap, sym, subst, ◌∙◌, ℕ, zero, suc, ◌≤◌, Bool, true, false, Decides, if◌then◌else◌, Some, None, List, [], ◌∷◌, ◌++◌, length, Contains, inl, inr, ◌⊎◌, arith}
use Rattle.std.proofs.lemmas.Bool.{false_from_ne_true, true≢false}
use Rattle.std.proofs.lemmas.List.Elements.{Contains-append_right}
use Rattle.std.proofs.lemmas.Slice.Eq.{bytes_eq-Decides}
use Rattle.rx_ast.specs.Tree.{Node, Nodes, Alternatives, leaf, quantified, group, no_node, node, no_alternative, alternative, capturing, ignoring, looking}
use Rattle.rx_model.specs.Trees.Names.{AreDistinct, node_names, nodes_names, alternatives_names}
use Rattle.rx_model.proofs.FirstPass.MarkNames.{contains_cases}
use Rattle.rx_trace.specs.declared.answer.Slot.{Slot}
use Rattle.rx_trace.specs.declared.answer.Slot.TheVariants.{Unset, Set}
use Rattle.rx_trace.specs.Groups.{Names, names_in, names_in_all, names_in_each, same_units, is_named, is_set, slot_of, slot_named}
use Rattle.rx_trace.proofs.EqualUnits.{pointwise_is}
use Rattle.rx_rewrite.specs.Rewriting.{one_up, number_of}

-- the names of those groups that have one
abbrev pub given_names : Names → List (List ℕ)
given_names [] = []
given_names (None ∷ ns) = given_names ns
given_names (Some name ∷ ns) = name ∷ given_names ns

given-append : (ns ms : Names) → given_names (ns ++ ms) ≡ given_names ns ++ given_names ms
given-append [] ms = refl
given-append (None ∷ ns) ms = given-append ns ms
given-append (Some name ∷ ns) ms = ap (λ xs. name ∷ xs) (given-append ns ms)

-- The names of a tree's groups are those that its groups have.
mutual
  pub given-node : (n : Node) → given_names (names_in n) ≡ node_names n
  given-node (leaf l) = refl
  given-node (quantified s min max greedy n) = given-node n
  given-node (group s (capturing None) d more) = given-each more
  given-node (group s (capturing (Some name)) d more) = ap (λ xs. name ∷ xs) (given-each more)
  given-node (group s (ignoring m) d more) = given-each more
  given-node (group s (looking kind) d more) = given-each more

  pub given-all : (ns : Nodes) → given_names (names_in_all ns) ≡ nodes_names ns
  given-all no_node = refl
  given-all (node n ns) = given-append (names_in n) (names_in_all ns) ∙ ap (λ xs. xs ++ given_names (names_in_all ns)) (given-node n) ∙ ap (λ xs. node_names n ++ xs) (given-all ns)

  pub given-each : (more : Alternatives) → given_names (names_in_each more) ≡ alternatives_names more
  given-each no_alternative = refl
  given-each (alternative s ns more) =
      given-append (names_in_all ns) (names_in_each more) ∙ ap (λ xs. xs ++ given_names (names_in_each more)) (given-all ns) ∙ ap (λ xs. nodes_names ns ++ xs) (given-each more)

pub same_decides : (a b : List ℕ) → Decides (same_units a b) (a ≡ b)
same_decides a b = subst (λ r. Decides r (a ≡ b)) (pointwise_is a b) (bytes_eq-Decides a b)

-- A name that no group has is that of number 0.
number_none : (name : List ℕ) (ns : Names) → (Contains (given_names ns) name → ⊥) → number_of name ns ≡ 0
number_none name [] none = refl
number_none name (None ∷ ns) none = ap one_up (number_none name ns none)
number_none name (Some other ∷ ns) none =
    let other_name : same_units name other ≡ false = false_from_ne_true (same_units name other) (λ same. none (0, omega arith, sym ((same_decides name other).0 same))) in
    ap (λ b. if b then 1 else one_up (number_of name ns)) other_name ∙ ap one_up (number_none name ns (λ there. none (Contains-append_right (other ∷ []) (given_names ns) name there)))

-- The number of a name that some group has is that of a group: from 1,
up-some : (k : ℕ) → 1 ≤ k → 1 ≤ one_up k
up-some zero some = some
up-some (suc k) some = omega arith

pub number_some : (name : List ℕ) (ns : Names) → Contains (given_names ns) name → 1 ≤ number_of name ns
number_some name [] there = let low = there.1 in absurd (omega arith)
number_some name (None ∷ ns) there = up-some (number_of name ns) (number_some name ns there)
number_some name (Some other ∷ ns) there = by_test (same_units name other) refl (contains_cases other (given_names ns) name there) (number_some name ns)
  where
    by_test : (b : Bool) → same_units name other ≡ b → (other ≡ name) ⊎ Contains (given_names ns) name → (Contains (given_names ns) name → 1 ≤ number_of name ns)
        → 1 ≤ (if b then 1 else one_up (number_of name ns))
    by_test true is cases rest = omega arith
    by_test false is (inl same) rest = absurd (true≢false (sym ((same_decides name other).1 (sym same)) ∙ is))
    by_test false is (inr more) rest = up-some (number_of name ns) (rest more)

-- up to the number of groups.
up-within : (k n : ℕ) → k ≤ n → one_up k ≤ suc n
up-within zero n within = omega arith
up-within (suc k) n within = omega arith

pub number_within : (name : List ℕ) (ns : Names) → number_of name ns ≤ length ns
number_within name [] = omega arith
number_within name (n ∷ ns) = by_test (is_named name n) (number_within name ns)
  where
    by_test : (b : Bool) → number_of name ns ≤ length ns → (if b then 1 else one_up (number_of name ns)) ≤ suc (length ns)
    by_test true within = omega arith
    by_test false within = up-within (number_of name ns) (length ns) within

slot-nil : (k : ℕ) → slot_of [] k ≡ Unset
slot-nil zero = refl
slot-nil (suc k) = refl

slot-up : (s : Slot) (ss : List Slot) (k : ℕ) → slot_of (s ∷ ss) (one_up k) ≡ slot_of ss k
slot-up s ss zero = refl
slot-up s ss (suc k) = refl

if_set : (name : List ℕ) (ns : Names) (ss : List Slot) (t : Slot) → slot_named name ns ss ≡ slot_of ss (number_of name ns) → number_of name ns ≡ 0 → (if is_set t then t else slot_named name ns ss) ≡ t
if_set name ns ss Unset rest none = rest ∙ ap (slot_of ss) none
if_set name ns ss (Set start end) rest none = refl

-- What a reference by name stands for is what one by number does (BackreferenceMatcher, 22.2.2.7.2).
pub named_slot : (name : List ℕ) (ns : Names) (slots : List Slot) → AreDistinct (given_names ns) → slot_named name ns slots ≡ slot_of slots (number_of name ns)
named_slot name [] slots distinct = refl
named_slot name (n ∷ ns) [] distinct = sym (slot-nil (number_of name (n ∷ ns)))
named_slot name (None ∷ ns) (s ∷ ss) distinct = named_slot name ns ss distinct ∙ sym (slot-up s ss (number_of name ns))
named_slot name (Some other ∷ ns) (s ∷ ss) distinct = by_test (same_units name other) refl (named_slot name ns ss distinct.1)
  where
    by_test : (b : Bool) → same_units name other ≡ b → slot_named name ns ss ≡ slot_of ss (number_of name ns)
        → (if b then (if is_set s then s else slot_named name ns ss) else slot_named name ns ss) ≡ slot_of (s ∷ ss) (if b then 1 else one_up (number_of name ns))
    by_test true is rest = if_set name ns ss s rest (number_none name ns (λ there. distinct.0 (subst (Contains (given_names ns)) ((same_decides name other).0 is) there)))
    by_test false is rest = rest ∙ sym (slot-up s ss (number_of name ns))
