-- A straight tree takes at most a Tick for each of its terms.
use Rattle.std.proofs.Common.{◌≡◌, refl, ap, sym, ◌∙◌, subst, ℕ, zero, suc, ◌+◌, ◌*◌, ◌≤◌, Bool, true, false, Option, Some, None, List, [], ◌∷◌, ◌++◌, append-nil, arith}
use Rattle.rx_ast.specs.declared.leaf.LookAroundAssertionKind.{LookAroundAssertionKind}
use Rattle.rx_ast.specs.declared.leaf.LookAroundAssertionKind.TheVariants as look_kind
use Rattle.rx_ast.specs.Tree as tree
use Rattle.rx_ast.specs.Tree.{Leaf, Node, Nodes, Alternatives, leaf, quantified, group, no_node, node, no_alternative, alternative, capturing, ignoring, looking}
use Rattle.rx_trace.specs.declared.answer.Slot.{Slot}
use Rattle.rx_trace.specs.declared.answer.Slot.TheVariants.{Unset, Set}
use Rattle.rx_trace.specs.Traces.{State, Trace, tick, reached, and_then, front, first, cost}
use Rattle.rx_trace.specs.Holding.{boundary_holds}
use Rattle.rx_trace.specs.Groups.{Names, groups_in, with_capture}
use Rattle.rx_trace.specs.declared.settings.Settings.{Settings}
use Rattle.rx_trace.specs.Matching.{update_settings, move_to, if_holds, with_slots_of, where_none, look_around_trace, looks_back, over_unit, back_reference_trace, leaf_trace, node_trace, nodes_trace, alternatives_trace}
use Rattle.std.proofs.Math.Nat.{suc-mul}
use Rattle.rx_trace.specs.Answers.{each_trace}
use Rattle.rx_trace.specs.Straight.{IsStraight, AreStraight, IsStraightDisjunction, terms_in, terms_in_all, terms_in_each}

-- at most so many Ticks, and at most one state, which is last
abbrev pub IsShort : ℕ → Trace → Type 0
IsShort n [] = Unit {0}
IsShort zero (tick ∷ t) = ⊥
IsShort (suc n) (tick ∷ t) = IsShort n t
IsShort n (reached s ∷ t) = t ≡ []

pub short-cost : (n : ℕ) (t : Trace) → IsShort n t → cost t ≤ n
short-cost n [] short = omega arith
short-cost zero (tick ∷ t) short = absurd short
short-cost (suc n) (tick ∷ t) short = let e = short-cost n t short in omega arith
short-cost zero (reached s ∷ t) short = omega arith
short-cost (suc n) (reached s ∷ t) short = omega arith

cost-append : (t u : Trace) → cost (t ++ u) ≤ cost t + cost u
cost-append [] u = omega arith
cost-append (tick ∷ t) u = let e = cost-append t u in omega arith
cost-append (reached s ∷ t) u = omega arith

-- the traces from a place and from so many places after it
pub each-cost : (at : ℕ → Trace) (n more p : ℕ) → ((q : ℕ) → cost (at q) ≤ n) → cost (each_trace at more p) ≤ suc more * n
each-cost at n zero p few = let e = few p in let one : 1 * n ≡ n = omega arith in omega arith
each-cost at n (suc more) p few =
    let e = few p in
    let rest = each-cost at n more (p + 1) few in
    let both = cost-append (at p) (each_trace at more (p + 1)) in
    let sum = suc-mul (suc more) n in
    omega arith

short-more : (n k : ℕ) (t : Trace) → n ≤ k → IsShort n t → IsShort k t
short-more n k [] more short = tt
short-more zero k (tick ∷ t) more short = absurd short
short-more (suc n) zero (tick ∷ t) more short = absurd (omega arith)
short-more (suc n) (suc k) (tick ∷ t) more short = short-more n k t (omega arith) short
short-more zero zero (reached s ∷ t) more short = short
short-more zero (suc k) (reached s ∷ t) more short = short
short-more (suc n) zero (reached s ∷ t) more short = short
short-more (suc n) (suc k) (reached s ∷ t) more short = short

-- a state that is last, and what follows it
short-last : (n k : ℕ) (s : State) (t : Trace) (f : State → Trace) → t ≡ [] → ((w : State) → IsShort k (f w)) → IsShort (n + k) (f s ++ and_then t f)
short-last n k s t f is each = short-more k (n + k) (f s ++ and_then t f) (omega arith) (subst (IsShort k) (sym (ap (λ t. f s ++ and_then t f) is ∙ append-nil (f s))) (each s))

-- one after the other
short-then : (n k : ℕ) (t : Trace) (f : State → Trace) → IsShort n t → ((w : State) → IsShort k (f w)) → IsShort (n + k) (and_then t f)
short-then n k [] f short each = tt
short-then zero k (tick ∷ t) f short each = absurd short
short-then (suc n) k (tick ∷ t) f short each = subst (λ m. IsShort m (tick ∷ and_then t f)) sum (short-then n k t f short each)
  where
    sum : suc (n + k) ≡ suc n + k
    sum = omega arith
short-then zero k (reached s ∷ t) f short each = short-last zero k s t f short each
short-then (suc n) k (reached s ∷ t) f short each = short-last (suc n) k s t f short each

one : (n : ℕ) (s : State) → IsShort n (reached s ∷ [])
one zero s = refl
one (suc n) s = refl

short-front : (n : ℕ) (t u : Trace) → IsShort n t → ((k : ℕ) → IsShort k u) → IsShort n (front t ++ u)
short-front n [] u short each = each n
short-front zero (tick ∷ t) u short each = absurd short
short-front (suc n) (tick ∷ t) u short each = short-front n t u short each
short-front zero (reached s ∷ t) u short each = each zero
short-front (suc n) (reached s ∷ t) u short each = each (suc n)

short-kept : (o : Option State) (s : State) (k : ℕ) → IsShort k (with_slots_of o s)
short-kept None s k = tt
short-kept (Some w) s k = one k (record { place = s.place; slots = w.slots })

short-unless : (o : Option State) (s : State) (k : ℕ) → IsShort k (where_none o s)
short-unless None s k = one k s
short-unless (Some w) s k = tt

short-looked : (kind : LookAroundAssertionKind) (n : ℕ) (t : Trace) (s : State) → IsShort n t → IsShort n (look_around_trace kind t s)
short-looked look_kind.Lookahead n t s short = short-front n t (with_slots_of (first t) s) short (short-kept (first t) s)
short-looked look_kind.NegativeLookahead n t s short = short-front n t (where_none (first t) s) short (short-unless (first t) s)
short-looked look_kind.Lookbehind n t s short = short-front n t (with_slots_of (first t) s) short (short-kept (first t) s)
short-looked look_kind.NegativeLookbehind n t s short = short-front n t (where_none (first t) s) short (short-unless (first t) s)

moved-short : (o : Option ℕ) (s : State) → IsShort 0 (move_to o s)
moved-short None s = tt
moved-short (Some p) s = refl

stays-short : (b : Bool) (s : State) → IsShort 0 (if_holds b s)
stays-short true s = refl
stays-short false s = tt

module _ (input : List ℕ) (names : Names) where
  unit-short : (back : Bool) (holds : ℕ → Bool) (s : State) → IsShort 0 (over_unit input back holds s)
  unit-short false holds s = moved-short _ s
  unit-short true holds s = moved-short _ s

  slot-short : (back : Bool) (sl : Slot) (s : State) → IsShort 0 (back_reference_trace input back sl s)
  slot-short back Unset s = refl
  slot-short back (Set start end) s = moved-short _ s

  leaf-short : (l : Leaf) (e : Settings) (back : Bool) (s : State) → IsShort 0 (leaf_trace input names e back l s)
  leaf-short (tree.boundary b) e back s = stays-short (boundary_holds e.multiline input b.kind s.place) s
  leaf-short (tree.character c) e back s = unit-short back _ s
  leaf-short (tree.dot d) e back s = unit-short back _ s
  leaf-short (tree.class_escape k) e back s = unit-short back _ s
  leaf-short (tree.property p) e back s = tt
  leaf-short (tree.class k) e back s = unit-short back _ s
  leaf-short (tree.indexed r) e back s = slot-short back _ s
  leaf-short (tree.named r) e back s = slot-short back _ s

  ticked : (n : ℕ) (t : Trace) → IsShort n t → IsShort (1 + n) (tick ∷ t)
  ticked n t short = subst (λ m. IsShort m (tick ∷ t)) sum short
    where
      sum : suc n ≡ 1 + n
      sum = omega arith

  mutual
    pub straight : (n : Node) (e : Settings) (back : Bool) (before : ℕ) (s : State) → IsStraight n → IsShort (terms_in n) (node_trace input names n e back before s)
    straight (leaf l) e back before s is = leaf-short l e back s
    straight (quantified d min max greedy n) e back before s is = absurd is
    straight (group d (capturing name) c more) e back before s is =
        let zero-more : terms_in_each more + 0 ≡ terms_in_each more = omega arith in
        ticked (terms_in_each more) _ (subst (λ m. IsShort m (and_then (alternatives_trace input names more e back (suc before) s) (λ w. reached (with_capture before s.place w) ∷ []))) zero-more
        (short-then (terms_in_each more) 0 (alternatives_trace input names more e back (suc before) s) (λ w. reached (with_capture before s.place w) ∷ []) (straight-one more e back (suc before) s is) (λ w. refl)))
    straight (group d (ignoring m) c more) e back before s is = ticked (terms_in_each more) _ (straight-one more (update_settings m e) back before s is)
    straight (group d (looking kind) c more) e back before s is = ticked (terms_in_each more) _ (short-looked kind (terms_in_each more) _ s (straight-one more e (looks_back kind) before s is))

    pub straight-all : (ns : Nodes) (e : Settings) (back : Bool) (before : ℕ) (s : State) → AreStraight ns → IsShort (terms_in_all ns) (nodes_trace input names ns e back before s)
    straight-all no_node e back before s is = refl
    straight-all (node n ns) e false before s is =
        short-then (terms_in n) (terms_in_all ns) (node_trace input names n e false before s) (nodes_trace input names ns e false (before + groups_in n)) (straight n e false before s is.0) (λ w. straight-all ns e false (before + groups_in n) w is.1)
    straight-all (node n ns) e true before s is =
        let end_turn : terms_in_all ns + terms_in n ≡ terms_in n + terms_in_all ns = omega arith in
        subst (λ m. IsShort m (and_then (nodes_trace input names ns e true (before + groups_in n) s) (node_trace input names n e true before))) end_turn
        (short-then (terms_in_all ns) (terms_in n) (nodes_trace input names ns e true (before + groups_in n) s) (node_trace input names n e true before) (straight-all ns e true (before + groups_in n) s is.1) (λ w. straight n e true before w is.0))

    pub straight-one : (more : Alternatives) (e : Settings) (back : Bool) (before : ℕ) (s : State) → IsStraightDisjunction more → IsShort (terms_in_each more) (alternatives_trace input names more e back before s)
    straight-one no_alternative e back before s is = absurd is
    straight-one (alternative d ns no_alternative) e back before s is =
        let zero-more : terms_in_all ns ≡ terms_in_all ns + 0 = omega arith in
        subst (λ m. IsShort m (nodes_trace input names ns e back before s ++ [])) zero-more (subst (IsShort (terms_in_all ns)) (sym (append-nil (nodes_trace input names ns e back before s))) (straight-all ns e back before s is))
    straight-one (alternative d ns (alternative d' ns' more)) e back before s is = absurd is
