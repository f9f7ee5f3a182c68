-- A trace that reaches the states of another, in their order, and takes one or two Ticks for each Tick.
use Rattle.std.proofs.Common.{◌≡◌, refl, ap, sym, subst, ℕ, zero, suc, ◌*◌, ◌-◌, ◌≤◌, Bool, true, false, ◌==◌, if◌then◌else◌, Option, [], ◌∷◌, ◌++◌, arith}
use Rattle.rx_ast.specs.declared.leaf.LookAroundAssertionKind.{LookAroundAssertionKind}
use Rattle.rx_ast.specs.declared.leaf.LookAroundAssertionKind.TheVariants as look
use Rattle.rx_trace.specs.Traces.{State, Trace, tick, reached, and_then, front, cost, first, states}
use Rattle.rx_trace.specs.Matching.{with_slots_of, where_none, look_around_trace}
use Rattle.rx_trace.specs.Repeats.{is_over, one_less, after_turn, in_turn, repeat_trace}

-- The second follows the first: it is the first with some Ticks doubled.
pub data Follows : Trace → Trace → Type 0 where
  both_end : Follows [] []
  one_tick : (t u : Trace) → Follows t u → Follows (tick ∷ t) (tick ∷ u)
  two_ticks : (t u : Trace) → Follows t u → Follows (tick ∷ t) (tick ∷ tick ∷ u)
  both_reach : (s : State) (t u : Trace) → Follows t u → Follows (reached s ∷ t) (reached s ∷ u)

-- The states are the same,
pub follow-states : (t u : Trace) → Follows t u → states u ≡ states t
follow-states _ _ both_end = refl
follow-states _ _ (one_tick t u follows) = follow-states t u follows
follow-states _ _ (two_ticks t u follows) = follow-states t u follows
follow-states _ _ (both_reach s t u follows) = ap (λ ss. s ∷ ss) (follow-states t u follows)

-- so is the first,
pub follow-first : (t u : Trace) → Follows t u → first u ≡ first t
follow-first _ _ both_end = refl
follow-first _ _ (one_tick t u follows) = follow-first t u follows
follow-first _ _ (two_ticks t u follows) = follow-first t u follows
follow-first _ _ (both_reach s t u follows) = refl

-- and there are as many Ticks before it or more, and at most twice as many.
pub follow-cost : (t u : Trace) → Follows t u → (cost t ≤ cost u) × (cost u ≤ 2 * cost t)
follow-cost _ _ both_end = (omega arith, omega arith)
follow-cost _ _ (one_tick t u follows) = let ticks = follow-cost t u follows in (omega arith, omega arith)
follow-cost _ _ (two_ticks t u follows) = let ticks = follow-cost t u follows in (omega arith, omega arith)
follow-cost _ _ (both_reach s t u follows) = (omega arith, omega arith)

-- A trace follows itself.
pub follow-itself : (t : Trace) → Follows t t
follow-itself [] = both_end
follow-itself (tick ∷ t) = one_tick t t (follow-itself t)
follow-itself (reached s ∷ t) = both_reach s t t (follow-itself t)

-- What is made of two traces, of which one follows the other, follows: where another trace comes after,
pub follow-append : (t u v w : Trace) → Follows t u → Follows v w → Follows (t ++ v) (u ++ w)
follow-append _ _ v w both_end more = more
follow-append _ _ v w (one_tick t u follows) more = one_tick (t ++ v) (u ++ w) (follow-append t u v w follows more)
follow-append _ _ v w (two_ticks t u follows) more = two_ticks (t ++ v) (u ++ w) (follow-append t u v w follows more)
follow-append _ _ v w (both_reach s t u follows) more = both_reach s (t ++ v) (u ++ w) (follow-append t u v w follows more)

-- where each state is followed by a trace,
pub follow-then : (t u : Trace) (f g : State → Trace) → Follows t u → ((s : State) → Follows (f s) (g s)) → Follows (and_then t f) (and_then u g)
follow-then _ _ f g both_end each = both_end
follow-then _ _ f g (one_tick t u follows) each = one_tick (and_then t f) (and_then u g) (follow-then t u f g follows each)
follow-then _ _ f g (two_ticks t u follows) each = two_ticks (and_then t f) (and_then u g) (follow-then t u f g follows each)
follow-then _ _ f g (both_reach s t u follows) each = follow-append (f s) (g s) (and_then t f) (and_then u g) (each s) (follow-then t u f g follows each)

follow-front : (t u : Trace) → Follows t u → Follows (front t) (front u)
follow-front _ _ both_end = both_end
follow-front _ _ (one_tick t u follows) = one_tick (front t) (front u) (follow-front t u follows)
follow-front _ _ (two_ticks t u follows) = two_ticks (front t) (front u) (follow-front t u follows)
follow-front _ _ (both_reach s t u follows) = both_end

-- where they are the body of a look-around,
pub follow-look : (kind : LookAroundAssertionKind) (t u : Trace) (s : State) → Follows t u → Follows (look_around_trace kind t s) (look_around_trace kind u s)
follow-look kind t u s follows = by_kind kind
  where
    after : (rest : Option State → Trace) → Follows (front t ++ rest (first t)) (front u ++ rest (first u))
    after rest =
        follow-append (front t) (front u) (rest (first t)) (rest (first u)) (follow-front t u follows)
        (subst (λ o. Follows (rest (first t)) (rest o)) (sym (follow-first t u follows)) (follow-itself (rest (first t))))

    by_kind : (k : LookAroundAssertionKind) → Follows (look_around_trace k t s) (look_around_trace k u s)
    by_kind look.Lookahead = after (λ o. with_slots_of o s)
    by_kind look.NegativeLookahead = after (λ o. where_none o s)
    by_kind look.Lookbehind = after (λ o. with_slots_of o s)
    by_kind look.NegativeLookbehind = after (λ o. where_none o s)

after-turn : (min : ℕ) (s : State) (f g : State → Trace) → ((w : State) → Follows (f w) (g w)) → (w : State) → Follows (after_turn min s f w) (after_turn min s g w)
after-turn zero s f g each w = elim (w.place == s.place) as (λ b. Follows (if b then [] else f w) (if b then [] else g w)) [ true ↦ both_end | false ↦ each w ]
after-turn (suc min) s f g each w = each w

in-turn : (min : ℕ) (greedy : Bool) (s : State) (t u : Trace) → Follows t u → Follows (in_turn min greedy s t) (in_turn min greedy s u)
in-turn (suc min) greedy s t u follows = follows
in-turn zero true s t u follows = follow-append t u (reached s ∷ []) (reached s ∷ []) follows (follow-itself (reached s ∷ []))
in-turn zero false s t u follows = both_reach s t u follows

or-else : (b : Bool) (s : State) (t u : Trace) → Follows t u → Follows (if b then reached s ∷ [] else t) (if b then reached s ∷ [] else u)
or-else true s t u follows = follow-itself (reached s ∷ [])
or-else false s t u follows = follows

-- and where they are the body of a quantifier.
pub follow-repeat : (f g : State → Trace) (unset : State → State) (greedy : Bool) → ((s : State) → Follows (f s) (g s))
    → (turns min : ℕ) (max : Option ℕ) (s : State) → Follows (repeat_trace f unset greedy turns min max s) (repeat_trace g unset greedy turns min max s)
follow-repeat f g unset greedy each zero min max s =
    or-else (is_over max) s _ _ (in-turn min greedy s _ _ (follow-then (f (unset s)) (g (unset s)) (after_turn min s (λ w. [])) (after_turn min s (λ w. [])) (each (unset s))
    (λ w. follow-itself (after_turn min s (λ w. []) w))))
follow-repeat f g unset greedy each (suc turns) min max s =
    let again_f = (λ (w : State). repeat_trace f unset greedy turns (min - 1) (one_less max) w) in
    let again_g = (λ (w : State). repeat_trace g unset greedy turns (min - 1) (one_less max) w) in
    or-else (is_over max) s _ _ (in-turn min greedy s _ _ (follow-then (f (unset s)) (g (unset s)) (after_turn min s again_f) (after_turn min s again_g) (each (unset s))
    (after-turn min s again_f again_g (λ w. follow-repeat f g unset greedy each turns (min - 1) (one_less max) w))))
