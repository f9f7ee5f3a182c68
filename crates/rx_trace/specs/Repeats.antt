-- RepeatMatcher (22.2.2.3.1): what a quantifier does with the trace of its body.
use Rattle.std.specs.Prelude.{ℕ, zero, suc, ◌-◌, Bool, true, false, ◌==◌, if◌then◌else◌, Option, Some, None, [], ◌∷◌, ◌++◌}
use Rattle.rx_trace.specs.Traces.{State, Trace, reached, and_then}

-- whether no further turn is allowed
abbrev pub is_over : Option ℕ → Bool
is_over None = false
is_over (Some max) = max == 0

abbrev pub one_less : Option ℕ → Option ℕ
one_less None = None
one_less (Some max) = Some (max - 1)

-- After a turn from s that ends in w: nothing if no turn was owed and the turn was empty, otherwise what follows (step 2.b). A turn is owed while `min` is not 0.
abbrev pub after_turn : ℕ → State → (State → Trace) → State → Trace
after_turn zero s again w = if w.place == s.place then [] else again w
after_turn (suc min) s again w = again w

-- A turn that is owed is made (step 8). Otherwise a greedy quantifier first makes the turn and then goes on without it (step 10); one that is not greedy first goes on without
-- it and then makes it (step 9).
abbrev pub in_turn : ℕ → Bool → State → Trace → Trace
in_turn (suc min) greedy s turn = turn
in_turn zero true s turn = turn ++ reached s ∷ []
in_turn zero false s turn = reached s ∷ turn

module _ (body : State → Trace) (unset : State → State) (greedy : Bool) where
  -- Turns of the body, each from a state in which the captures inside it are unset (step 4). No more are allowed where max is 0 (step 1).
  -- In one direction no trace moves back, and an empty turn that is not owed leads to nothing. So no more turns follow one another than are owed, plus one for each
  -- unit of the input: the first number, which is counted down at each turn, is never what ends a repetition.
  abbrev pub repeat_trace : ℕ → ℕ → Option ℕ → State → Trace
  repeat_trace zero min max s =
      if is_over max then reached s ∷ [] else in_turn min greedy s (and_then (body (unset s)) (after_turn min s (λ w. [])))
  repeat_trace (suc turns) min max s =
      if is_over max then reached s ∷ [] else in_turn min greedy s (and_then (body (unset s)) (after_turn min s (λ w. repeat_trace turns (min - 1) (one_less max) w)))
