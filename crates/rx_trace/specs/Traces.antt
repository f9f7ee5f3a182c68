-- A trace: what the matcher of ECMA-262, 22.2.2, does from a state, in order. It takes a Tick for each term that it tries, and reaches states. Where the
-- standard's matcher calls its continuation with a state, the trace has that state; where it fails, what follows in the trace is what it tries next.
use Rattle.std.specs.Prelude.{ℕ, ◌+◌, Option, Some, None, List, [], ◌∷◌, ◌++◌}
use Rattle.rx_trace.specs.declared.answer.Slot.{Slot}

-- MatchState (22.2.2.1): a place of the input, endIndex, and the captures, one slot for each capturing group in order of opening
pub record State : Type 0 where
  pub place : ℕ
  pub slots : List Slot

pub data Event : Type 0 where
  tick : Event
  reached : State → Event

abbrev pub Trace : Type 0
Trace = List Event

-- The trace with each state s replaced by the trace f(s): f is the MatcherContinuation (22.2.2.1) that is called there.
abbrev pub and_then : Trace → (State → Trace) → Trace
and_then [] f = []
and_then (tick ∷ t) f = tick ∷ and_then t f
and_then (reached s ∷ t) f = f s ++ and_then t f

-- the Ticks before the first state, all Ticks where there is none
abbrev pub front : Trace → Trace
front [] = []
front (tick ∷ t) = tick ∷ front t
front (reached s ∷ t) = []

-- how many Ticks come before the first state, or in all where there is none
abbrev pub cost : Trace → ℕ
cost [] = 0
cost (tick ∷ t) = 1 + cost t
cost (reached s ∷ t) = 0

abbrev pub first : Trace → Option State
first [] = None
first (tick ∷ t) = first t
first (reached s ∷ t) = Some s

-- the states of a trace
abbrev pub states : Trace → List State
states [] = []
states (tick ∷ t) = states t
states (reached s ∷ t) = s ∷ states t
