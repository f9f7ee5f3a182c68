-- What a machine does with the code of a tree: a trace with silent marks too, of which each turn of the machine takes one at least.
use Rattle.std.specs.Prelude.{◌≡◌, ℕ, zero, suc, ◌+◌, ◌-◌, ◌≤◌, ◌<◌, Bool, true, false, ◌==◌, if◌then◌else◌, Option, Some, None, List, [], ◌∷◌, ◌++◌, length, take, drop}
use Rattle.rx_ast.specs.declared.leaf.LookAroundAssertionKind.{LookAroundAssertionKind}
use Rattle.rx_ast.specs.declared.leaf.LookAroundAssertionKind.TheVariants as look_kind
use Rattle.rx_trace.specs.declared.answer.Slot.{Slot}
use Rattle.rx_trace.specs.declared.answer.Slot.TheVariants.{Unset, Set}
use Rattle.rx_trace.specs.Traces.{State, Trace, tick, reached}
use Rattle.rx_trace.specs.Holding.{ahead, unit_before, boundary_holds}
use Rattle.rx_trace.specs.Repeats.{is_over, one_less}
use Rattle.rx_trace.specs.Groups.{unset_in, with_capture}
use Rattle.rx_trace.specs.Matching.{place_if_held, looks_back, place_over}
use Rattle.rx_program.specs.Codes.{Code, accept, reject, consume, assert, refer, enter_group, choose, sequence, capture, look_around, repeat}

pub data Mark : Type 0 where
  silent : Mark
  ticked : Mark
  reaches : State → Mark

-- Why: docs/DECISIONS.md, 77.
abbrev pub Run : Type 0
Run = List Mark

abbrev pub bind : Run → (State → Run) → Run
bind [] f = []
bind (silent ∷ r) f = silent ∷ bind r f
bind (ticked ∷ r) f = ticked ∷ bind r f
bind (reaches s ∷ r) f = f s ++ bind r f

-- a run without its silent marks
abbrev pub visible : Run → Trace
visible [] = []
visible (silent ∷ r) = visible r
visible (ticked ∷ r) = tick ∷ visible r
visible (reaches s ∷ r) = reached s ∷ visible r

-- marks, of each of which it is said whether it is a Tick, before what follows; and the budget before they were paid for
abbrev pub with_marks : List Bool → Run → Run
with_marks [] r = r
with_marks (true ∷ ticks) r = ticked ∷ with_marks ticks r
with_marks (false ∷ ticks) r = silent ∷ with_marks ticks r

abbrev pub paid_by : List Bool → ℕ → ℕ
paid_by [] budget = budget
paid_by (true ∷ ticks) budget = suc (paid_by ticks budget)
paid_by (false ∷ ticks) budget = paid_by ticks budget

abbrev pub is_negative : LookAroundAssertionKind → Bool
is_negative look_kind.Lookahead = false
is_negative look_kind.NegativeLookahead = true
is_negative look_kind.Lookbehind = false
is_negative look_kind.NegativeLookbehind = true

abbrev pub at_place : ℕ → State → State
at_place p s = record { place = p; slots = s.slots }

-- What a look-around does with the run of its body: it goes up to the first state there, and then to what follows.
abbrev pub look_around_run : Bool → Run → State → (State → Run) → Run
look_around_run false [] s k = silent ∷ []
look_around_run true [] s k = silent ∷ k s
look_around_run negative (silent ∷ r) s k = silent ∷ look_around_run negative r s k
look_around_run negative (ticked ∷ r) s k = ticked ∷ look_around_run negative r s k
look_around_run false (reaches w ∷ r) s k = silent ∷ k (at_place s.place w)
look_around_run true (reaches w ∷ r) s k = silent ∷ []

abbrev pub run_onward : Option ℕ → State → (State → Run) → Run
run_onward None s k = []
run_onward (Some p) s k = k (at_place p s)

abbrev pub turn_end_run : ℕ → ℕ → (State → Run) → State → Run
turn_end_run zero p again w = silent ∷ (if w.place == p then [] else again w)
turn_end_run (suc min) p again w = silent ∷ again w

abbrev pub in_turn_run : ℕ → Bool → Run → Run → Run
in_turn_run (suc min) greedy leave turn_run = turn_run
in_turn_run zero true leave turn_run = turn_run ++ (silent ∷ leave)
in_turn_run zero false leave turn_run = leave ++ (silent ∷ turn_run)

module _ (body rest : State → Run) (unset : State → State) (greedy : Bool) where
  abbrev pub repetition_run : ℕ → ℕ → Option ℕ → State → Run
  repetition_run zero min max s =
      silent ∷ (if is_over max then rest s else in_turn_run min greedy (rest s) (silent ∷ bind (body (unset s)) (turn_end_run min s.place (λ w. []))))
  repetition_run (suc turns) min max s =
      silent ∷ (if is_over max then rest s else in_turn_run min greedy (rest s) (silent ∷ bind (body (unset s)) (turn_end_run min s.place (λ w. repetition_run turns (min - 1) (one_less max) w))))

module _ (input : List ℕ) where
  -- the place to which a term leads over the unit at a place or, backward, over the one before it
  abbrev pub unit_to : Bool → (ℕ → Bool) → ℕ → Option ℕ
  unit_to false holds p = place_if_held holds (p + 1) (ahead input p)
  unit_to true holds p = place_if_held holds (p - 1) (unit_before input p)

  -- The test holds the units from place p to place q. These are at most `most`, and where they are fewer it does not hold the next one.
  pub record AreHeld (holds : ℕ → Bool) (p most q : ℕ) : Type 0 where
    pub order : p ≤ q
    pub within : q ≤ length input
    pub held : (i : ℕ) → p ≤ i → i < q → unit_to false holds i ≡ Some (i + 1)
    pub most_of : q - p ≤ most
    pub last : q - p < most → unit_to false holds q ≡ None

  abbrev pub slot_to : Bool → Slot → ℕ → Option ℕ
  slot_to back Unset p = Some p
  slot_to back (Set start end) p = place_over input back (take (end - start) (drop start input)) p

  abbrev pub code_run : Code → Bool → State → Run
  code_run accept back s = reaches s ∷ []
  code_run reject back s = silent ∷ []
  code_run (consume holds next) back s = ticked ∷ run_onward (unit_to back holds s.place) s (code_run next back)
  code_run (assert kind multiline next) back s = ticked ∷ (if boundary_holds multiline input kind s.place then code_run next back s else [])
  code_run (refer slot next) back s = ticked ∷ run_onward (slot_to back (slot s.slots) s.place) s (code_run next back)
  code_run (enter_group next) back s = ticked ∷ code_run next back s
  code_run (choose first other) back s = silent ∷ (code_run first back s ++ (silent ∷ code_run other back s))
  code_run (sequence first then') back s = silent ∷ bind (code_run first back s) (λ w. silent ∷ code_run then' back w)
  code_run (capture k body next) back s = ticked ∷ bind (code_run body back s) (λ w. silent ∷ code_run next back (with_capture k s.place w))
  code_run (look_around kind body next) back s = ticked ∷ look_around_run (is_negative kind) (code_run body (looks_back kind) s) s (code_run next back)
  code_run (repeat min max greedy from count body next) back s =
      ticked ∷ repetition_run (code_run body back) (code_run next back) (unset_in from count) greedy (min + length input) min max s
