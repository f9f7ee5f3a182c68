-- What a machine does at turns over single units.
use Rattle.std.proofs.Common.{◌≡◌, refl, ap, sym, ◌∙◌, subst, ℕ, zero, suc, ◌+◌, ◌-◌, ◌≤◌, ◌<◌, Bool, true, false, if◌then◌else◌, Option, Some, None, List, [], ◌∷◌, ◌++◌, append-nil, length, arith}
use Rattle.rx_match.specs.declared.kinds.Repeated.{Repeated}
use Rattle.rx_match.specs.declared.machine.Machine.{Machine}
use Rattle.rx_match.specs.declared.machine.Action.TheVariants as action
use Rattle.rx_match.specs.declared.entry.Backtrack.{Backtrack}
use Rattle.rx_match.specs.declared.entry.Backtrack.TheVariants as backtrack
use Rattle.rx_program.specs.declared.step.Test.{Test}
use Rattle.rx_trace.specs.Traces.{State}
use Rattle.rx_trace.specs.Repeats.{one_less}
use Rattle.rx_trace.specs.Holding.{unit_before}
use Rattle.rx_trace.specs.Matching.{place_if_held}
use Rattle.rx_match.specs.Kinds.{IsUnit, fewer, allowed_within}
use Rattle.rx_match.specs.Runs.{Run, silent, with_marks, bind, unit_to, code_run, AreHeld}
use Rattle.rx_program.specs.Codes.{accept, consume, repeat}
use Rattle.rx_program.specs.Steps.{test_holds, code_at}
use Rattle.rx_match.specs.Machines.{continuations_at, continuation_run, turns_run, choices_run}
use Rattle.rx_match.specs.MachineSteps.{state_of, with_backtracking, continuation_of, run_ahead, IsSound, IsRepetitionAt, with_earlier, IsOverUnits, TakesMarks}
use Rattle.rx_match.proofs.EnoughTurns.{inside}
use Rattle.rx_match.proofs.Moving.{MovesTo, unit-moves}
use Rattle.rx_match.proofs.Entries.{placed-choice, depth-choice}
use Rattle.rx_match.proofs.StackRuns.{stack_run-marked, stack_run-choice}
use Rattle.rx_match.proofs.UnitTurns.{turn_marks, turns_paid, allows, turn_held, turn_not_held, turns, leaves, left_by, turns_are, all_turns, lefts, lefts_none, lefts_some}

-- a unit leads to another place of the input
unit_apart : (input : List ℕ) (back : Bool) (holds : ℕ → Bool) (p q : ℕ) → unit_to input back holds p ≡ Some q → q ≡ p → ⊥
unit_apart input false holds p q is same = let e = by_option (Rattle.rx_trace.specs.Holding.ahead input p) is in omega arith
  where
    by_option : (o : Option ℕ) → place_if_held holds (p + 1) o ≡ Some q → q ≡ p + 1
    by_option None is = absurd (cc)
    by_option (Some c) is = by_test (holds c) is
      where
        by_test : (b : Bool) → (if b then Some (p + 1) else None) ≡ Some q → q ≡ p + 1
        by_test true is = cc
        by_test false is = absurd (cc)
unit_apart input true holds zero q is same = absurd (cc)
unit_apart input true holds (suc p) q is same = let e = by_option (unit_before input (suc p)) is in omega arith
  where
    by_option : (o : Option ℕ) → place_if_held holds (suc p - 1) o ≡ Some q → q ≡ suc p - 1
    by_option None is = absurd (cc)
    by_option (Some c) is = by_test (holds c) is
      where
        by_test : (b : Bool) → (if b then Some (suc p - 1) else None) ≡ Some q → q ≡ suc p - 1
        by_test true is = cc
        by_test false is = absurd (cc)

unit_within : (input : List ℕ) (back : Bool) (holds : ℕ → Bool) (p q : ℕ) → p ≤ length input → unit_to input back holds p ≡ Some q → q ≤ length input
unit_within input back holds p q within is = inside (length input) back p q (subst (MovesTo input back p) is (unit-moves input back holds p within))

-- a machine at another place, with some of its budget paid
abbrev moved : Machine → ℕ → ℕ → Machine
moved m place budget = record m { place = place; budget = budget }

sound_moved : (m : Machine) (place budget : ℕ) → IsSound m → place ≤ length m.input.now → IsSound (moved m place budget)
sound_moved m place budget sound within = record { ordered = sound.ordered; stacked = sound.stacked; head = sound.head; placed = sound.placed; depth = sound.depth; place = within }

pub budget_with_earlier : (m : Machine) (p free next : ℕ) → (with_earlier m p free next).budget ≡ m.budget
budget_with_earlier m p zero next = refl
budget_with_earlier m p (suc free) next = refl

module _ (m : Machine) (i : ℕ) (it : Repeated) (t : Test) (min : ℕ) (max : Option ℕ) (sound : IsSound m) (is : IsRepetitionAt m i it.turns it.body it.next) where
  unit_code : IsUnit m.program.now it t → code_at m.program.now i ≡ repeat it.turns.min it.turns.max it.turns.greedy it.turns.from 0 (consume (test_holds t) accept) (code_at m.program.now it.next)
  unit_code unit =
      is
      ∙ ap (λ n. repeat it.turns.min it.turns.max it.turns.greedy it.turns.from n (code_at m.program.now it.body) (code_at m.program.now it.next)) unit.no_group
      ∙ ap (λ c. repeat it.turns.min it.turns.max it.turns.greedy it.turns.from 0 c (code_at m.program.now it.next)) unit.body

  -- a turn, where the unit is held
  pub takes_turn : IsUnit m.program.now it t → (q less budget : ℕ) (bound : Option ℕ) → unit_to m.input.now m.back (test_holds t) m.place ≡ Some q → m.budget ≡ suc budget → less ≡ min - 1 → bound ≡ one_less max
      → TakesMarks m (moved m q budget) (run_ahead m (action.BeginTurn i min max)) (run_ahead (moved m q budget) (action.Repeat i less bound))
  takes_turn unit q less budget bound held paid owed allowed =
      let input = m.input.now in
      let c = code_at m.program.now i in
      let w : State = record { place = q; slots = m.slots.items } in
      record {
        ticks = false;
        more = true ∷ false ∷ [];
        cut = ap (λ r. with_backtracking m (bind r (continuation_of m))) (turn_held input (test_holds t) c it.turns.min it.turns.max it.turns.greedy it.turns.from (code_at m.program.now it.next) (unit_code unit) m.back min max (state_of m) q held (unit_apart input m.back (test_holds t) m.place q held))
            ∙ stack_run-marked input m.program.now (false ∷ true ∷ false ∷ []) m.frames m.entries m.back m.slots.items (bind (turns_run input m.back (min - 1) (one_less max) w c) (continuation_of m))
            ∙ ap (λ n. with_marks (false ∷ true ∷ false ∷ []) (with_backtracking m (bind (turns_run input m.back n (one_less max) w c) (continuation_of m)))) (sym owed)
            ∙ ap (λ o. with_marks (false ∷ true ∷ false ∷ []) (with_backtracking m (bind (turns_run input m.back less o w c) (continuation_of m)))) (sym allowed);
        paid = paid;
        input = refl;
        program = refl;
        sound = sound_moved m q budget sound (unit_within input m.back (test_holds t) m.place q sound.place held);
      }

  pub takes_failed_turn : IsUnit m.program.now it t → (budget : ℕ) → unit_to m.input.now m.back (test_holds t) m.place ≡ None → m.budget ≡ suc budget
      → TakesMarks m (record m { budget = budget }) (run_ahead m (action.BeginTurn i min max)) (run_ahead (record m { budget = budget }) action.Backtrack)
  takes_failed_turn unit budget none paid =
      let input = m.input.now in
      record {
        ticks = false;
        more = true ∷ [];
        cut = ap (λ r. with_backtracking m (bind r (continuation_of m))) (turn_not_held input (test_holds t) (code_at m.program.now i) it.turns.min it.turns.max it.turns.greedy it.turns.from (code_at m.program.now it.next) (unit_code unit) m.back min max (state_of m) none)
            ∙ stack_run-marked input m.program.now (false ∷ true ∷ []) m.frames m.entries m.back m.slots.items [];
        paid = paid;
        input = refl;
        program = refl;
        sound = sound_moved m m.place budget sound sound.place;
      }

  -- ahead, whatever the machine's direction is
  ahead_is : m.back ≡ false → (f : Bool → Run) → with_backtracking m (f m.back) ≡ with_backtracking m (f false)
  ahead_is ahead f = ap (λ b. with_backtracking m (f b)) ahead

  module _ (over : IsOverUnits m it max t) where
    abbrev k' : State → Run
    k' = continuation_run m.input.now false (continuations_at m.program.now m.frames m.head)

    abbrev turns_at : ℕ → Option ℕ → ℕ → Run
    turns_at n o p = turns m.input.now (test_holds t) (code_at m.program.now i) it.turns.min it.turns.max it.turns.greedy it.turns.from (code_at m.program.now it.next) (unit_code over.over_unit.unit) m.slots.items k' over.greedy n o p

    abbrev leaves_at : ℕ → Run
    leaves_at p = leaves m.input.now (test_holds t) (code_at m.program.now i) it.turns.min it.turns.max it.turns.greedy it.turns.from (code_at m.program.now it.next) (unit_code over.over_unit.unit) m.slots.items k' over.greedy p

    abbrev lefts_at : ℕ → ℕ → ℕ → Run
    lefts_at k n p = lefts m.input.now (test_holds t) (code_at m.program.now i) it.turns.min it.turns.max it.turns.greedy it.turns.from (code_at m.program.now it.next) (unit_code over.over_unit.unit) m.slots.items k' over.greedy k n p

    repeats_at : run_ahead m (action.Repeat i min max) ≡ with_backtracking m (turns_at min max m.place)
    repeats_at = ahead_is over.ahead (λ b. bind (turns_run m.input.now b min max (state_of m) (code_at m.program.now i)) (continuation_run m.input.now b (continuations_at m.program.now m.frames m.head)))

    repeats_after : (place budget n : ℕ) (o : Option ℕ) → run_ahead (moved m place budget) (action.Repeat i n o) ≡ with_backtracking m (turns_at n o place)
    repeats_after place budget n o = ahead_is over.ahead (λ b. bind (turns_run m.input.now b n o (record { place = place; slots = m.slots.items }) (code_at m.program.now i)) (continuation_run m.input.now b (continuations_at m.program.now m.frames m.head)))

    -- The marks of so many turns, and what is left.
    turned : (k q : ℕ) → AreHeld m.input.now (test_holds t) m.place (allowed_within max m.budget) q → q ≡ m.place + k → run_ahead m (action.Repeat i min max) ≡ with_marks (turn_marks k) (with_backtracking m (turns_at (min - k) (fewer max k) (m.place + k) ++ lefts_at k min m.place))
    turned k q held at =
        let within = held.within in
        let few = held.most_of in
        repeats_at
        ∙ ap (with_backtracking m) (all_turns m.input.now (test_holds t) (code_at m.program.now i) it.turns.min it.turns.max it.turns.greedy it.turns.from (code_at m.program.now it.next) (unit_code over.over_unit.unit) m.slots.items k' over.greedy k min max m.place
        (λ j after below. held.held j after (omega arith)) (omega arith) (allows max m.budget k (omega arith)))
        ∙ stack_run-marked m.input.now m.program.now (turn_marks k) m.frames m.entries m.back m.slots.items (turns_at (min - k) (fewer max k) (m.place + k) ++ lefts_at k min m.place)

    -- turns that were all owed
    takes_owed_turns : (k q less budget : ℕ) (bound : Option ℕ) → AreHeld m.input.now (test_holds t) m.place (allowed_within max m.budget) q → q ≡ m.place + suc k → suc k ≤ min → less ≡ min - suc k → bound ≡ fewer max (suc k) → m.budget ≡ suc k + budget
        → TakesMarks m (moved m q budget) (run_ahead m (action.Repeat i min max)) (run_ahead (moved m q budget) (action.Repeat i less bound))
    takes_owed_turns k q less budget bound held at owed less_is bound_is paid =
        let x = turns_at (min - suc k) (fewer max (suc k)) (m.place + suc k) in
        let e = turns_paid (suc k) budget in
        record {
          ticks = false;
          more = false ∷ true ∷ false ∷ turn_marks k;
          cut = turned (suc k) q held at
              ∙ ap (λ r. with_marks (turn_marks (suc k)) (with_backtracking m r)) (ap (λ r. x ++ r) (lefts_none m.input.now (test_holds t) (code_at m.program.now i) it.turns.min it.turns.max it.turns.greedy it.turns.from (code_at m.program.now it.next) (unit_code over.over_unit.unit) m.slots.items k' over.greedy (suc k) min m.place owed) ∙ append-nil x
              ∙ ap (λ n. turns_at n (fewer max (suc k)) (m.place + suc k)) (sym less_is) ∙ ap (λ o. turns_at less o (m.place + suc k)) (sym bound_is) ∙ ap (λ p. turns_at less bound p) (sym at))
              ∙ ap (with_marks (turn_marks (suc k))) (sym (repeats_after q budget less bound));
          paid = paid ∙ sym e;
          input = refl;
          program = refl;
          sound = sound_moved m q budget sound held.within;
        }

    -- turns of which the last ones were not owed
    takes_free_turns : (e k q less budget : ℕ) (bound : Option ℕ) (entries : List Backtrack) → AreHeld m.input.now (test_holds t) m.place (allowed_within max m.budget) q → q ≡ m.place + suc k → suc k ≡ suc (min + e) → less ≡ min - suc k → bound ≡ fewer max (suc k) → m.budget ≡ suc k + budget
        → entries ≡ m.entries ++ (backtrack.Choice (q - 1) e it.next m.head (length m.frames) ∷ [])
        → TakesMarks m (record m { entries = entries; place = q; budget = budget }) (run_ahead m (action.Repeat i min max)) (run_ahead (record m { entries = entries; place = q; budget = budget }) (action.Repeat i less bound))
    takes_free_turns e k q less budget bound entries held at free less_is bound_is paid pushed =
        let x = turns_at (min - suc k) (fewer max (suc k)) (m.place + suc k) in
        let f = turns_paid (suc k) budget in
        let last : m.place + suc k - 1 ≡ q - 1 = omega arith in
        let within = held.within in
        record {
          ticks = false;
          more = false ∷ true ∷ false ∷ turn_marks k;
          cut = turned (suc k) q held at
              ∙ ap (λ r. with_marks (turn_marks (suc k)) (with_backtracking m r)) (ap (λ r. x ++ r) (lefts_some m.input.now (test_holds t) (code_at m.program.now i) it.turns.min it.turns.max it.turns.greedy it.turns.from (code_at m.program.now it.next) (unit_code over.over_unit.unit) m.slots.items k' over.greedy e (suc k) min m.place free ∙ ap (λ p. choices_run leaves_at e p) last)
              ∙ ap (λ y. y ++ choices_run leaves_at e (q - 1)) (ap (λ n. turns_at n (fewer max (suc k)) (m.place + suc k)) (sym less_is) ∙ ap (λ o. turns_at less o (m.place + suc k)) (sym bound_is) ∙ ap (λ p. turns_at less bound p) (sym at)))
              ∙ ap (with_marks (turn_marks (suc k))) (sym (after_choice x));
          paid = paid ∙ sym f;
          input = refl;
          program = refl;
          sound = record {
            ordered = sound.ordered;
            stacked = sound.stacked;
            head = sound.head;
            placed = placed-choice (length m.input.now) (length m.frames) (q - 1) e it.next m.head entries m.entries pushed (omega arith) (omega arith) sound.head sound.placed;
            depth = sound.depth ∙ sym (depth-choice (q - 1) e it.next m.head (length m.frames) entries m.entries pushed);
            place = held.within;
          };
        }
      where
        after_choice : (x : Run) → run_ahead (record m { entries = entries; place = q; budget = budget }) (action.Repeat i less bound) ≡ with_backtracking m (turns_at less bound q ++ choices_run leaves_at e (q - 1))
        after_choice x =
            let run : Bool → Run = λ b. bind (turns_run m.input.now b less bound (record { place = q; slots = m.slots.items }) (code_at m.program.now i)) (continuation_run m.input.now b (continuations_at m.program.now m.frames m.head)) in
            let leave : Bool → ℕ → Run = λ b p. bind (code_run m.input.now (code_at m.program.now it.next) b (record { place = p; slots = m.slots.items })) (continuation_run m.input.now b (continuations_at m.program.now m.frames m.head)) in
            stack_run-choice m.input.now m.program.now m.frames entries m.entries (q - 1) e it.next m.head (length m.frames) m.back m.slots.items (run m.back) pushed
            ∙ ahead_is over.ahead (λ b. run b ++ choices_run (leave b) e (q - 1))

    -- so many turns, of which some were not owed
    pub takes_turns : (k q less budget : ℕ) (bound : Option ℕ) → AreHeld m.input.now (test_holds t) m.place (allowed_within max m.budget) q → q ≡ m.place + suc k → less ≡ min - suc k → bound ≡ fewer max (suc k) → m.budget ≡ suc k + budget
        → TakesMarks m (moved (with_earlier m q (suc k - min) it.next) q budget) (run_ahead m (action.Repeat i min max)) (run_ahead (moved (with_earlier m q (suc k - min) it.next) q budget) (action.Repeat i less bound))
    takes_turns k q less budget bound held at less_is bound_is paid = by_free (suc k - min) refl
      where
        by_free : (free : ℕ) → free ≡ suc k - min → TakesMarks m (moved (with_earlier m q free it.next) q budget) (run_ahead m (action.Repeat i min max)) (run_ahead (moved (with_earlier m q free it.next) q budget) (action.Repeat i less bound))
        by_free zero is = takes_owed_turns k q less budget bound held at (omega arith) less_is bound_is paid
        by_free (suc e) is = takes_free_turns e k q less budget bound (m.entries ++ (backtrack.Choice (q - 1) e it.next m.head (length m.frames) ∷ [])) held at (omega arith) less_is bound_is paid refl

    not_held : (none : unit_to m.input.now false (test_holds t) m.place ≡ None) → run_ahead m (action.Repeat i min max) ≡ with_backtracking m (with_marks (false ∷ false ∷ true ∷ []) (left_by m.input.now (test_holds t) (code_at m.program.now i) it.turns.min it.turns.max it.turns.greedy it.turns.from (code_at m.program.now it.next) (unit_code over.over_unit.unit) m.slots.items k' over.greedy min m.place))
    not_held none =
        repeats_at
        ∙ ap (with_backtracking m) (turns_are m.input.now (test_holds t) (code_at m.program.now i) it.turns.min it.turns.max it.turns.greedy it.turns.from (code_at m.program.now it.next) (unit_code over.over_unit.unit) m.slots.items k' over.greedy min max m.place sound.place over.allowed
        ∙ ap (λ r. silent ∷ (bind r k' ++ left_by m.input.now (test_holds t) (code_at m.program.now i) it.turns.min it.turns.max it.turns.greedy it.turns.from (code_at m.program.now it.next) (unit_code over.over_unit.unit) m.slots.items k' over.greedy min m.place))
        (turn_not_held m.input.now (test_holds t) (code_at m.program.now i) it.turns.min it.turns.max it.turns.greedy it.turns.from (code_at m.program.now it.next) (unit_code over.over_unit.unit) false min max (state_of m) none))

    -- no unit is held, and no turn was owed
    pub takes_no_turn : (budget : ℕ) → unit_to m.input.now false (test_holds t) m.place ≡ None → min ≡ 0 → m.budget ≡ suc budget
        → TakesMarks m (record m { step = it.next; budget = budget }) (run_ahead m (action.Repeat i min max)) (run_ahead (record m { step = it.next; budget = budget }) action.Step)
    takes_no_turn budget none free paid = record {
      ticks = false;
      more = false ∷ true ∷ false ∷ [];
      cut = not_held none
          ∙ ap (λ n. with_backtracking m (with_marks (false ∷ false ∷ true ∷ []) (left_by m.input.now (test_holds t) (code_at m.program.now i) it.turns.min it.turns.max it.turns.greedy it.turns.from (code_at m.program.now it.next) (unit_code over.over_unit.unit) m.slots.items k' over.greedy n m.place))) free
          ∙ stack_run-marked m.input.now m.program.now (false ∷ false ∷ true ∷ false ∷ []) m.frames m.entries m.back m.slots.items (leaves_at m.place)
          ∙ ap (with_marks (false ∷ false ∷ true ∷ false ∷ [])) (sym (ahead_is over.ahead (λ b. bind (code_run m.input.now (code_at m.program.now it.next) b (state_of m)) (continuation_run m.input.now b (continuations_at m.program.now m.frames m.head)))));
      paid = paid;
      input = refl;
      program = refl;
      sound = record { ordered = sound.ordered; stacked = sound.stacked; head = sound.head; placed = sound.placed; depth = sound.depth; place = sound.place };
    }

    -- no unit is held, and a turn was owed
    pub takes_lost_turn : (budget : ℕ) → unit_to m.input.now false (test_holds t) m.place ≡ None → 0 < min → m.budget ≡ suc budget
        → TakesMarks m (record m { budget = budget }) (run_ahead m (action.Repeat i min max)) (run_ahead (record m { budget = budget }) action.Backtrack)
    takes_lost_turn budget none owed paid = record {
      ticks = false;
      more = false ∷ true ∷ [];
      cut = not_held none
          ∙ ap (λ r. with_backtracking m (with_marks (false ∷ false ∷ true ∷ []) r)) (nothing_left min owed)
          ∙ stack_run-marked m.input.now m.program.now (false ∷ false ∷ true ∷ []) m.frames m.entries m.back m.slots.items [];
      paid = paid;
      input = refl;
      program = refl;
      sound = sound_moved m m.place budget sound sound.place;
    }
      where
        nothing_left : (n : ℕ) → 0 < n → left_by m.input.now (test_holds t) (code_at m.program.now i) it.turns.min it.turns.max it.turns.greedy it.turns.from (code_at m.program.now it.next) (unit_code over.over_unit.unit) m.slots.items k' over.greedy n m.place ≡ []
        nothing_left zero owed = absurd (omega arith)
        nothing_left (suc n) owed = refl
