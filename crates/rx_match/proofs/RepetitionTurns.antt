-- The turns of a repetition.
use Rattle.std.proofs.Common.{◌≡◌, refl, ap, sym, ◌∙◌, subst, ℕ, zero, suc, ◌-◌, ◌≤◌, ◌<◌, Bool, true, false, if◌then◌else◌, Option, List, [], ◌∷◌, ◌++◌, length, arith}
use Rattle.rx_trace.specs.declared.answer.Slot.{Slot}
use Rattle.rx_match.specs.declared.machine.Machine.{Machine}
use Rattle.rx_match.specs.declared.machine.Action.{Action}
use Rattle.rx_match.specs.declared.machine.Action.TheVariants as action
use Rattle.rx_program.specs.declared.step.Turns.{Turns}
use Rattle.rx_match.specs.declared.entry.Pending.TheVariants as pending
use Rattle.rx_match.specs.declared.entry.Backtrack.{Backtrack}
use Rattle.rx_match.specs.declared.entry.Backtrack.TheVariants as backtrack
use Rattle.std.specs.declared.vec.Vec.{Vec}
use Rattle.std.specs.declared.alloc.Global.{Global}
use Rattle.rx_trace.specs.Traces.{State}
use Rattle.rx_trace.specs.Repeats.{is_over, one_less}
use Rattle.rx_trace.specs.Groups.{unset_slots, unset_in}
use Rattle.rx_match.specs.Runs.{Run, silent, bind, turn_end_run, in_turn_run, code_run}
use Rattle.rx_program.specs.Codes.{Code, repeat}
use Rattle.rx_program.specs.Steps.{code_at}
use Rattle.rx_match.specs.Machines.{turn_run, turns_run}
use Rattle.rx_match.specs.SavedSlots.{IsRestored}
use Rattle.rx_match.specs.MachineSteps.{state_of, with_backtracking, continuation_of, run_ahead, IsSound, IsRepetitionAt, PushesFrame, TakesMarks}
use Rattle.rx_match.proofs.Runs.{bind-append}
use Rattle.rx_match.proofs.Moving.{code-inside}
use Rattle.rx_match.proofs.EnoughTurns.{full-is}
use Rattle.rx_match.proofs.StackRuns.{stack_run-silent, stack_run-choice, stack_run-turn}
use Rattle.rx_match.proofs.Entries.{placed-choice, placed-turn, depth-choice, depth-turn}
use Rattle.rx_match.proofs.Machines.{with_frame_is, sound_with_frame, sound_step}

-- one turn of a repetition, without a number of turns
pub looped_is : (input : List ℕ) (back : Bool) (min : ℕ) (max : Option ℕ) (s : State) (c : Code) (min' : ℕ) (max' : Option ℕ) (greedy : Bool) (from count : ℕ) (body next : Code)
    → c ≡ repeat min' max' greedy from count body next → s.place ≤ length input
    → turns_run input back min max s c ≡ silent ∷ (if is_over max then code_run input next back s else in_turn_run min greedy (code_run input next back s) (turn_run input back min max s c))
looped_is input back min max s c min' max' greedy from count body next is within =
    subst (λ c. turns_run input back min max s c ≡ silent ∷ (if is_over max then code_run input next back s else in_turn_run min greedy (code_run input next back s) (turn_run input back min max s c))) (sym is)
    (full-is (code_run input body back) (code_run input next back) (unset_in from count) greedy (length input) back (λ s within. code-inside input body back (unset_in from count s) within) min max s within)

module _ (m : Machine) (i : ℕ) (t : Turns) (body next min : ℕ) (max : Option ℕ) (sound : IsSound m) (is : IsRepetitionAt m i t body next) where
  abbrev leaves : Run
  leaves = code_run m.input.now (code_at m.program.now next) m.back (state_of m)

  abbrev turns : Run
  turns = turn_run m.input.now m.back min max (state_of m) (code_at m.program.now i)

  abbrev chosen : Run
  chosen = if is_over max then leaves else in_turn_run min t.greedy leaves turns

  pub repeats : run_ahead m (action.Repeat i min max) ≡ silent ∷ with_backtracking m (bind chosen (continuation_of m))
  repeats =
      ap (λ r. with_backtracking m (bind r (continuation_of m))) (looped_is m.input.now m.back min max (state_of m) (code_at m.program.now i) t.min t.max t.greedy t.from t.count (code_at m.program.now body) (code_at m.program.now next) is sound.place)
      ∙ stack_run-silent m.input.now m.program.now m.frames m.entries m.back m.slots.items (bind chosen (continuation_of m))

  takes : (v : Machine) (n : Action) → v.input ≡ m.input → v.program ≡ m.program → v.budget ≡ m.budget → IsSound v → with_backtracking m (bind chosen (continuation_of m)) ≡ run_ahead v n → TakesMarks m v (run_ahead m (action.Repeat i min max)) (run_ahead v n)
  takes v n inputs programs budgets sound' same = record { ticks = false; more = []; cut = repeats ∙ ap (λ r. silent ∷ r) same; paid = sym budgets; input = inputs; program = programs; sound = sound' }

  -- no more turns
  pub takes_over : is_over max ≡ true → TakesMarks m (record m { step = next }) (run_ahead m (action.Repeat i min max)) (run_ahead (record m { step = next }) action.Step)
  takes_over over =
      takes (record m { step = next }) action.Step refl refl refl (sound_step m next sound) (ap (λ b. with_backtracking m (bind (if b then leaves else in_turn_run min t.greedy leaves turns) (continuation_of m))) over)

  -- a turn is owed
  pub takes_owed : is_over max ≡ false → 0 < min → TakesMarks m m (run_ahead m (action.Repeat i min max)) (run_ahead m (action.BeginTurn i min max))
  takes_owed some owed =
      takes m (action.BeginTurn i min max) refl refl refl sound
      (ap (λ b. with_backtracking m (bind (if b then leaves else in_turn_run min t.greedy leaves turns) (continuation_of m))) some ∙ ap (λ r. with_backtracking m (bind r (continuation_of m))) (owed_is min owed turns))
    where
      owed_is : (k : ℕ) → 0 < k → (r : Run) → in_turn_run k t.greedy leaves r ≡ r
      owed_is zero owed r = absurd (omega arith)
      owed_is (suc k) owed r = refl

  free_is : (k : ℕ) (g : Bool) (r : Run) → k ≡ 0 → t.greedy ≡ g → in_turn_run k t.greedy leaves r ≡ in_turn_run 0 g leaves r
  free_is k g r none greedy = ap (λ k. in_turn_run k t.greedy leaves r) none ∙ ap (λ g. in_turn_run 0 g leaves r) greedy

  pub takes_greedy : (entries : List Backtrack) → is_over max ≡ false → min ≡ 0 → t.greedy ≡ true → entries ≡ m.entries ++ (backtrack.Choice m.place 0 next m.head (length m.frames) ∷ [])
      → TakesMarks m (record m { entries = entries }) (run_ahead m (action.Repeat i min max)) (run_ahead (record m { entries = entries }) (action.BeginTurn i min max))
  takes_greedy entries some none greedy pushed =
      takes (record m { entries = entries }) (action.BeginTurn i min max) refl refl refl
      (record {
        ordered = sound.ordered;
        stacked = sound.stacked;
        head = sound.head;
        placed = placed-choice (length m.input.now) (length m.frames) m.place 0 next m.head entries m.entries pushed sound.place (omega arith) sound.head sound.placed;
        depth = sound.depth ∙ sym (depth-choice m.place 0 next m.head (length m.frames) entries m.entries pushed);
        place = sound.place;
      })
      (ap (λ b. with_backtracking m (bind (if b then leaves else in_turn_run min t.greedy leaves turns) (continuation_of m))) some
      ∙ ap (λ r. with_backtracking m (bind r (continuation_of m))) (free_is min true turns none greedy)
      ∙ ap (λ r. with_backtracking m r) (bind-append turns (silent ∷ leaves) (continuation_of m))
      ∙ sym (stack_run-choice m.input.now m.program.now m.frames entries m.entries m.place 0 next m.head (length m.frames) m.back m.slots.items (bind turns (continuation_of m)) pushed))

  pub takes_lazy : (entries : List Backtrack) → is_over max ≡ false → min ≡ 0 → t.greedy ≡ false → entries ≡ m.entries ++ (backtrack.Turn m.place i min max m.head (length m.frames) ∷ [])
      → TakesMarks m (record m { entries = entries; step = next }) (run_ahead m (action.Repeat i min max)) (run_ahead (record m { entries = entries; step = next }) action.Step)
  takes_lazy entries some none lazy pushed =
      takes (record m { entries = entries; step = next }) action.Step refl refl refl
      (record {
        ordered = sound.ordered;
        stacked = sound.stacked;
        head = sound.head;
        placed = placed-turn (length m.input.now) (length m.frames) m.place i min max m.head entries m.entries pushed sound.place sound.head sound.placed;
        depth = sound.depth ∙ sym (depth-turn m.place i min max m.head (length m.frames) entries m.entries pushed);
        place = sound.place;
      })
      (ap (λ b. with_backtracking m (bind (if b then leaves else in_turn_run min t.greedy leaves turns) (continuation_of m))) some
      ∙ ap (λ r. with_backtracking m (bind r (continuation_of m))) (free_is min false turns none lazy)
      ∙ ap (λ r. with_backtracking m r) (bind-append leaves (silent ∷ turns) (continuation_of m))
      ∙ sym (stack_run-turn m.input.now m.program.now m.frames entries m.entries m.place i min max m.head (length m.frames) m.back m.slots.items (bind leaves (continuation_of m)) pushed))

-- a turn of a repetition
pub turn_is : (input : List ℕ) (back : Bool) (min : ℕ) (max : Option ℕ) (s : State) (c : Code) (min' : ℕ) (max' : Option ℕ) (greedy : Bool) (from count : ℕ) (body next : Code)
    → c ≡ repeat min' max' greedy from count body next
    → turn_run input back min max s c ≡ silent ∷ bind (code_run input body back (unset_in from count s)) (turn_end_run min s.place (λ w. turns_run input back (min - 1) (one_less max) w c))
turn_is input back min max s c min' max' greedy from count body next is =
    subst (λ c. turn_run input back min max s c ≡ silent ∷ bind (code_run input body back (unset_in from count s)) (turn_end_run min s.place (λ w. turns_run input back (min - 1) (one_less max) w c))) (sym is) refl

-- slots were unset
pub sound_restored : (m : Machine) (entries : List Backtrack) (slots : Vec Slot Global) (saved : Vec ℕ Global) → IsSound m → IsRestored m.entries m.slots.items entries slots.items → IsSound (record m { entries = entries; slots = slots; saved = saved })
sound_restored m entries slots saved sound restored = record {
  ordered = sound.ordered;
  stacked = sound.stacked;
  head = sound.head;
  placed = restored.placed (length m.input.now) (length m.frames) sound.placed;
  depth = sound.depth ∙ sym restored.depth;
  place = sound.place;
}

-- a turn begins: m with its slots unset is u, and u with what waits is v
pub takes_begin : (m v : Machine) (entries : List Backtrack) (slots : Vec Slot Global) (saved : Vec ℕ Global) (i : ℕ) (t : Turns) (body next min : ℕ) (max : Option ℕ) → IsSound m → IsRepetitionAt m i t body next
    → IsRestored m.entries m.slots.items entries slots.items → slots.items ≡ unset_slots t.from t.count m.slots.items
    → PushesFrame (record m { entries = entries; slots = slots; saved = saved }) v (pending.EndTurn min max m.place i)
    → TakesMarks m (record v { step = body }) (run_ahead m (action.BeginTurn i min max)) (run_ahead (record v { step = body }) action.Step)
takes_begin m v entries slots saved i t body next min max sound is restored unset pushed_frame =
    let input = m.input.now in
    let steps = m.program.now in
    let u : Machine = record m { entries = entries; slots = slots; saved = saved } in
    let c = code_at steps i in
    let bodied = code_run input (code_at steps body) m.back in
    let full' : State → Run = λ w. turns_run input m.back (min - 1) (one_less max) w c in
    let f : State → Run = turn_end_run min m.place full' in
    let began : run_ahead m (action.BeginTurn i min max) ≡ with_backtracking m (bind (silent ∷ bind (bodied (unset_in t.from t.count (state_of m))) f) (continuation_of m)) =
    ap (λ r. with_backtracking m (bind r (continuation_of m))) (turn_is input m.back min max (state_of m) c t.min t.max t.greedy t.from t.count (code_at steps body) (code_at steps next) is) in
    subst (λ x. TakesMarks m (record x { step = body }) (run_ahead m (action.BeginTurn i min max)) (run_ahead (record x { step = body }) action.Step)) (sym pushed_frame.shape)
    (record {
      ticks = false;
      more = [];
      cut = began
          ∙ stack_run-silent input steps m.frames m.entries m.back m.slots.items (bind (bind (bodied (unset_in t.from t.count (state_of m))) f) (continuation_of m))
          ∙ ap (λ sl. silent ∷ with_backtracking m (bind (bind (bodied (record { place = m.place; slots = sl })) f) (continuation_of m))) (sym unset)
          ∙ ap (λ r. silent ∷ r) (sym (restored.same input steps m.frames m.back (bind (bind (bodied (state_of u)) f) (continuation_of m))))
          ∙ ap (λ r. silent ∷ r) (with_frame_is u v (pending.EndTurn min max m.place i) body f pushed_frame (λ x. refl));
      paid = refl;
      input = refl;
      program = refl;
      sound = sound_with_frame u v (pending.EndTurn min max m.place i) body (sound_restored m entries slots saved sound restored) pushed_frame;
    })
