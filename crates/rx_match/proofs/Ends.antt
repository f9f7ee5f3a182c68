-- What a machine does where a body ends, and where it fails.
use Rattle.std.proofs.Common.{◌≡◌, refl, ap, sym, ◌∙◌, subst, ℕ, zero, suc, ◌-◌, ◌≤◌, Bool, true, false, if◌then◌else◌, Option, Some, List, [], ◌∷◌, ◌++◌, append-nil, length, take, set, arith, min, max}
use Rattle.std.specs.Prelude.{slice_get}
use Rattle.std.proofs.lemmas.Bool.{eq-eqb}
use Rattle.std.specs.declared.vec.Vec.{Vec}
use Rattle.std.specs.declared.alloc.Global.{Global}
use Rattle.rx_ast.specs.declared.leaf.LookAroundAssertionKind.{LookAroundAssertionKind}
use Rattle.rx_trace.specs.declared.answer.Slot.{Slot}
use Rattle.rx_trace.specs.declared.answer.Slot.TheVariants.{Set}
use Rattle.rx_match.specs.declared.machine.Machine.{Machine}
use Rattle.rx_match.specs.declared.machine.Action.{Action}
use Rattle.rx_match.specs.declared.machine.Action.TheVariants as action
use Rattle.rx_match.specs.declared.entry.Frame.{Frame}
use Rattle.rx_match.specs.declared.entry.Pending.TheVariants as pending
use Rattle.rx_match.specs.declared.entry.Backtrack.{Backtrack}
use Rattle.rx_match.specs.declared.entry.Backtrack.TheVariants as backtrack
use Rattle.rx_trace.specs.Traces.{State}
use Rattle.rx_trace.specs.Repeats.{one_less}
use Rattle.rx_match.specs.Runs.{Run, with_marks, silent, reaches, bind, turn_end_run, code_run, is_negative, look_around_run}
use Rattle.rx_program.specs.Codes.{accept}
use Rattle.rx_match.specs.Machines.{pending_continuation, continuations_at, turn_run, turns_run, continuation_run, code_then, stack_run}
use Rattle.rx_program.specs.Steps.{code_at}
use Rattle.rx_match.specs.Sound.{AreStacked, ArePlaced, depth_in, cut_entries, top_in}
use Rattle.rx_match.specs.SavedSlots.{IsRestored}
use Rattle.rx_match.specs.MachineSteps.{state_of, with_backtracking, continuation_of, run_of, run_ahead, with_entry, with_earlier, return_machine, IsSound, KeepsBacktracking, TakesMarks, Resumes, ForgetsFrames, ReachesState, HasNoMore}
use Rattle.rx_match.proofs.Frames.{frames-none, frames-is, below-is}
use Rattle.rx_match.proofs.StackRuns.{stack_run-silent, stack_run-nil, stack_run-choice, stack_run-turn, stack_run-restore, stack_run-look_around, stack_run-cut, stack_run-reaches}
use Rattle.rx_match.proofs.Entries.{placed-more, placed-choice, choice-placed, turn-placed, restore-placed, look_around-placed, depth-choice, depth-turn, depth-restore, depth-look_around}
use Rattle.rx_match.proofs.Cuts.{placed-cut, depth-cut}
use Rattle.rx_match.proofs.Backs.{frames-cut_back, stack_run-cut_back, stacked-cut_back}
use Rattle.std.proofs.lemmas.List.{length-take-le}
use Rattle.rx_match.proofs.RepetitionTurns.{sound_restored}
use Rattle.rx_match.proofs.UnitTurns.{goes_on}

-- the body's end, with a frame
pub ended : (m : Machine) (i : ℕ) (f : Frame) → IsSound m → m.head ≡ suc i → slice_get m.frames i ≡ Some f
    → run_of m accept ≡ with_backtracking m (continuation_run m.input.now m.back (pending_continuation m.program.now f.pending ∷ continuations_at m.program.now m.frames f.below) (state_of m))
ended m i f sound top is =
    ap (λ r. with_backtracking m r) (append-nil (continuation_of m (state_of m)))
    ∙ ap (λ h. with_backtracking m (continuation_run m.input.now m.back (continuations_at m.program.now m.frames h) (state_of m))) top
    ∙ ap (λ ks. with_backtracking m (continuation_run m.input.now m.back ks (state_of m))) (frames-is m.program.now m.frames i f sound.stacked is)

-- the frame is taken
abbrev pub lowered : Machine → ℕ → Machine
lowered m below = record m { head = below }

pub sound_lowered : (m : Machine) (i : ℕ) (f : Frame) → IsSound m → m.head ≡ suc i → slice_get m.frames i ≡ Some f → IsSound (lowered m f.below)
sound_lowered m i f sound top is =
    let low = below-is m.program.now m.frames i f sound.stacked is in
    let head = sound.head in
    record { ordered = sound.ordered; stacked = sound.stacked; head = omega arith; placed = sound.placed; depth = sound.depth; place = sound.place }

pub takes_next : (m : Machine) (i : ℕ) (f : Frame) (next : ℕ) → IsSound m → m.head ≡ suc i → slice_get m.frames i ≡ Some f → f.pending ≡ pending.Next next
    → TakesMarks m (record m { head = f.below; step = next }) (run_of m accept) (run_ahead (record m { head = f.below; step = next }) action.Step)
takes_next m i f next sound top is w =
    let low = sound_lowered m i f sound top is in
    record {
      ticks = false;
      more = [];
      cut = ended m i f sound top is
          ∙ ap (λ w. with_backtracking m (continuation_run m.input.now m.back (pending_continuation m.program.now w ∷ continuations_at m.program.now m.frames f.below) (state_of m))) w
          ∙ stack_run-silent m.input.now m.program.now m.frames m.entries m.back m.slots.items (bind (code_run m.input.now (code_at m.program.now next) m.back (state_of m)) (continuation_run m.input.now m.back (continuations_at m.program.now m.frames f.below)));
      paid = refl;
      input = refl;
      program = refl;
      sound = record { ordered = low.ordered; stacked = low.stacked; head = low.head; placed = low.placed; depth = low.depth; place = low.place };
    }

pub takes_close : (m : Machine) (i : ℕ) (f : Frame) (group start next : ℕ) (entries : List Backtrack) (slots : Vec Slot Global) (saved : Vec ℕ Global) → IsSound m → m.head ≡ suc i → slice_get m.frames i ≡ Some f → f.pending ≡ pending.CloseGroup group start next
    → IsRestored m.entries m.slots.items entries slots.items → slots.items ≡ set m.slots.items group (Set (min start m.place) (max start m.place))
    → TakesMarks m (record m { head = f.below; step = next; entries = entries; slots = slots; saved = saved }) (run_of m accept) (run_ahead (record m { head = f.below; step = next; entries = entries; slots = slots; saved = saved }) action.Step)
takes_close m i f group start next entries slots saved sound top is w restored filled =
    let low = sound_restored (lowered m f.below) entries slots saved (sound_lowered m i f sound top is) restored in
    let rest : List Slot → Run = λ sl. bind (code_run m.input.now (code_at m.program.now next) m.back (record { place = m.place; slots = sl })) (continuation_run m.input.now m.back (continuations_at m.program.now m.frames f.below)) in
    record {
      ticks = false;
      more = [];
      cut = ended m i f sound top is
          ∙ ap (λ w. with_backtracking m (continuation_run m.input.now m.back (pending_continuation m.program.now w ∷ continuations_at m.program.now m.frames f.below) (state_of m))) w
          ∙ stack_run-silent m.input.now m.program.now m.frames m.entries m.back m.slots.items (rest (set m.slots.items group (Set (min start m.place) (max start m.place))))
          ∙ ap (λ sl. silent ∷ with_backtracking m (rest sl)) (sym filled)
          ∙ ap (λ r. silent ∷ r) (sym (restored.same m.input.now m.program.now m.frames m.back (rest slots.items)));
      paid = refl;
      input = refl;
      program = refl;
      sound = record { ordered = low.ordered; stacked = low.stacked; head = low.head; placed = low.placed; depth = low.depth; place = low.place };
    }

-- a turn ends: it goes on, or it was empty where none is owed
module _ (m : Machine) (i : ℕ) (f : Frame) (min : ℕ) (max : Option ℕ) (start repeat : ℕ) (sound : IsSound m) (top : m.head ≡ suc i) (is : slice_get m.frames i ≡ Some f) (w : f.pending ≡ pending.EndTurn min max start repeat) where
  turned : run_of m accept ≡ with_backtracking m (bind (turn_end_run min start (λ v. turns_run m.input.now m.back (min - 1) (one_less max) v (code_at m.program.now repeat)) (state_of m)) (continuation_run m.input.now m.back (continuations_at m.program.now m.frames f.below)))
  turned = ended m i f sound top is ∙ ap (λ w. with_backtracking m (continuation_run m.input.now m.back (pending_continuation m.program.now w ∷ continuations_at m.program.now m.frames f.below) (state_of m))) w

  pub takes_again : (less : ℕ) (fewer : Option ℕ) → ((min ≡ 0) → (m.place ≡ start) → ⊥) → less ≡ min - 1 → fewer ≡ one_less max
      → TakesMarks m (lowered m f.below) (run_of m accept) (run_ahead (lowered m f.below) (action.Repeat repeat less fewer))
  takes_again less fewer apart one one' =
      let again : State → Run = λ v. turns_run m.input.now m.back (min - 1) (one_less max) v (code_at m.program.now repeat) in
      let rest = continuation_run m.input.now m.back (continuations_at m.program.now m.frames f.below) in
      record {
        ticks = false;
        more = [];
        cut = turned
            ∙ ap (λ r. with_backtracking m (bind r rest)) (goes_on min start again (state_of m) apart)
            ∙ stack_run-silent m.input.now m.program.now m.frames m.entries m.back m.slots.items (bind (again (state_of m)) rest)
            ∙ ap (λ k. silent ∷ with_backtracking m (bind (turns_run m.input.now m.back k (one_less max) (state_of m) (code_at m.program.now repeat)) rest)) (sym one)
            ∙ ap (λ k. silent ∷ with_backtracking m (bind (turns_run m.input.now m.back less k (state_of m) (code_at m.program.now repeat)) rest)) (sym one');
        paid = refl;
        input = refl;
        program = refl;
        sound = sound_lowered m i f sound top is;
      }

  pub takes_empty : min ≡ 0 → m.place ≡ start → TakesMarks m (lowered m f.below) (run_of m accept) (run_ahead (lowered m f.below) action.Backtrack)
  takes_empty none same =
      let rest = continuation_run m.input.now m.back (continuations_at m.program.now m.frames f.below) in
      record {
        ticks = false;
        more = [];
        cut = turned
            ∙ ap (λ k. with_backtracking m (bind (turn_end_run k start (λ v. turns_run m.input.now m.back (min - 1) (one_less max) v (code_at m.program.now repeat)) (state_of m)) rest)) none
            ∙ ap (λ b. with_backtracking m (bind (silent ∷ (if b then [] else turns_run m.input.now m.back (min - 1) (one_less max) (state_of m) (code_at m.program.now repeat))) rest)) (eq-eqb m.place start same)
            ∙ stack_run-silent m.input.now m.program.now m.frames m.entries m.back m.slots.items [];
        paid = refl;
        input = refl;
        program = refl;
        sound = sound_lowered m i f sound top is;
      }

-- Nothing waits.
pub alone : (m : Machine) → m.head ≡ 0 → run_of m accept ≡ with_backtracking m (reaches (state_of m) ∷ [])
alone m none =
    ap (λ h. with_backtracking m (continuation_run m.input.now m.back (continuations_at m.program.now m.frames h) (state_of m) ++ [])) none
    ∙ ap (λ ks. with_backtracking m (continuation_run m.input.now m.back ks (state_of m) ++ [])) (frames-none m.program.now m.frames)

pub arrived_alone : (m : Machine) (r : Run) → IsSound m → m.depth ≡ 0 → r ≡ with_backtracking m (reaches (state_of m) ∷ []) → ReachesState m m r
arrived_alone m r sound none is =
    let it = stack_run-reaches m.input.now m.program.now m.frames m.entries m.back m.slots.items (state_of m) [] (sym sound.depth ∙ none) in
    record { rest = it.rest; is = is ∙ it.is; paid = refl }

-- the body of a look-around was matched
abbrev pub cut_to : Machine → List Backtrack → Bool → ℕ → Machine
cut_to m entries back depth = record m { entries = entries; back = back; depth = depth }

module _ (m : Machine) (p : ℕ) (kind : LookAroundAssertionKind) (next h fs : ℕ) (back : Bool) (entries : List Backtrack) (depth : ℕ) (sound : IsSound m) (top : top_in m.entries ≡ Some (backtrack.LookAround p kind next h fs back)) (is : entries ≡ cut_entries m.entries) (lower : suc depth ≡ m.depth) where
  sound_cut : IsSound (cut_to m entries back depth)
  sound_cut =
      let placed' = placed-cut (length m.input.now) (length m.frames) m.entries p kind next h fs back top sound.placed in
      let deep = depth-cut m.entries p kind next h fs back top in
      let was = sound.depth in
      let less : depth ≡ depth_in (cut_entries m.entries) = omega arith in
      record { ordered = sound.ordered; stacked = sound.stacked; head = sound.head; placed = subst (ArePlaced (length m.input.now) (length m.frames)) (sym is) (placed-more (length m.input.now) fs (length m.frames) (cut_entries m.entries) placed'.2 placed'.3); depth = less ∙ ap depth_in (sym is); place = sound.place }

  abbrev after_cut : Run
  after_cut = code_then m.input.now back (code_at m.program.now next) (continuations_at m.program.now m.frames h) (record { place = p; slots = m.slots.items })

  left_cut : (r rest : Run) → r ≡ with_backtracking m (reaches (state_of m) ∷ []) → (if is_negative kind then silent ∷ [] else silent ∷ after_cut) ≡ silent ∷ rest → r ≡ silent ∷ stack_run m.input.now m.program.now m.frames entries back m.slots.items rest
  left_cut r rest begins chosen =
      begins
      ∙ stack_run-cut m.input.now m.program.now m.frames m.entries p kind next h fs back m.back m.slots.items (state_of m) [] top
      ∙ ap (λ s. stack_run m.input.now m.program.now m.frames (cut_entries m.entries) back m.slots.items s) chosen
      ∙ stack_run-silent m.input.now m.program.now m.frames (cut_entries m.entries) back m.slots.items rest
      ∙ ap (λ e. silent ∷ stack_run m.input.now m.program.now m.frames e back m.slots.items rest) (sym is)

  pub takes_refused : (r : Run) → r ≡ with_backtracking m (reaches (state_of m) ∷ []) → is_negative kind ≡ true → TakesMarks m (cut_to m entries back depth) r (run_ahead (cut_to m entries back depth) action.Backtrack)
  takes_refused r begins negative = record {
    ticks = false;
    more = [];
    cut = left_cut r [] begins (ap (λ b. if b then silent ∷ [] else silent ∷ after_cut) negative);
    paid = refl;
    input = refl;
    program = refl;
    sound = sound_cut;
  }

  pub takes_granted : (r : Run) → r ≡ with_backtracking m (reaches (state_of m) ∷ []) → is_negative kind ≡ false
      → TakesMarks m (record m { entries = entries; back = back; depth = depth; place = p; step = next; head = h }) r (run_ahead (record m { entries = entries; back = back; depth = depth; place = p; step = next; head = h }) action.Step)
  takes_granted r begins positive =
      let low = sound_cut in
      let at' = placed-cut (length m.input.now) (length m.frames) m.entries p kind next h fs back top sound.placed in
      record {
        ticks = false;
        more = [];
        cut = left_cut r after_cut begins (ap (λ b. if b then silent ∷ [] else silent ∷ after_cut) positive);
        paid = refl;
        input = refl;
        program = refl;
        sound = record { ordered = low.ordered; stacked = low.stacked; head = omega arith; placed = low.placed; depth = low.depth; place = at'.0 };
      }

-- what was left is taken up
pub takes_choice : (m : Machine) (entries : List Backtrack) (p i h fs : ℕ) → IsSound m → m.entries ≡ entries ++ (backtrack.Choice p 0 i h fs ∷ [])
    → TakesMarks m (record m { entries = entries; place = p; step = i; head = h }) (with_backtracking m []) (run_ahead (record m { entries = entries; place = p; step = i; head = h }) action.Step)
takes_choice m entries p i h fs sound popped =
    let at' = choice-placed (length m.input.now) (length m.frames) p 0 i h fs m.entries entries popped sound.placed in
    record {
      ticks = false;
      more = [];
      cut = stack_run-choice m.input.now m.program.now m.frames m.entries entries p 0 i h fs m.back m.slots.items [] popped
          ∙ stack_run-silent m.input.now m.program.now m.frames entries m.back m.slots.items _;
      paid = refl;
      input = refl;
      program = refl;
      sound = record { ordered = sound.ordered; stacked = sound.stacked; head = omega arith; placed = placed-more (length m.input.now) fs (length m.frames) entries at'.2 at'.3; depth = sound.depth ∙ depth-choice p 0 i h fs m.entries entries popped; place = at'.0.0 };
    }

-- the last of some places, of which the others are left
pub takes_last_choice : (m : Machine) (entries again : List Backtrack) (p e i h fs : ℕ) → IsSound m → m.entries ≡ entries ++ (backtrack.Choice p (suc e) i h fs ∷ []) → again ≡ entries ++ (backtrack.Choice (p - 1) e i h fs ∷ [])
    → TakesMarks m (record m { entries = again; place = p; step = i; head = h }) (with_backtracking m []) (run_ahead (record m { entries = again; place = p; step = i; head = h }) action.Step)
takes_last_choice m entries again p e i h fs sound popped pushed =
    let at' = choice-placed (length m.input.now) (length m.frames) p (suc e) i h fs m.entries entries popped sound.placed in
    let size = length m.input.now in
    let lower : p - 1 ≤ size = omega arith in
    let fewer : e ≤ p - 1 = omega arith in
    record {
      ticks = false;
      more = [];
      cut = stack_run-choice m.input.now m.program.now m.frames m.entries entries p (suc e) i h fs m.back m.slots.items [] popped
          ∙ stack_run-silent m.input.now m.program.now m.frames entries m.back m.slots.items _
          ∙ ap (λ r. silent ∷ r) (sym (stack_run-choice m.input.now m.program.now m.frames again entries (p - 1) e i h fs m.back m.slots.items _ pushed));
      paid = refl;
      input = refl;
      program = refl;
      sound = record {
        ordered = sound.ordered;
        stacked = sound.stacked;
        head = omega arith;
        placed = placed-more size fs (length m.frames) again at'.2 (placed-choice size fs (p - 1) e i h again entries pushed lower fewer at'.1 at'.3);
        depth = sound.depth ∙ depth-choice p (suc e) i h fs m.entries entries popped ∙ sym (depth-choice (p - 1) e i h fs again entries pushed);
        place = at'.0.0;
      };
    }

pub takes_left_turn : (m : Machine) (entries : List Backtrack) (p i min : ℕ) (max : Option ℕ) (h fs : ℕ) → IsSound m → m.entries ≡ entries ++ (backtrack.Turn p i min max h fs ∷ [])
    → TakesMarks m (record m { entries = entries; place = p; head = h }) (with_backtracking m []) (run_ahead (record m { entries = entries; place = p; head = h }) (action.BeginTurn i min max))
takes_left_turn m entries p i min max h fs sound popped =
    let at' = turn-placed (length m.input.now) (length m.frames) p i min max h fs m.entries entries popped sound.placed in
    record {
      ticks = false;
      more = [];
      cut = stack_run-turn m.input.now m.program.now m.frames m.entries entries p i min max h fs m.back m.slots.items [] popped
          ∙ stack_run-silent m.input.now m.program.now m.frames entries m.back m.slots.items _;
      paid = refl;
      input = refl;
      program = refl;
      sound = record { ordered = sound.ordered; stacked = sound.stacked; head = omega arith; placed = placed-more (length m.input.now) fs (length m.frames) entries at'.2 at'.3; depth = sound.depth ∙ depth-turn p i min max h fs m.entries entries popped; place = at'.0 };
    }

-- the body of a look-around was not matched
module _ (m : Machine) (entries : List Backtrack) (p : ℕ) (kind : LookAroundAssertionKind) (i h fs : ℕ) (back : Bool) (depth : ℕ) (sound : IsSound m) (popped : m.entries ≡ entries ++ (backtrack.LookAround p kind i h fs back ∷ [])) (lower : suc depth ≡ m.depth) where
  left_unmatched : (negative : Bool) (rest : Run) → is_negative kind ≡ negative → look_around_run negative [] (record { place = p; slots = m.slots.items }) (code_then m.input.now back (code_at m.program.now i) (continuations_at m.program.now m.frames h)) ≡ silent ∷ rest
      → with_backtracking m [] ≡ silent ∷ stack_run m.input.now m.program.now m.frames entries back m.slots.items rest
  left_unmatched negative rest is chosen =
      stack_run-look_around m.input.now m.program.now m.frames m.entries entries p kind i h fs back m.back m.slots.items [] popped
      ∙ ap (λ b. stack_run m.input.now m.program.now m.frames entries back m.slots.items (look_around_run b [] (record { place = p; slots = m.slots.items }) (code_then m.input.now back (code_at m.program.now i) (continuations_at m.program.now m.frames h)))) is
      ∙ ap (λ s. stack_run m.input.now m.program.now m.frames entries back m.slots.items s) chosen
      ∙ stack_run-silent m.input.now m.program.now m.frames entries back m.slots.items rest

  sound_unmatched : IsSound (cut_to m entries back depth)
  sound_unmatched =
      let at' = look_around-placed (length m.input.now) (length m.frames) p kind i h fs back m.entries entries popped sound.placed in
      let deep = depth-look_around p kind i h fs back m.entries entries popped in
      let was = sound.depth in
      record { ordered = sound.ordered; stacked = sound.stacked; head = sound.head; placed = placed-more (length m.input.now) fs (length m.frames) entries at'.2 at'.3; depth = omega arith; place = sound.place }

  takes_unmatched : is_negative kind ≡ false → TakesMarks m (cut_to m entries back depth) (with_backtracking m []) (run_ahead (cut_to m entries back depth) action.Backtrack)
  takes_unmatched positive = record {
    ticks = false;
    more = [];
    cut = left_unmatched false [] positive refl;
    paid = refl;
    input = refl;
    program = refl;
    sound = sound_unmatched;
  }

  takes_unmatched_not : is_negative kind ≡ true
      → TakesMarks m (record m { entries = entries; back = back; depth = depth; place = p; step = i; head = h }) (with_backtracking m []) (run_ahead (record m { entries = entries; back = back; depth = depth; place = p; step = i; head = h }) action.Step)
  takes_unmatched_not negative =
      let at' = look_around-placed (length m.input.now) (length m.frames) p kind i h fs back m.entries entries popped sound.placed in
      let low = sound_unmatched in
      record {
        ticks = false;
        more = [];
        cut = left_unmatched true (code_then m.input.now back (code_at m.program.now i) (continuations_at m.program.now m.frames h) (record { place = p; slots = m.slots.items })) negative refl;
        paid = refl;
        input = refl;
        program = refl;
        sound = record { ordered = low.ordered; stacked = low.stacked; head = omega arith; placed = low.placed; depth = low.depth; place = at'.0 };
      }

pub same_restored : (old m : Machine) (entries : List Backtrack) (slots : Vec Slot Global) (k : ℕ) (was : Slot) (fs row : ℕ) → KeepsBacktracking old m → m.entries ≡ entries ++ (backtrack.RestoreSlot k was fs row ∷ []) → slots.items ≡ set m.slots.items k was
    → KeepsBacktracking old (record m { entries = entries; slots = slots })
same_restored old m entries slots k was fs row it popped is =
    let sound = it.sound in
    record {
      same = it.same ∙ stack_run-restore m.input.now m.program.now m.frames m.entries entries k was fs row m.back m.slots.items [] popped
          ∙ ap (λ sl. stack_run m.input.now m.program.now m.frames entries m.back sl []) (sym is);
      paid = it.paid;
      input = it.input;
      program = it.program;
      sound = record {
        ordered = sound.ordered;
        stacked = sound.stacked;
        head = sound.head;
        placed = restore-placed (length m.input.now) (length m.frames) k was fs row m.entries entries popped sound.placed;
        depth = sound.depth ∙ depth-restore k was fs row m.entries entries popped;
        place = sound.place;
      };
    }

pub nothing_left : (old m : Machine) (entries : List Backtrack) → KeepsBacktracking old m → m.entries ≡ [] → HasNoMore old (record m { entries = entries }) (with_backtracking old [])
nothing_left old m entries it none = record {
  is = it.same ∙ ap (λ e. stack_run m.input.now m.program.now m.frames e m.back m.slots.items []) none ∙ stack_run-nil m.input.now m.program.now m.frames m.back m.slots.items [];
  paid = it.paid;
  input = it.input;
  program = it.program;
}

-- frames that nothing names any more are cut back
pub cuts_frames : (m new : Machine) (r : Run) (a : Action) (fs : ℕ) (frames : List Frame) → TakesMarks m new r (run_ahead new a) → fs ≤ length new.frames → new.head ≤ fs → ArePlaced (length new.input.now) fs new.entries → frames ≡ take fs new.frames
    → TakesMarks m (record new { frames = frames }) r (run_ahead (record new { frames = frames }) a)
cuts_frames m new r a fs frames takes within top placed is =
    let sound = takes.sound in
    let size = length-take-le fs new.frames within in
    let count = ap length is in
    let enough : fs ≤ length frames = omega arith in
    record {
      ticks = takes.ticks;
      more = takes.more;
      cut = takes.cut ∙ ap (λ x. with_marks (takes.ticks ∷ takes.more) x) (sym (ap (λ fr. run_ahead (record new { frames = fr }) a) is ∙ same a));
      paid = takes.paid;
      input = takes.input;
      program = takes.program;
      sound = record {
        ordered = sound.ordered;
        stacked = subst AreStacked (sym is) (stacked-cut_back new.frames fs sound.stacked);
        head = omega arith;
        placed = placed-more (length new.input.now) fs (length frames) new.entries enough placed;
        depth = sound.depth;
        place = sound.place;
      };
    }
  where
    chain : continuations_at new.program.now (take fs new.frames) new.head ≡ continuations_at new.program.now new.frames new.head
    chain = frames-cut_back new.program.now new.frames fs new.head within top

    stack : (x : Run) → stack_run new.input.now new.program.now (take fs new.frames) new.entries new.back new.slots.items x ≡ stack_run new.input.now new.program.now new.frames new.entries new.back new.slots.items x
    stack x = stack_run-cut_back new.input.now new.program.now new.frames fs (length new.input.now) new.entries new.back new.slots.items x within placed

    then' : (x : Run) → stack_run new.input.now new.program.now (take fs new.frames) new.entries new.back new.slots.items (bind x (continuation_run new.input.now new.back (continuations_at new.program.now (take fs new.frames) new.head)))
        ≡ with_backtracking new (bind x (continuation_of new))
    then' x = stack _ ∙ ap (λ ks. with_backtracking new (bind x (continuation_run new.input.now new.back ks))) chain

    same : (a : Action) → run_ahead (record new { frames = take fs new.frames }) a ≡ run_ahead new a
    same action.Step = then' (code_run new.input.now (code_at new.program.now new.step) new.back (state_of new))
    same action.Backtrack = stack []
    same (action.Repeat i min max) = then' (turns_run new.input.now new.back min max (state_of new) (code_at new.program.now i))
    same (action.BeginTurn i min max) = then' (turn_run new.input.now new.back min max (state_of new) (code_at new.program.now i))

-- frames that nothing comes back to are taken off
pub forgets : (m v w : Machine) (r : Run) (a : Action) → TakesMarks m v r (run_ahead v a) → ForgetsFrames v w → TakesMarks m w r (run_ahead w a)
forgets m v w r a takes it = subst (λ x. TakesMarks m x r (run_ahead x a)) (sym it.shape) (cuts_frames m v r a it.kept (take it.kept v.frames) takes it.within it.head it.placed refl)

-- what an entry left for later is taken up, where it was taken out
pub resumes_choice : (m : Machine) (p e i h fs : ℕ) → IsSound (with_entry m (backtrack.Choice p e i h fs)) → Resumes m (backtrack.Choice p e i h fs) (record (with_earlier (return_machine m p h fs) p e i) { step = i }) action.Step
resumes_choice m p zero i h fs sound =
    let before = with_entry m (backtrack.Choice p 0 i h fs) in
    let at' = choice-placed (length m.input.now) (length m.frames) p 0 i h fs before.entries m.entries refl sound.placed in
    cuts_frames before (record m { place = p; step = i; head = h }) (with_backtracking before []) action.Step fs (take fs m.frames) (takes_choice before m.entries p i h fs sound refl) at'.2 at'.1 at'.3 refl
resumes_choice m p (suc e) i h fs sound =
    let before = with_entry m (backtrack.Choice p (suc e) i h fs) in
    let again : ℕ → List Backtrack = λ n. m.entries ++ (backtrack.Choice (p - 1) e i h n ∷ []) in
    let at' = choice-placed (length m.input.now) (length m.frames) p (suc e) i h fs before.entries m.entries refl sound.placed in
    subst (λ n. Resumes m (backtrack.Choice p (suc e) i h fs) (record m { entries = again n; place = p; step = i; head = h; frames = take fs m.frames }) action.Step) (sym (length-take-le fs m.frames at'.2))
    (cuts_frames before (record m { entries = again fs; place = p; step = i; head = h }) (with_backtracking before []) action.Step fs (take fs m.frames) (takes_last_choice before m.entries (again fs) p e i h fs sound refl refl) at'.2 at'.1
    (placed-choice (length m.input.now) fs (p - 1) e i h (again fs) m.entries refl (omega arith) (omega arith) at'.1 at'.3) refl)

pub resumes_turn : (m : Machine) (p i min : ℕ) (max : Option ℕ) (h fs : ℕ) → IsSound (with_entry m (backtrack.Turn p i min max h fs)) → Resumes m (backtrack.Turn p i min max h fs) (return_machine m p h fs) (action.BeginTurn i min max)
resumes_turn m p i min max h fs sound =
    let before = with_entry m (backtrack.Turn p i min max h fs) in
    let at' = turn-placed (length m.input.now) (length m.frames) p i min max h fs before.entries m.entries refl sound.placed in
    cuts_frames before (record m { place = p; head = h }) (with_backtracking before []) (action.BeginTurn i min max) fs (take fs m.frames) (takes_left_turn before m.entries p i min max h fs sound refl) at'.2 at'.1 at'.3 refl

-- inside an entry of a look-around the machine is one deeper
pub depth_lower : (m : Machine) (p : ℕ) (kind : LookAroundAssertionKind) (i h fs : ℕ) (back : Bool) → IsSound (with_entry m (backtrack.LookAround p kind i h fs back)) → suc (m.depth - 1) ≡ m.depth
depth_lower m p kind i h fs back sound =
    let deep = depth-look_around p kind i h fs back (with_entry m (backtrack.LookAround p kind i h fs back)).entries m.entries refl in
    let was = sound.depth in
    omega arith

pub resumes_unmatched : (m : Machine) (p : ℕ) (kind : LookAroundAssertionKind) (i h fs : ℕ) (back : Bool) (depth : ℕ) → IsSound (with_entry m (backtrack.LookAround p kind i h fs back)) → suc depth ≡ m.depth → is_negative kind ≡ false
    → Resumes m (backtrack.LookAround p kind i h fs back) (record m { depth = depth; back = back }) action.Backtrack
resumes_unmatched m p kind i h fs back depth sound lower positive = takes_unmatched (with_entry m (backtrack.LookAround p kind i h fs back)) m.entries p kind i h fs back depth sound refl lower positive

pub resumes_unmatched_not : (m : Machine) (p : ℕ) (kind : LookAroundAssertionKind) (i h fs : ℕ) (back : Bool) (depth : ℕ) → IsSound (with_entry m (backtrack.LookAround p kind i h fs back)) → suc depth ≡ m.depth → is_negative kind ≡ true
    → Resumes m (backtrack.LookAround p kind i h fs back) (record (return_machine (record m { depth = depth; back = back }) p h fs) { step = i }) action.Step
resumes_unmatched_not m p kind i h fs back depth sound lower negative =
    let before = with_entry m (backtrack.LookAround p kind i h fs back) in
    let at' = look_around-placed (length m.input.now) (length m.frames) p kind i h fs back before.entries m.entries refl sound.placed in
    cuts_frames before (record m { back = back; depth = depth; place = p; step = i; head = h }) (with_backtracking before []) action.Step fs (take fs m.frames) (takes_unmatched_not before m.entries p kind i h fs back depth sound refl lower negative) at'.2 at'.1 at'.3 refl

-- an entry was taken out
before_pop : (m : Machine) (entries : List Backtrack) (e : Backtrack) → m.entries ≡ entries ++ (e ∷ []) → m ≡ with_entry (record m { entries = entries }) e
before_pop m entries e popped = ap (λ es. record m { entries = es }) popped

pub sound_before_pop : (old m : Machine) (entries : List Backtrack) (e : Backtrack) → KeepsBacktracking old m → m.entries ≡ entries ++ (e ∷ []) → IsSound (with_entry (record m { entries = entries }) e)
sound_before_pop old m entries e same popped = subst IsSound (before_pop m entries e popped) same.sound

pub keeps_popped : (old m new : Machine) (entries : List Backtrack) (e : Backtrack) → KeepsBacktracking old m → m.entries ≡ entries ++ (e ∷ []) → KeepsBacktracking (with_entry (record m { entries = entries }) e) new → KeepsBacktracking old new
keeps_popped old m new entries e same popped then' =
    let it = subst (λ x. KeepsBacktracking x new) (sym (before_pop m entries e popped)) then' in
    record { same = same.same ∙ it.same; paid = same.paid ∙ it.paid; input = it.input ∙ same.input; program = it.program ∙ same.program; sound = it.sound }

pub keeps_itself : (m : Machine) → IsSound m → KeepsBacktracking m m
keeps_itself m sound = record { same = refl; paid = refl; input = refl; program = refl; sound = sound }
