-- What each function of the machine does, over plain values.
use Rattle.std.proofs.Common.{◌≡◌, refl, ap, sym, ◌∙◌, subst, ℕ, ◌+◌, ◌≤◌, Bool, false, Some, List, [], ◌∷◌, ◌++◌, length, arith}
use Rattle.rx_ast.specs.declared.leaf.LookAroundAssertionKind.{LookAroundAssertionKind}
use Rattle.rx_match.specs.declared.machine.Machine.{Machine}
use Rattle.rx_match.specs.declared.machine.Action.TheVariants as action
use Rattle.rx_program.specs.declared.step.Step.TheVariants as step
use Rattle.rx_match.specs.declared.entry.Frame.{Frame}
use Rattle.rx_match.specs.declared.entry.Pending.{Pending}
use Rattle.rx_match.specs.declared.entry.Pending.TheVariants as pending
use Rattle.rx_match.specs.declared.entry.Backtrack.{Backtrack}
use Rattle.rx_match.specs.declared.entry.Backtrack.TheVariants as backtrack
use Rattle.rx_trace.specs.Traces.{State}
use Rattle.rx_trace.specs.Groups.{with_capture}
use Rattle.rx_trace.specs.Matching.{looks_back}
use Rattle.rx_match.specs.Runs.{Run, silent, bind, look_around_run, run_onward, code_run, is_negative}
use Rattle.rx_program.specs.Codes.{choose, sequence}
use Rattle.rx_match.specs.Machines.{pending_continuation, continuations_at, continuation_run, stack_run}
use Rattle.rx_program.specs.Steps.{code_at}
use Rattle.rx_match.specs.MachineSteps.{state_of, with_backtracking, continuation_of, run_of, run_after_tick, run_ahead, IsSound, PushesFrame, KeepsRun, TakesMarks}
use Rattle.rx_match.proofs.Runs.{bind-append, bind-bind, bind-reaches, bind-each, look_around-bind}
use Rattle.rx_match.proofs.Frames.{frames-none, frames-new, stacked-more}
use Rattle.rx_trace.proofs.Lists.{length-last}
use Rattle.rx_match.proofs.StackRuns.{stack_run-silent, stack_run-choice, stack_run-look_around, stack_run-frames}
use Rattle.rx_match.proofs.Entries.{placed-more, placed-choice, placed-look_around, depth-choice, depth-look_around}

-- a frame was pushed
pub pushes_frame : (m : Machine) (w : Pending) (frames : List Frame) (h : ℕ) → IsSound m → frames ≡ m.frames ++ (record { pending = w; below = m.head } ∷ []) → h ≡ length frames → PushesFrame m (record m { frames = frames; head = h }) w
pushes_frame m w frames h sound pushed top =
    let f : Frame = record { pending = w; below = m.head } in
    let size = length-last frames m.frames f pushed in
    record {
      shape = refl;
      chain = frames-new m.program.now frames m.frames f h pushed top;
      left = λ r. stack_run-frames m.input.now m.program.now frames m.frames f (length m.input.now) m.entries m.back m.slots.items r pushed sound.placed;
      stacked = stacked-more frames m.frames f pushed sound.head sound.stacked;
      head = omega arith;
      placed = placed-more (length m.input.now) (length m.frames) (length frames) m.entries (omega arith) sound.placed;
    }

-- one of two ways, and the other for later
pub takes_choose : (m : Machine) (first other : ℕ) (entries : List Backtrack) → IsSound m → entries ≡ m.entries ++ (backtrack.Choice m.place 0 other m.head (length m.frames) ∷ [])
    → TakesMarks m (record m { entries = entries; step = first }) (run_of m (choose (code_at m.program.now first) (code_at m.program.now other))) (run_ahead (record m { entries = entries; step = first }) action.Step)
takes_choose m first other entries sound pushed =
    let steps = m.program.now in
    let a = code_run m.input.now (code_at steps first) m.back (state_of m) in
    let b = code_run m.input.now (code_at steps other) m.back (state_of m) in
    record {
      ticks = false;
      more = [];
      cut = stack_run-silent m.input.now steps m.frames m.entries m.back m.slots.items (bind (a ++ (silent ∷ b)) (continuation_of m))
          ∙ ap (λ r. silent ∷ with_backtracking m r) (bind-append a (silent ∷ b) (continuation_of m))
          ∙ ap (λ r. silent ∷ r) (sym (stack_run-choice m.input.now steps m.frames entries m.entries m.place 0 other m.head (length m.frames) m.back m.slots.items (bind a (continuation_of m)) pushed));
      paid = refl;
      input = refl;
      program = refl;
      sound = record {
        ordered = sound.ordered;
        stacked = sound.stacked;
        head = sound.head;
        placed = placed-choice (length m.input.now) (length m.frames) m.place 0 other m.head entries m.entries pushed sound.place (omega arith) sound.head sound.placed;
        depth = sound.depth ∙ sym (depth-choice m.place 0 other m.head (length m.frames) entries m.entries pushed);
        place = sound.place;
      };
    }

-- what is waited for, where something waits above what waited
abbrev pub with_frame : Machine → Machine → ℕ → Machine
with_frame m v i = record m { frames = v.frames; head = v.head; step = i }

pub sound_with_frame : (m v : Machine) (w : Pending) (i : ℕ) → IsSound m → PushesFrame m v w → IsSound (with_frame m v i)
sound_with_frame m v w i sound pushed_frame = record {
  ordered = sound.ordered;
  stacked = pushed_frame.stacked;
  head = pushed_frame.head;
  placed = pushed_frame.placed;
  depth = sound.depth;
  place = sound.place;
}

-- from a body with something to follow, to the body with this waiting
pub with_frame_is : (m v : Machine) (w : Pending) (i : ℕ) (f : State → Run) → PushesFrame m v w
    → ((x : State) → bind (f x) (continuation_of m) ≡ continuation_run m.input.now m.back (pending_continuation m.program.now w ∷ continuations_at m.program.now m.frames m.head) x)
    → with_backtracking m (bind (bind (code_run m.input.now (code_at m.program.now i) m.back (state_of m)) f) (continuation_of m)) ≡ run_ahead (with_frame m v i) action.Step
with_frame_is m v w i f pushed_frame same =
    let a = code_run m.input.now (code_at m.program.now i) m.back (state_of m) in
    ap (with_backtracking m) (bind-bind a f (continuation_of m) ∙ bind-each a (λ x. bind (f x) (continuation_of m)) (λ x. continuation_run m.input.now m.back (pending_continuation m.program.now w ∷ continuations_at m.program.now m.frames m.head) x) same
    ∙ ap (λ ks. bind a (continuation_run m.input.now m.back ks)) (sym pushed_frame.chain))
    ∙ sym (pushed_frame.left (bind a (continuation_run m.input.now m.back (continuations_at m.program.now v.frames v.head))))

pub takes_sequence : (m v : Machine) (first second : ℕ) → IsSound m → PushesFrame m v (pending.Next second)
    → TakesMarks m (record v { step = first }) (run_of m (sequence (code_at m.program.now first) (code_at m.program.now second))) (run_ahead (record v { step = first }) action.Step)
takes_sequence m v first second sound pushed_frame =
    let steps = m.program.now in
    let next : State → Run = λ w. silent ∷ code_run m.input.now (code_at steps second) m.back w in
    subst (λ x. TakesMarks m (record x { step = first }) (run_of m (sequence (code_at steps first) (code_at steps second))) (run_ahead (record x { step = first }) action.Step)) (sym pushed_frame.shape)
    (record {
      ticks = false;
      more = [];
      cut = stack_run-silent m.input.now steps m.frames m.entries m.back m.slots.items (bind (bind (code_run m.input.now (code_at steps first) m.back (state_of m)) next) (continuation_of m))
          ∙ ap (λ r. silent ∷ r) (with_frame_is m v (pending.Next second) first next pushed_frame (λ x. refl));
      paid = refl;
      input = refl;
      program = refl;
      sound = sound_with_frame m v (pending.Next second) first sound pushed_frame;
    })

-- The machine moves, or fails.
pub keeps_move : (m : Machine) (q next : ℕ) → IsSound m → q ≤ length m.input.now
    → KeepsRun m (record m { place = q; step = next }) (with_backtracking m (bind (run_onward (Some q) (state_of m) (code_run m.input.now (code_at m.program.now next) m.back)) (continuation_of m))) (run_ahead (record m { place = q; step = next }) action.Step)
keeps_move m q next sound within = record {
  same = refl;
  paid = refl;
  input = refl;
  program = refl;
  sound = record { ordered = sound.ordered; stacked = sound.stacked; head = sound.head; placed = sound.placed; depth = sound.depth; place = within };
}

pub keeps_fail : (m : Machine) (r : Run) → IsSound m → r ≡ [] → KeepsRun m m (with_backtracking m (bind r (continuation_of m))) (run_ahead m action.Backtrack)
keeps_fail m r sound none = record { same = ap (λ r. with_backtracking m (bind r (continuation_of m))) none; paid = refl; input = refl; program = refl; sound = sound }

pub sound_step : (m : Machine) (i : ℕ) → IsSound m → IsSound (record m { step = i })
sound_step m i sound = record { ordered = sound.ordered; stacked = sound.stacked; head = sound.head; placed = sound.placed; depth = sound.depth; place = sound.place }

pub keeps_capture : (m v : Machine) (group body next : ℕ) → IsSound m → PushesFrame m v (pending.CloseGroup group m.place next)
    → KeepsRun m (record v { step = body }) (run_after_tick m (step.Capture group body next)) (run_ahead (record v { step = body }) action.Step)
keeps_capture m v group body next sound pushed_frame =
    let then' : State → Run = λ w. silent ∷ code_run m.input.now (code_at m.program.now next) m.back (with_capture group m.place w) in
    subst (λ x. KeepsRun m (record x { step = body }) (run_after_tick m (step.Capture group body next)) (run_ahead (record x { step = body }) action.Step)) (sym pushed_frame.shape)
    (record {
      same = with_frame_is m v (pending.CloseGroup group m.place next) body then' pushed_frame (λ x. refl);
      paid = refl;
      input = refl;
      program = refl;
      sound = sound_with_frame m v (pending.CloseGroup group m.place next) body sound pushed_frame;
    })

-- a look-around begins
pub keeps_look : (m : Machine) (kind : LookAroundAssertionKind) (body next depth : ℕ) (back : Bool) (entries : List Backtrack) → IsSound m
    → entries ≡ m.entries ++ (backtrack.LookAround m.place kind next m.head (length m.frames) m.back ∷ []) → back ≡ looks_back kind → depth ≡ m.depth + 1
    → KeepsRun m (record m { entries = entries; step = body; head = 0; back = back; depth = depth }) (run_after_tick m (step.LookAround kind body next)) (run_ahead (record m { entries = entries; step = body; head = 0; back = back; depth = depth }) action.Step)
keeps_look m kind body next depth back entries sound pushed ahead deeper =
    let input = m.input.now in
    let steps = m.program.now in
    let rest = code_run input (code_at steps next) m.back in
    let deep = depth-look_around m.place kind next m.head (length m.frames) m.back entries m.entries pushed in
    let outside = sound.depth in
    record {
      same = ap (λ b. with_backtracking m (bind (look_around_run (is_negative kind) (code_run input (code_at steps body) b (state_of m)) (state_of m) rest) (continuation_of m))) (sym ahead)
          ∙ ap (λ r. with_backtracking m r) (look_around-bind (is_negative kind) (code_run input (code_at steps body) back (state_of m)) (state_of m) rest (continuation_of m))
          ∙ sym (stack_run-look_around input steps m.frames entries m.entries m.place kind next m.head (length m.frames) m.back back m.slots.items (code_run input (code_at steps body) back (state_of m)) pushed)
          ∙ ap (λ r. stack_run input steps m.frames entries back m.slots.items r) (sym (bind-reaches (code_run input (code_at steps body) back (state_of m))))
          ∙ ap (λ ks. stack_run input steps m.frames entries back m.slots.items (bind (code_run input (code_at steps body) back (state_of m)) (continuation_run input back ks))) (sym (frames-none steps m.frames));
      paid = refl;
      input = refl;
      program = refl;
      sound = record {
        ordered = sound.ordered;
        stacked = sound.stacked;
        head = omega arith;
        placed = placed-look_around (length input) (length m.frames) m.place kind next m.head m.back entries m.entries pushed sound.place sound.head sound.placed;
        depth = omega arith;
        place = sound.place;
      };
    }
