-- What a machine still has to do, as its stacks grow and shrink.
use Rattle.std.proofs.Common.{◌≡◌, refl, ap, sym, ◌∙◌, ℕ, ◌≤◌, Bool, true, false, if◌then◌else◌, Option, Some, List, [], ◌∷◌, ◌++◌, length, reverse, set, arith}
use Rattle.std.proofs.lemmas.List.{reverse-reverse}
use Rattle.rx_ast.specs.declared.leaf.LookAroundAssertionKind.{LookAroundAssertionKind}
use Rattle.rx_trace.specs.declared.answer.Slot.{Slot}
use Rattle.rx_program.specs.declared.step.Step.{Step}
use Rattle.rx_match.specs.declared.entry.Frame.{Frame}
use Rattle.rx_match.specs.declared.entry.Backtrack.{Backtrack}
use Rattle.rx_match.specs.declared.entry.Backtrack.TheVariants as backtrack
use Rattle.rx_trace.specs.Traces.{State}
use Rattle.rx_match.specs.Runs.{Run, with_marks, silent, ticked, reaches, bind, look_around_run, is_negative, at_place}
use Rattle.rx_program.specs.Steps.{code_at}
use Rattle.rx_match.specs.Machines.{continuations_at, choices_run, turn_run, continuation_run, code_then, stack_run_of, stack_run}
use Rattle.rx_match.specs.Sound.{PlacedOf, ArePlaced, depth_of, depth_in, cut_reversed, cut_last_first, cut_entries, top_of, top_in}
use Rattle.rx_trace.proofs.Lists.{reverse-last}
use Rattle.rx_match.proofs.Frames.{frames-more}
use Rattle.rx_match.proofs.Entries.{more-of}

abbrev pub at : ℕ → List Slot → State
at p slots = record { place = p; slots = slots }

module _ (input : List ℕ) (steps : List Step) where
  -- a mark comes first, whatever is left for later
  silent-first : (frames : List Frame) (r : List Backtrack) (back : Bool) (slots : List Slot) (now : Run) → stack_run_of input steps frames r back slots (silent ∷ now) ≡ silent ∷ stack_run_of input steps frames r back slots now
  silent-first frames [] back slots now = refl
  silent-first frames (backtrack.Choice p e i h fs ∷ more) back slots now = silent-first frames more back slots _
  silent-first frames (backtrack.Turn p i min max h fs ∷ more) back slots now = silent-first frames more back slots _
  silent-first frames (backtrack.RestoreSlot k old fs row ∷ more) back slots now = silent-first frames more back (set slots k old) now
  silent-first frames (backtrack.LookAround p kind i h fs outer_back ∷ more) back slots now =
      ap (λ x. stack_run_of input steps frames more outer_back slots x) (look_around-silent (is_negative kind) now (at p slots) _) ∙ silent-first frames more outer_back slots _
    where
      look_around-silent : (negative : Bool) (r : Run) (s : State) (k : State → Run) → look_around_run negative (silent ∷ r) s k ≡ silent ∷ look_around_run negative r s k
      look_around-silent true r s k = refl
      look_around-silent false r s k = refl

  ticked-first : (frames : List Frame) (r : List Backtrack) (back : Bool) (slots : List Slot) (now : Run) → stack_run_of input steps frames r back slots (ticked ∷ now) ≡ ticked ∷ stack_run_of input steps frames r back slots now
  ticked-first frames [] back slots now = refl
  ticked-first frames (backtrack.Choice p e i h fs ∷ more) back slots now = ticked-first frames more back slots _
  ticked-first frames (backtrack.Turn p i min max h fs ∷ more) back slots now = ticked-first frames more back slots _
  ticked-first frames (backtrack.RestoreSlot k old fs row ∷ more) back slots now = ticked-first frames more back (set slots k old) now
  ticked-first frames (backtrack.LookAround p kind i h fs outer_back ∷ more) back slots now =
      ap (λ x. stack_run_of input steps frames more outer_back slots x) (look_around-ticked (is_negative kind) now (at p slots) _) ∙ ticked-first frames more outer_back slots _
    where
      look_around-ticked : (negative : Bool) (r : Run) (s : State) (k : State → Run) → look_around_run negative (ticked ∷ r) s k ≡ ticked ∷ look_around_run negative r s k
      look_around-ticked true r s k = refl
      look_around-ticked false r s k = refl

  pub stack_run-silent : (frames : List Frame) (entries : List Backtrack) (back : Bool) (slots : List Slot) (now : Run) → stack_run input steps frames entries back slots (silent ∷ now) ≡ silent ∷ stack_run input steps frames entries back slots now
  unfolding stack_run
  stack_run-silent frames entries back slots now = silent-first frames (reverse entries) back slots now

  pub stack_run-ticked : (frames : List Frame) (entries : List Backtrack) (back : Bool) (slots : List Slot) (now : Run) → stack_run input steps frames entries back slots (ticked ∷ now) ≡ ticked ∷ stack_run input steps frames entries back slots now
  unfolding stack_run
  stack_run-ticked frames entries back slots now = ticked-first frames (reverse entries) back slots now

  pub stack_run-marked : (ticks : List Bool) (frames : List Frame) (entries : List Backtrack) (back : Bool) (slots : List Slot) (now : Run) → stack_run input steps frames entries back slots (with_marks ticks now) ≡ with_marks ticks (stack_run input steps frames entries back slots now)
  stack_run-marked [] frames entries back slots now = refl
  stack_run-marked (true ∷ ticks) frames entries back slots now = stack_run-ticked frames entries back slots (with_marks ticks now) ∙ ap (λ r. ticked ∷ r) (stack_run-marked ticks frames entries back slots now)
  stack_run-marked (false ∷ ticks) frames entries back slots now = stack_run-silent frames entries back slots (with_marks ticks now) ∙ ap (λ r. silent ∷ r) (stack_run-marked ticks frames entries back slots now)

  pub stack_run-nil : (frames : List Frame) (back : Bool) (slots : List Slot) (now : Run) → stack_run input steps frames [] back slots now ≡ now
  unfolding stack_run
  stack_run-nil frames back slots now = refl

  -- the last entry
  pub stack_run-choice : (frames : List Frame) (before between : List Backtrack) (p e i h fs : ℕ) (back : Bool) (slots : List Slot) (now : Run) → before ≡ between ++ (backtrack.Choice p e i h fs ∷ [])
      → stack_run input steps frames before back slots now ≡ stack_run input steps frames between back slots (now ++ choices_run (λ q. code_then input back (code_at steps i) (continuations_at steps frames h) (at q slots)) e p)
  unfolding stack_run
  stack_run-choice frames before between p e i h fs back slots now is = ap (λ r. stack_run_of input steps frames r back slots now) (reverse-last before between (backtrack.Choice p e i h fs) is)

  pub stack_run-turn : (frames : List Frame) (before between : List Backtrack) (p i min : ℕ) (max : Option ℕ) (h fs : ℕ) (back : Bool) (slots : List Slot) (now : Run) → before ≡ between ++ (backtrack.Turn p i min max h fs ∷ [])
      → stack_run input steps frames before back slots now ≡ stack_run input steps frames between back slots (now ++ (silent ∷ bind (turn_run input back min max (at p slots) (code_at steps i)) (continuation_run input back (continuations_at steps frames h))))
  unfolding stack_run
  stack_run-turn frames before between p i min max h fs back slots now is = ap (λ r. stack_run_of input steps frames r back slots now) (reverse-last before between (backtrack.Turn p i min max h fs) is)

  pub stack_run-restore : (frames : List Frame) (before between : List Backtrack) (k : ℕ) (old : Slot) (fs row : ℕ) (back : Bool) (slots : List Slot) (now : Run) → before ≡ between ++ (backtrack.RestoreSlot k old fs row ∷ [])
      → stack_run input steps frames before back slots now ≡ stack_run input steps frames between back (set slots k old) now
  unfolding stack_run
  stack_run-restore frames before between k old fs row back slots now is = ap (λ r. stack_run_of input steps frames r back slots now) (reverse-last before between (backtrack.RestoreSlot k old fs row) is)

  pub stack_run-look_around : (frames : List Frame) (before between : List Backtrack) (p : ℕ) (kind : LookAroundAssertionKind) (i h fs : ℕ) (outer_back : Bool) (back : Bool) (slots : List Slot) (now : Run)
      → before ≡ between ++ (backtrack.LookAround p kind i h fs outer_back ∷ [])
      → stack_run input steps frames before back slots now
      ≡ stack_run input steps frames between outer_back slots (look_around_run (is_negative kind) now (at p slots) (code_then input outer_back (code_at steps i) (continuations_at steps frames h)))
  unfolding stack_run
  stack_run-look_around frames before between p kind i h fs outer_back back slots now is = ap (λ r. stack_run_of input steps frames r back slots now) (reverse-last before between (backtrack.LookAround p kind i h fs outer_back) is)

  -- frames that none of the entries names change nothing
  more-frames : (before between : List Frame) (f : Frame) (n : ℕ) (r : List Backtrack) (back : Bool) (slots : List Slot) (now : Run) → before ≡ between ++ (f ∷ []) → PlacedOf n (length between) r
      → stack_run_of input steps before r back slots now ≡ stack_run_of input steps between r back slots now
  more-frames before between f n [] back slots now is placed = refl
  more-frames before between f n (backtrack.Choice p e i h fs ∷ more) back slots now is placed =
      ap (λ ks. stack_run_of input steps before more back slots (now ++ choices_run (λ q. code_then input back (code_at steps i) ks (at q slots)) e p)) (let within : h ≤ length between = omega arith in frames-more steps before between f h is within)
      ∙ more-frames before between f n more back slots _ is (more-of n fs (length between) more placed.2 placed.3)
  more-frames before between f n (backtrack.Turn p i min max h fs ∷ more) back slots now is placed =
      ap (λ ks. stack_run_of input steps before more back slots (now ++ (silent ∷ bind (turn_run input back min max (at p slots) (code_at steps i)) (continuation_run input back ks)))) (let within : h ≤ length between = omega arith in frames-more steps before between f h is within)
      ∙ more-frames before between f n more back slots _ is (more-of n fs (length between) more placed.2 placed.3)
  more-frames before between f n (backtrack.RestoreSlot k old fs row ∷ more) back slots now is placed =
      more-frames before between f n more back (set slots k old) now is (more-of n placed.0 (length between) more placed.2 placed.4)
  more-frames before between f n (backtrack.LookAround p kind i h fs outer_back ∷ more) back slots now is placed =
      ap (λ ks. stack_run_of input steps before more outer_back slots (look_around_run (is_negative kind) now (at p slots) (code_then input outer_back (code_at steps i) ks))) (let within : h ≤ length between = omega arith in frames-more steps before between f h is within)
      ∙ more-frames before between f n more outer_back slots _ is (more-of n fs (length between) more placed.2 placed.3)

  pub stack_run-frames : (before between : List Frame) (f : Frame) (n : ℕ) (entries : List Backtrack) (back : Bool) (slots : List Slot) (now : Run) → before ≡ between ++ (f ∷ []) → ArePlaced n (length between) entries
      → stack_run input steps before entries back slots now ≡ stack_run input steps between entries back slots now
  unfolding stack_run ArePlaced
  stack_run-frames before between f n entries back slots now is placed = more-frames before between f n (reverse entries) back slots now is placed

  -- at the last look-around that is open
  cut-true : (frames : List Frame) (r : List Backtrack) (p : ℕ) (kind : LookAroundAssertionKind) (i h fs : ℕ) (ob : Bool) (back : Bool) (slots : List Slot) (w : State) (now : Run)
      → top_of r ≡ Some (backtrack.LookAround p kind i h fs ob)
      → stack_run_of input steps frames r back slots (reaches w ∷ now)
      ≡ stack_run_of input steps frames (cut_reversed r) ob slots (if is_negative kind then silent ∷ [] else silent ∷ code_then input ob (code_at steps i) (continuations_at steps frames h) (at_place p w))
  cut-true frames [] p kind i h fs ob back slots w now is = absurd (cc)
  cut-true frames (backtrack.Choice p' e' i' h' fs' ∷ more) p kind i h fs ob back slots w now is = cut-true frames more p kind i h fs ob back slots w _ is
  cut-true frames (backtrack.Turn p' i' min max h' fs' ∷ more) p kind i h fs ob back slots w now is = cut-true frames more p kind i h fs ob back slots w _ is
  cut-true frames (backtrack.RestoreSlot k old fs' row ∷ more) p kind i h fs ob back slots w now is = cut-true frames more p kind i h fs ob back (set slots k old) w now is
  cut-true frames (backtrack.LookAround p' kind' i' h' fs' ob' ∷ more) p kind i h fs ob back slots w now is =
      ap (λ x. stack_run_of input steps frames more ob' slots x) (look_around-here (is_negative kind') now (at p' slots) (code_then input ob' (code_at steps i') (continuations_at steps frames h')))
      ∙ same-fields (λ p kind i h fs ob. stack_run_of input steps frames more ob slots (if is_negative kind then silent ∷ [] else silent ∷ code_then input ob (code_at steps i) (continuations_at steps frames h) (at_place p w))) is
    where
      look_around-here : (negative : Bool) (r : Run) (s : State) (k : State → Run) → look_around_run negative (reaches w ∷ r) s k ≡ (if negative then silent ∷ [] else silent ∷ k (at_place s.place w))
      look_around-here true r s k = refl
      look_around-here false r s k = refl

      same-fields : (f : ℕ → LookAroundAssertionKind → ℕ → ℕ → ℕ → Bool → Run) → Some (backtrack.LookAround p' kind' i' h' fs' ob') ≡ Some (backtrack.LookAround p kind i h fs ob) → f p' kind' i' h' fs' ob' ≡ f p kind i h fs ob
      same-fields f e = cc

  pub stack_run-cut : (frames : List Frame) (entries : List Backtrack) (p : ℕ) (kind : LookAroundAssertionKind) (i h fs : ℕ) (ob : Bool) (back : Bool) (slots : List Slot) (w : State) (now : Run)
      → top_in entries ≡ Some (backtrack.LookAround p kind i h fs ob)
      → stack_run input steps frames entries back slots (reaches w ∷ now)
      ≡ stack_run input steps frames (cut_entries entries) ob slots (if is_negative kind then silent ∷ [] else silent ∷ code_then input ob (code_at steps i) (continuations_at steps frames h) (at_place p w))
  unfolding stack_run cut_last_first top_in
  stack_run-cut frames entries p kind i h fs ob back slots w now is =
      cut-true frames (reverse entries) p kind i h fs ob back slots w now is
      ∙ ap (λ r. stack_run_of input steps frames r ob slots (if is_negative kind then silent ∷ [] else silent ∷ code_then input ob (code_at steps i) (continuations_at steps frames h) (at_place p w))) (sym (reverse-reverse (cut_reversed (reverse entries))))

  -- no look-around is open, and the state is the first
  pub record Arrives (w : State) (r : Run) : Type 0 where
    pub rest : Run
    pub is : r ≡ reaches w ∷ rest

  arrive-first : (frames : List Frame) (r : List Backtrack) (back : Bool) (slots : List Slot) (w : State) (now : Run) → depth_of r ≡ 0 → Arrives w (stack_run_of input steps frames r back slots (reaches w ∷ now))
  arrive-first frames [] back slots w now none = record { rest = now; is = refl }
  arrive-first frames (backtrack.Choice p e i h fs ∷ more) back slots w now none = arrive-first frames more back slots w _ none
  arrive-first frames (backtrack.Turn p i min max h fs ∷ more) back slots w now none = arrive-first frames more back slots w _ none
  arrive-first frames (backtrack.RestoreSlot k old fs row ∷ more) back slots w now none = arrive-first frames more back (set slots k old) w now none
  arrive-first frames (backtrack.LookAround p kind i h fs outer_back ∷ more) back slots w now none = absurd (omega arith)

  pub stack_run-reaches : (frames : List Frame) (entries : List Backtrack) (back : Bool) (slots : List Slot) (w : State) (now : Run) → depth_in entries ≡ 0 → Arrives w (stack_run input steps frames entries back slots (reaches w ∷ now))
  unfolding stack_run depth_in
  stack_run-reaches frames entries back slots w now none = arrive-first frames (reverse entries) back slots w now none
