-- What waits, read from frames.
use Rattle.std.proofs.Common.{◌≡◌, refl, ap, sym, ◌∙◌, subst, ℕ, suc, ◌≤◌, ◌<◌, Bool, true, false, ◌==◌, if◌then◌else◌, Some, List, [], ◌∷◌, ◌++◌, length, reverse, arith}
use Rattle.std.specs.Prelude.{slice_get}
use Rattle.std.proofs.lemmas.Bool.{eqb-true, eq-eqb}
use Rattle.std.proofs.lemmas.List.{length-reverse}
use Rattle.rx_program.specs.declared.step.Step.{Step}
use Rattle.rx_match.specs.declared.entry.Frame.{Frame}
use Rattle.rx_match.specs.Machines.{pending_continuation, continuations_in, continuations_at}
use Rattle.rx_match.specs.Sound.{StackedOf, AreStacked}
use Rattle.rx_program.proofs.Programs.{apart-test, read_of, read_is}
use Rattle.rx_trace.proofs.Lists.{reverse-last, length-last}

module _ (steps : List Step) where
  pub frames-none : (frames : List Frame) → continuations_at steps frames 0 ≡ []
  unfolding continuations_at
  frames-none frames = none (reverse frames)
    where
      none : (r : List Frame) → continuations_in steps r 0 ≡ []
      none [] = refl
      none (f ∷ r) = ap (λ b. if b then pending_continuation steps f.pending ∷ continuations_in steps r f.below else continuations_in steps r 0) (apart-test 0 (suc (length r)) (λ e. omega arith)) ∙ none r

  -- a new frame changes nothing of what waited
  pub frames-more : (before between : List Frame) (f : Frame) (h : ℕ) → before ≡ between ++ (f ∷ []) → h ≤ length between → continuations_at steps before h ≡ continuations_at steps between h
  unfolding continuations_at
  frames-more before between f h is within =
      let size = length-reverse between in
      ap (λ r. continuations_in steps r h) (reverse-last before between f is)
      ∙ ap (λ b. if b then pending_continuation steps f.pending ∷ continuations_in steps (reverse between) f.below else continuations_in steps (reverse between) h) (apart-test h (suc (length (reverse between))) (λ e. omega arith))

  pub frames-new : (before between : List Frame) (f : Frame) (h : ℕ) → before ≡ between ++ (f ∷ []) → h ≡ length before → continuations_at steps before h ≡ pending_continuation steps f.pending ∷ continuations_at steps between f.below
  unfolding continuations_at
  frames-new before between f h is at =
      let size = length-reverse between in
      let more = length-last before between f is in
      ap (λ r. continuations_in steps r h) (reverse-last before between f is)
      ∙ ap (λ b. if b then pending_continuation steps f.pending ∷ continuations_in steps (reverse between) f.below else continuations_in steps (reverse between) h) (eq-eqb h (suc (length (reverse between))) (omega arith))

  frames-before : (y : Frame) (r : List Frame) (h : ℕ) → h ≤ length r → continuations_in steps r h ≡ continuations_in steps (y ∷ r) h
  frames-before y r h within = ap (λ b. if b then pending_continuation steps y.pending ∷ continuations_in steps r y.below else continuations_in steps r h) (sym (apart-test h (suc (length r)) (λ e. omega arith)))

  some-same : {A : Type 0} {x y : A} → Some x ≡ Some y → x ≡ y
  some-same e = cc

  -- a frame, and what waits below it
  record Reads (r : List Frame) (i : ℕ) (x : Frame) : Type 0 where
    pub chain : continuations_in steps r (suc i) ≡ pending_continuation steps x.pending ∷ continuations_in steps r x.below
    pub below : x.below ≤ i
    pub within : i < length r

  reads-if : (b : Bool) (y x : Frame) (r : List Frame) (i : ℕ) → (i == length r) ≡ b → y.below ≤ length r → (read_of r i ≡ Some x → Reads r i x) → (if b then Some y else read_of r i) ≡ Some x → Reads (y ∷ r) i x
  reads-if true y x r i test below rest is =
      let here = eqb-true i (length r) test in
      let same = some-same is in
      let lower : x.below ≤ length r = subst (λ z. z.below ≤ length r) same below in
      record {
        chain = ap (λ b. if b then pending_continuation steps y.pending ∷ continuations_in steps r y.below else continuations_in steps r (suc i)) (eq-eqb (suc i) (suc (length r)) (omega arith))
            ∙ ap (λ z. pending_continuation steps z.pending ∷ continuations_in steps r z.below) same ∙ ap (λ ks. pending_continuation steps x.pending ∷ ks) (frames-before y r x.below lower);
        below = omega arith;
        within = omega arith;
      }
  reads-if false y x r i test below rest is =
      let it = rest is in
      let below' = it.below in
      let within' = it.within in
      record {
        chain = sym (frames-before y r (suc i) (omega arith)) ∙ it.chain ∙ ap (λ ks. pending_continuation steps x.pending ∷ ks) (frames-before y r x.below (omega arith));
        below = it.below;
        within = omega arith;
      }

  reads : (r : List Frame) (i : ℕ) (x : Frame) → StackedOf r → read_of r i ≡ Some x → Reads r i x
  reads [] i x stacked is = absurd (cc)
  reads (y ∷ r) i x stacked is = reads-if (i == length r) y x r i refl stacked.0 (reads r i x stacked.1) is

  pub frames-is : (frames : List Frame) (i : ℕ) (x : Frame) → AreStacked frames → slice_get frames i ≡ Some x → continuations_at steps frames (suc i) ≡ pending_continuation steps x.pending ∷ continuations_at steps frames x.below
  unfolding continuations_at AreStacked
  frames-is frames i x stacked is = (reads (reverse frames) i x stacked (sym (read_is frames i) ∙ is)).chain

  pub below-is : (frames : List Frame) (i : ℕ) (x : Frame) → AreStacked frames → slice_get frames i ≡ Some x → x.below ≤ i
  unfolding AreStacked
  below-is frames i x stacked is = (reads (reverse frames) i x stacked (sym (read_is frames i) ∙ is)).below

pub stacked-more : (before between : List Frame) (f : Frame) → before ≡ between ++ (f ∷ []) → f.below ≤ length between → AreStacked between → AreStacked before
unfolding AreStacked
stacked-more before between f is within stacked =
    let size = length-reverse between in
    subst StackedOf (sym (reverse-last before between f is)) (omega arith, stacked)
