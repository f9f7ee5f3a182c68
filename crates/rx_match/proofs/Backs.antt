-- Frames that nothing names may be cut back.
use Rattle.std.proofs.Common.{◌≡◌, refl, ap, sym, ◌∙◌, subst, ℕ, ◌≤◌, Bool, List, [], ◌∷◌, ◌++◌, append_assoc, append-nil, length, length-append, take, drop, arith}
use Rattle.std.proofs.lemmas.List.{take-append-drop, length-take-le}
use Rattle.rx_trace.specs.declared.answer.Slot.{Slot}
use Rattle.rx_program.specs.declared.step.Step.{Step}
use Rattle.rx_match.specs.declared.entry.Frame.{Frame}
use Rattle.rx_match.specs.declared.entry.Backtrack.{Backtrack}
use Rattle.rx_match.specs.Runs.{Run}
use Rattle.rx_match.specs.Machines.{continuations_at, stack_run}
use Rattle.rx_match.specs.Sound.{StackedOf, AreStacked, ArePlaced}
use Rattle.rx_trace.proofs.Lists.{reverse-last}
use Rattle.rx_match.proofs.Frames.{frames-more}
use Rattle.rx_match.proofs.Entries.{placed-more}
use Rattle.rx_match.proofs.StackRuns.{stack_run-frames}

longer : {A : Type 0} (a more : List A) (f : A) → a ++ (f ∷ more) ≡ (a ++ (f ∷ [])) ++ more
longer a more f = sym (append_assoc a (f ∷ []) more)

one_more : {A : Type 0} (a : List A) (f : A) → length a ≤ length (a ++ (f ∷ []))
one_more a f = let e = length-append a (f ∷ []) in omega arith

frames-front : (steps : List Step) (b a : List Frame) (h : ℕ) → h ≤ length a → continuations_at steps (a ++ b) h ≡ continuations_at steps a h
frames-front steps [] a h within = ap (λ fs. continuations_at steps fs h) (append-nil a)
frames-front steps (f ∷ b) a h within =
    let more = one_more a f in
    ap (λ fs. continuations_at steps fs h) (longer a b f) ∙ frames-front steps b (a ++ (f ∷ [])) h (omega arith) ∙ frames-more steps (a ++ (f ∷ [])) a f h refl within

stack_run-front : (input : List ℕ) (steps : List Step) (b a : List Frame) (n : ℕ) (entries : List Backtrack) (back : Bool) (slots : List Slot) (now : Run) → ArePlaced n (length a) entries
    → stack_run input steps (a ++ b) entries back slots now ≡ stack_run input steps a entries back slots now
stack_run-front input steps [] a n entries back slots now placed = ap (λ fs. stack_run input steps fs entries back slots now) (append-nil a)
stack_run-front input steps (f ∷ b) a n entries back slots now placed =
    ap (λ fs. stack_run input steps fs entries back slots now) (longer a b f)
    ∙ stack_run-front input steps b (a ++ (f ∷ [])) n entries back slots now (placed-more n (length a) (length (a ++ (f ∷ []))) entries (one_more a f) placed)
    ∙ stack_run-frames input steps (a ++ (f ∷ [])) a f n entries back slots now refl placed

less : (a : List Frame) (f : Frame) → AreStacked (a ++ (f ∷ [])) → AreStacked a
unfolding AreStacked
less a f stacked = (subst StackedOf (reverse-last (a ++ (f ∷ [])) a f refl) stacked).1

stacked-front : (b a : List Frame) → AreStacked (a ++ b) → AreStacked a
stacked-front [] a stacked = subst AreStacked (append-nil a) stacked
stacked-front (f ∷ b) a stacked = less a f (stacked-front b (a ++ (f ∷ [])) (subst AreStacked (longer a b f) stacked))

-- cut back to the first of them
pub frames-cut_back : (steps : List Step) (frames : List Frame) (k h : ℕ) → k ≤ length frames → h ≤ k → continuations_at steps (take k frames) h ≡ continuations_at steps frames h
frames-cut_back steps frames k h within below =
    let size = length-take-le k frames within in
    sym (frames-front steps (drop k frames) (take k frames) h (omega arith)) ∙ ap (λ fs. continuations_at steps fs h) (take-append-drop k frames)

pub stack_run-cut_back : (input : List ℕ) (steps : List Step) (frames : List Frame) (k n : ℕ) (entries : List Backtrack) (back : Bool) (slots : List Slot) (now : Run) → k ≤ length frames → ArePlaced n k entries
    → stack_run input steps (take k frames) entries back slots now ≡ stack_run input steps frames entries back slots now
stack_run-cut_back input steps frames k n entries back slots now within placed =
    let size = length-take-le k frames within in
    sym (stack_run-front input steps (drop k frames) (take k frames) n entries back slots now (subst (λ m. ArePlaced n m entries) (sym size) placed)) ∙ ap (λ fs. stack_run input steps fs entries back slots now) (take-append-drop k frames)

pub stacked-cut_back : (frames : List Frame) (k : ℕ) → AreStacked frames → AreStacked (take k frames)
stacked-cut_back frames k stacked = stacked-front (drop k frames) (take k frames) (subst AreStacked (sym (take-append-drop k frames)) stacked)
