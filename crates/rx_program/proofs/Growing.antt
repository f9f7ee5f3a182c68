-- A program that grows by a step.
use Rattle.std.proofs.Common.{◌≡◌, refl, ap, sym, ◌∙◌, subst, ℕ, ◌≤◌, ◌<◌, if◌then◌else◌, List, [], ◌∷◌, ◌++◌, length, map, reverse, arith}
use Rattle.std.proofs.lemmas.Bool.{eq-eqb}
use Rattle.std.proofs.lemmas.List.{length-reverse}
use Rattle.rx_program.specs.declared.step.Step.{Step}
use Rattle.rx_program.specs.BuilderState.{AreBelow}
use Rattle.rx_program.specs.Steps.{step_code, code_in, code_at}
use Rattle.rx_program.specs.Steps.{NamesBelow, OrderedOf, AreOrdered}
use Rattle.rx_trace.proofs.Lists.{reverse-last}
use Rattle.rx_program.proofs.Programs.{apart-test}

-- the codes of the steps below the new one are as they were
pub code-more : (before between : List Step) (x : Step) (i : ℕ) → before ≡ between ++ (x ∷ []) → i < length between → code_at before i ≡ code_at between i
unfolding code_at
code-more before between x i is below =
    let size = length-reverse between in
    ap (λ r. code_in r i) (reverse-last before between x is)
    ∙ ap (λ b. if b then step_code x (code_in (reverse between)) else code_in (reverse between) i) (apart-test i (length (reverse between)) (λ e. omega arith))

-- the code of the step
pub code-new : (before between : List Step) (x : Step) → before ≡ between ++ (x ∷ []) → code_at before (length between) ≡ step_code x (code_at between)
unfolding code_at
code-new before between x is =
    let size = length-reverse between in
    ap (λ r. code_in r (length between)) (reverse-last before between x is)
    ∙ ap (λ b. if b then step_code x (code_in (reverse between)) else code_in (reverse between) (length between)) (eq-eqb (length between) (length (reverse between)) (sym size))

pub ordered-more : (before between : List Step) (x : Step) → before ≡ between ++ (x ∷ []) → NamesBelow (length between) x → AreOrdered between → AreOrdered before
unfolding AreOrdered
ordered-more before between x is names ordered =
    subst OrderedOf (sym (reverse-last before between x is)) (subst (λ n. NamesBelow n x) (sym (length-reverse between)) names, ordered)

pub ordered-none : AreOrdered []
unfolding AreOrdered
ordered-none = tt

pub below-more : (n m : ℕ) (codes : List ℕ) → n ≤ m → AreBelow n codes → AreBelow m codes
below-more n m [] more below = tt
below-more n m (i ∷ codes) more below = (omega arith, below-more n m codes more below.1)

pub codes-more : (before between : List Step) (x : Step) (codes : List ℕ) → before ≡ between ++ (x ∷ []) → AreBelow (length between) codes → map (code_at before) codes ≡ map (code_at between) codes
codes-more before between x [] is below = refl
codes-more before between x (i ∷ codes) is below =
    ap (λ c. c ∷ map (code_at before) codes) (code-more before between x i is below.0) ∙ ap (λ cs. code_at between i ∷ cs) (codes-more before between x codes is below.1)
