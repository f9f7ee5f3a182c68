-- The code of a step, read from a program.
use Rattle.std.proofs.Common.{◌≡◌, refl, ap, sym, ◌∙◌, subst, ℕ, zero, suc, ◌≤◌, ◌<◌, Bool, true, false, ◌==◌, if◌then◌else◌, Option, Some, None, List, [], ◌∷◌, ◌++◌, length, reverse, arith}
use Rattle.std.specs.Prelude.{slice_get}
use Rattle.std.proofs.Math.Dec.{eqb-suc-zero, eqb-zero-suc, eqb-suc-suc}
use Rattle.std.proofs.lemmas.Bool.{eqb-true}
use Rattle.std.proofs.lemmas.List.{reverse-append, reverse-reverse, length-reverse}
use Rattle.rx_program.specs.declared.step.Step.{Step}
use Rattle.rx_program.specs.declared.step.Step.TheVariants as step
use Rattle.rx_trace.specs.Groups.{slot_of}
use Rattle.rx_program.specs.Codes.{Code, consume, assert, refer, enter_group, choose, sequence, capture, look_around, repeat}
use Rattle.rx_program.specs.Steps.{step_code, test_holds, code_in, code_at}
use Rattle.rx_program.specs.Steps.{NamesBelow, OrderedOf, AreOrdered}

-- what stands at a number in a list from the last to the first
abbrev pub read_of : {A : Type 0} → List A → ℕ → Option A
read_of [] i = None
read_of (x ∷ before) i = if i == length before then Some x else read_of before i

pub apart-test : (i n : ℕ) → (i ≡ n → ⊥) → (i == n) ≡ false
apart-test i n apart = by_test (i == n) refl
  where
    by_test : (b : Bool) → (i == n) ≡ b → b ≡ false
    by_test true is = absurd (apart (eqb-true i n is))
    by_test false is = refl

read_last : {A : Type 0} (ys : List A) (x : A) (i : ℕ) → slice_get (ys ++ (x ∷ [])) i ≡ (if i == length ys then Some x else slice_get ys i)
read_last [] x zero = refl
read_last [] x (suc i) = ap (λ b. if b then Some x else None) (sym (eqb-suc-zero i))
read_last (y ∷ ys) x zero = ap (λ b. if b then Some x else Some y) (sym (eqb-zero-suc (length ys)))
read_last (y ∷ ys) x (suc i) = read_last ys x i ∙ ap (λ b. if b then Some x else slice_get ys i) (sym (eqb-suc-suc i (length ys)))

reverse-first : {A : Type 0} (x : A) (r : List A) → reverse (x ∷ r) ≡ reverse r ++ (x ∷ [])
reverse-first x r = reverse-append (x ∷ []) r

read_reverse : {A : Type 0} (r : List A) (i : ℕ) → slice_get (reverse r) i ≡ read_of r i
read_reverse [] i = refl
read_reverse (x ∷ r) i =
    ap (λ l. slice_get l i) (reverse-first x r) ∙ read_last (reverse r) x i
    ∙ ap (λ n. if i == n then Some x else slice_get (reverse r) i) (length-reverse r) ∙ ap (λ o. if i == length r then Some x else o) (read_reverse r i)

pub read_is : {A : Type 0} (xs : List A) (i : ℕ) → slice_get xs i ≡ read_of (reverse xs) i
read_is xs i = ap (λ l. slice_get l i) (sym (reverse-reverse xs)) ∙ read_reverse (reverse xs) i

pub built-same : (x : Step) (n : ℕ) (f g : ℕ → Code) → NamesBelow n x → ((j : ℕ) → j < n → f j ≡ g j) → step_code x f ≡ step_code x g
built-same step.Accept n f g names same = refl
built-same step.Reject n f g names same = refl
built-same (step.Consume t next) n f g names same = ap (consume (test_holds t)) (same next names)
built-same (step.Assert kind multiline next) n f g names same = ap (assert kind multiline) (same next names)
built-same (step.Refer number next) n f g below same = ap (refer (λ slots. slot_of slots number)) (same next below)
built-same (step.ReferByName numbers next) n f g below same = ap (λ c. step_code (step.ReferByName numbers 0) (λ i. c)) (same next below)
built-same (step.EnterGroup next) n f g names same = ap enter_group (same next names)
built-same (step.Choose first other) n f g names same = ap (λ c. choose c (f other)) (same first names.0) ∙ ap (choose (g first)) (same other names.1)
built-same (step.Sequence first second) n f g names same = ap (λ c. sequence c (f second)) (same first names.0) ∙ ap (sequence (g first)) (same second names.1)
built-same (step.Capture k body next) n f g names same = ap (λ c. capture k c (f next)) (same body names.0) ∙ ap (capture k (g body)) (same next names.1)
built-same (step.LookAround kind body next) n f g names same = ap (λ c. look_around kind c (f next)) (same body names.0) ∙ ap (look_around kind (g body)) (same next names.1)
built-same (step.Repeat t body next) n f g names same =
    ap (λ c. repeat t.min t.max t.greedy t.from t.count c (f next)) (same body names.0) ∙ ap (repeat t.min t.max t.greedy t.from t.count (g body)) (same next names.1)

pub names-more : (x : Step) (m n : ℕ) → m ≤ n → NamesBelow m x → NamesBelow n x
names-more step.Accept m n more names = tt
names-more step.Reject m n more names = tt
names-more (step.Consume t next) m n more names = omega arith
names-more (step.Assert kind multiline next) m n more names = omega arith
names-more (step.Refer number next) m n more below = omega arith
names-more (step.ReferByName numbers next) m n more below = omega arith
names-more (step.EnterGroup next) m n more names = omega arith
names-more (step.Choose first other) m n more names = (omega arith, omega arith)
names-more (step.Sequence first second) m n more names = (omega arith, omega arith)
names-more (step.Capture k body next) m n more names = (omega arith, omega arith)
names-more (step.LookAround kind body next) m n more names = (omega arith, omega arith)
names-more (step.Repeat t body next) m n more names = (omega arith, omega arith)

some-same : {A : Type 0} {x y : A} → Some x ≡ Some y → x ≡ y
some-same e = cc

code-before : (y : Step) (before : List Step) (j : ℕ) → j < length before → code_in before j ≡ code_in (y ∷ before) j
code-before y before j below = ap (λ b. if b then step_code y (code_in before) else code_in before j) (sym (apart-test j (length before) (λ e. omega arith)))

-- The step that is read at a number names earlier ones, and its code stands there.
abbrev IsRead : List Step → ℕ → Step → Type 0
IsRead r i x = NamesBelow (length r) x × (code_in r i ≡ step_code x (code_in r))

read-if : (b : Bool) (before : List Step) (y x : Step) (i : ℕ) → NamesBelow (length before) y → (read_of before i ≡ Some x → IsRead before i x)
    → (if b then Some y else read_of before i) ≡ Some x → NamesBelow (suc (length before)) x × ((if b then step_code y (code_in before) else code_in before i) ≡ step_code x (code_in (y ∷ before)))
read-if true before y x i names rest is = (
  names-more x (length before) (suc (length before)) (omega arith) (subst (NamesBelow (length before)) (some-same is) names),
  built-same y (length before) (code_in before) (code_in (y ∷ before)) names (code-before y before) ∙ ap (λ z. step_code z (code_in (y ∷ before))) (some-same is),
)
read-if false before y x i names rest is =
    let it = rest is in (
      names-more x (length before) (suc (length before)) (omega arith) it.0,
      it.1 ∙ built-same x (length before) (code_in before) (code_in (y ∷ before)) it.0 (code-before y before),
    )

step-read : (r : List Step) (i : ℕ) (x : Step) → OrderedOf r → read_of r i ≡ Some x → IsRead r i x
step-read [] i x ordered is = absurd (cc)
step-read (y ∷ before) i x ordered is = read-if (i == length before) before y x i ordered.0 (step-read before i x ordered.1) is

-- the code of the step that stands at a number
pub code_is : (steps : List Step) (i : ℕ) (x : Step) → AreOrdered steps → slice_get steps i ≡ Some x → code_at steps i ≡ step_code x (code_at steps)
unfolding code_at AreOrdered
code_is steps i x ordered is = (step-read (reverse steps) i x ordered (sym (read_is steps i) ∙ is)).1
