-- A row of checks that is asked, and one that grows by a check.
use Rattle.std.proofs.Common.{◌≡◌, refl, ap, sym, ◌∙◌, ℕ, zero, suc, ◌≤◌, ◌<◌, Bool, true, false, ◌==◌, if◌then◌else◌, Some, List, [], ◌∷◌, ◌++◌, length, get_or, arith}
use Rattle.std.specs.Prelude.{slice_get}
use Rattle.std.proofs.lemmas.Option.{slice_get-get_or}
use Rattle.std.proofs.lemmas.Bool.{eqb-true, eqb-false, eq-eqb}
use Rattle.rx_program.specs.declared.checks.Check.{Check}
use Rattle.rx_program.specs.declared.checks.Target.{Target}
use Rattle.rx_program.specs.declared.checks.Target.TheVariants as target
use Rattle.rx_program.specs.Checks.{item_holds, target_after, after_check, is_check, target_holds, answer}
use Rattle.rx_program.specs.RowParts.{IsTargetBelow}
use Rattle.rx_trace.proofs.Lists.{length-last}
use Rattle.rx_program.proofs.Programs.{apart-test}

module _ (checks : List Check) (c : ℕ) where
  pub held-is : (n : ℕ) → target_holds checks n target.Held c ≡ true
  held-is zero = refl
  held-is (suc n) = held-is n

  pub not_held-is : (n : ℕ) → target_holds checks n target.NotHeld c ≡ false
  not_held-is zero = refl
  not_held-is (suc n) = not_held-is n

  asked-if : (b : Bool) (n i : ℕ) → b ≡ (i == n)
      → target_holds checks (suc n) (target.Check i) c ≡ (if b then target_holds checks n (after_check (slice_get checks n) c) c else target_holds checks n (target.Check i) c)
  asked-if b n i is = ap (λ x. if x then target_holds checks n (after_check (slice_get checks n) c) c else target_holds checks n (target.Check i) c) (sym is)

  -- a check whose number is not below `n` is not asked
  pub past-is : (n i : ℕ) → n ≤ i → target_holds checks n (target.Check i) c ≡ false
  past-is zero i past = refl
  past-is (suc n) i past = asked-if false n i (sym (apart-test i n (λ e. omega arith))) ∙ past-is n i (omega arith)

  at-if : (b : Bool) (n i : ℕ) → b ≡ (i == n) → i < suc n → (i < n → target_holds checks n (target.Check i) c ≡ target_holds checks i (after_check (slice_get checks i) c) c)
      → target_holds checks (suc n) (target.Check i) c ≡ target_holds checks i (after_check (slice_get checks i) c) c
  at-if true n i is below rest =
      let e = eqb-true i n (sym is) in
      asked-if true n i is ∙ ap (λ k. target_holds checks k (after_check (slice_get checks k) c) c) (sym e)
  at-if false n i is below rest =
      let apart = eqb-false i n (sym is) in
      asked-if false n i is ∙ rest (omega arith)

  -- one whose number is below is asked, and then those before it
  pub at-is : (n i : ℕ) → i < n → target_holds checks n (target.Check i) c ≡ target_holds checks i (after_check (slice_get checks i) c) c
  at-is zero i below = absurd (omega arith)
  at-is (suc n) i below = at-if (i == n) n i refl below (at-is n i)

  -- a check that is read leads to the target after it
  pub step-is : (n i : ℕ) (none : Check) (t : Target) → i < n → n ≤ length checks → t ≡ target_after (get_or checks i none) c → target_holds checks n (target.Check i) c ≡ target_holds checks i t c
  step-is n i none t below within is =
      at-is n i below ∙ ap (λ o. target_holds checks i (after_check o c) c) (slice_get-get_or checks i none (omega arith)) ∙ ap (λ t. target_holds checks i t c) (sym is)

get-before : (checks : List Check) (x : Check) (i : ℕ) → i < length checks → slice_get (checks ++ (x ∷ [])) i ≡ slice_get checks i
get-before [] x i within = absurd (omega arith)
get-before (y ∷ checks) x zero within = refl
get-before (y ∷ checks) x (suc i) within = get-before checks x i (omega arith)

get-last : (checks : List Check) (x : Check) → slice_get (checks ++ (x ∷ [])) (length checks) ≡ Some x
get-last [] x = refl
get-last (y ∷ checks) x = get-last checks x

either-same : (b : Bool) (x x' y y' : Bool) → x ≡ x' → y ≡ y' → (if b then x else y) ≡ (if b then x' else y')
either-same true x x' y y' e f = e
either-same false x x' y y' e f = f

module _ (checks : List Check) (x : Check) (c : ℕ) where
  -- below the new check all is as it was
  below-same : (n : ℕ) (t : Target) → n ≤ length checks → target_holds (checks ++ (x ∷ [])) n t c ≡ target_holds checks n t c
  below-same zero t within = refl
  below-same (suc n) t within =
      either-same (is_check n t) _ _ _ _
      (ap (λ k. target_holds (checks ++ (x ∷ [])) n (after_check k c) c) (get-before checks x n (omega arith)) ∙ below-same n (after_check (slice_get checks n) c) (omega arith))
      (below-same n t (omega arith))

-- what is made answers as it did, with one check more
pub answer-more : (before checks : List Check) (x : Check) (t : Target) (c : ℕ) → before ≡ checks ++ (x ∷ []) → IsTargetBelow (length checks) t → answer before t c ≡ answer checks t c
answer-more before checks x target.Held c is below = held-is before c (length before) ∙ sym (held-is checks c (length checks))
answer-more before checks x target.NotHeld c is below = not_held-is before c (length before) ∙ sym (not_held-is checks c (length checks))
answer-more before checks x (target.Check i) c is below =
    let n = length checks in
    ap (λ k. target_holds before k (target.Check i) c) (length-last before checks x is)
    ∙ ap (λ b. if b then target_holds before n (after_check (slice_get before n) c) c else target_holds before n (target.Check i) c) (apart-test i n (λ e. omega arith))
    ∙ ap (λ l. target_holds l n (target.Check i) c) is ∙ below-same checks x c n (target.Check i) (omega arith)

either-answer : (checks : List Check) (c : ℕ) (b : Bool) (t u : Target) → answer checks (if b then t else u) c ≡ (if b then answer checks t c else answer checks u c)
either-answer checks c true t u = refl
either-answer checks c false t u = refl

-- the new check asks its item
pub answer-new : (before checks : List Check) (x : Check) (c : ℕ) → before ≡ checks ++ (x ∷ []) → answer before (target.Check (length checks)) c ≡ (if item_holds x.test c then answer checks x.held c else answer checks x.not_held c)
answer-new before checks x c is =
    let n = length checks in
    ap (λ k. target_holds before k (target.Check n) c) (length-last before checks x is)
    ∙ ap (λ b. if b then target_holds before n (after_check (slice_get before n) c) c else target_holds before n (target.Check n) c) (eq-eqb n n refl)
    ∙ ap (λ l. target_holds l n (after_check (slice_get l n) c) c) is
    ∙ ap (λ k. target_holds (checks ++ (x ∷ [])) n (after_check k c) c) (get-last checks x)
    ∙ below-same checks x c n (target_after x c) (omega arith)
    ∙ either-answer checks c (item_holds x.test c) x.held x.not_held
