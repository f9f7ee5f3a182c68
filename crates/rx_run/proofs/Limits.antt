-- Whether more bytes came than are read.
use Rattle.std.proofs.Common.{◌≡◌, ◌↔◌, refl, subst, ℕ, Option, Some, None, Result, Err, arith}
use Rattle.rx_run.specs.declared.input.InputFault.{InputFault}
use Rattle.rx_run.specs.declared.input.InputFault.TheVariants.{Read, TooMuch}
use Rattle.rx_run.specs.declared.run.Interruption.{Interruption}
use Rattle.rx_run.specs.declared.run.Interruption.TheVariants as interruption
use Rattle.rx_run.specs.Limits.{IsPast, most_read}

pub starts_within : (drawn : ℕ) (limit : Option ℕ) → ¬ IsPast (most_read drawn limit) drawn
starts_within drawn None past = past
starts_within drawn (Some n) past = omega arith

-- the input could not be read on
pub stopped_input : {T : Type 0} (most : Option ℕ) (drawn drawn' : ℕ) (r : Result T Interruption) (fault : InputFault) → r ≡ Err (interruption.Input fault) → ¬ IsPast most drawn
    → (fault ≡ Read → drawn' ≡ drawn) → (fault ≡ TooMuch → IsPast most drawn') → (r ≡ Err (interruption.Input TooMuch)) ↔ IsPast most drawn'
stopped_input most drawn drawn' r Read e within stays past = (
  λ is. cc,
  λ over. absurd (within (subst (λ n. IsPast most n) (stays refl) over)),
)
stopped_input most drawn drawn' r TooMuch e within stays past = (λ is. past refl, λ over. e)

-- it was not that
pub stopped_within : {T : Type 0} (most : Option ℕ) (drawn' : ℕ) (r : Result T Interruption) → ¬ (r ≡ Err (interruption.Input TooMuch)) → ¬ IsPast most drawn' → (r ≡ Err (interruption.Input TooMuch)) ↔ IsPast most drawn'
stopped_within most drawn' r other within = (λ is. absurd (other is), λ over. absurd (within over))
