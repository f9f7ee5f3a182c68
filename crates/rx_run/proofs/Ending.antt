-- What the status says of an answering of the whole input.
use Rattle.std.proofs.Common.{◌≡◌, ◌↔◌, ◌<◌, ◌+◌, refl, inl, inr, ℕ, Bool, true, false, List, Option, Result, Ok, Err, OnOk, arith}
use Rattle.std.specs.Io.KnownBytes.{IsAtEnd}
use Rattle.rx_run.specs.declared.input.InputFault.TheVariants.{Read, TooMuch}
use Rattle.rx_run.specs.declared.run.Interruption.{Interruption}
use Rattle.rx_run.specs.declared.run.Interruption.TheVariants as interruption
use Rattle.rx_run.specs.declared.run.Status.{Status}
use Rattle.rx_run.specs.declared.run.Status.TheVariants as status
use Rattle.rx_run.specs.declared.server.ReplyFault.TheVariants.{Write, OutOfMemory}
use Rattle.rx_run.specs.Limits.{IsReadOut}
use Rattle.rx_run.specs.Status.{IsFinished, Outcome}
use Rattle.rx_run.specs.WholeInput.{IsServed, status_of}

pub outcome_of : (answers : List ℕ → List ℕ → Bool → Type 0) (r : Result Bool Interruption) (read written : List ℕ) → IsServed answers r read written → Outcome answers (status_of r) read written
outcome_of answers (Ok true) read written is = is
outcome_of answers (Ok false) read written is = is
outcome_of answers (Err interruption.OutOfMemory) read written is = is
outcome_of answers (Err (interruption.Input Read)) read written is = is
outcome_of answers (Err (interruption.Input TooMuch)) read written is = is
outcome_of answers (Err (interruption.Reply Write)) read written is = is
outcome_of answers (Err (interruption.Reply OutOfMemory)) read written is = is

pub is_read_fault : (r : Result Bool Interruption) → status_of r ≡ status.ReadFault → r ≡ Err (interruption.Input Read)
is_read_fault (Ok true) is = cc
is_read_fault (Ok false) is = cc
is_read_fault (Err interruption.OutOfMemory) is = cc
is_read_fault (Err (interruption.Input Read)) is = refl
is_read_fault (Err (interruption.Input TooMuch)) is = cc
is_read_fault (Err (interruption.Reply Write)) is = cc
is_read_fault (Err (interruption.Reply OutOfMemory)) is = cc

pub is_write_fault : (r : Result Bool Interruption) → status_of r ≡ status.WriteFault → r ≡ Err (interruption.Reply Write)
is_write_fault (Ok true) is = cc
is_write_fault (Ok false) is = cc
is_write_fault (Err interruption.OutOfMemory) is = cc
is_write_fault (Err (interruption.Input Read)) is = cc
is_write_fault (Err (interruption.Input TooMuch)) is = cc
is_write_fault (Err (interruption.Reply Write)) is = refl
is_write_fault (Err (interruption.Reply OutOfMemory)) is = cc

pub is_too_much : (r : Result Bool Interruption) → status_of r ≡ status.TooMuch → r ≡ Err (interruption.Input TooMuch)
is_too_much (Ok true) is = cc
is_too_much (Ok false) is = cc
is_too_much (Err interruption.OutOfMemory) is = cc
is_too_much (Err (interruption.Input Read)) is = cc
is_too_much (Err (interruption.Input TooMuch)) is = refl
is_too_much (Err (interruption.Reply Write)) is = cc
is_too_much (Err (interruption.Reply OutOfMemory)) is = cc

pub no_usage : (r : Result Bool Interruption) → ¬ (status_of r ≡ status.Usage)
no_usage (Ok true) is = cc
no_usage (Ok false) is = cc
no_usage (Err interruption.OutOfMemory) is = cc
no_usage (Err (interruption.Input Read)) is = cc
no_usage (Err (interruption.Input TooMuch)) is = cc
no_usage (Err (interruption.Reply Write)) is = cc
no_usage (Err (interruption.Reply OutOfMemory)) is = cc

-- the input was answered to its end exactly if there is a result
pub finished_ok : {P : Type 0} (r : Result Bool Interruption) → OnOk r P → IsFinished (status_of r) → P
finished_ok (Ok all_ok) holds is = holds
finished_ok (Err interruption.OutOfMemory) holds is = absurd (elim is [ inl e ↦ cc | inr e ↦ cc ])
finished_ok (Err (interruption.Input Read)) holds is = absurd (elim is [ inl e ↦ cc | inr e ↦ cc ])
finished_ok (Err (interruption.Input TooMuch)) holds is = absurd (elim is [ inl e ↦ cc | inr e ↦ cc ])
finished_ok (Err (interruption.Reply Write)) holds is = absurd (elim is [ inl e ↦ cc | inr e ↦ cc ])
finished_ok (Err (interruption.Reply OutOfMemory)) holds is = absurd (elim is [ inl e ↦ cc | inr e ↦ cc ])

-- with a limit the count of the bytes does not pass a `u64`
pub ended : (left : Option (List ℕ)) (drawn drawn' : ℕ) (s : Status) → (s ≡ status.TooMuch) ↔ (drawn + 67108864 < drawn') → (IsFinished s → IsReadOut left drawn drawn') → IsFinished s → IsAtEnd left
ended left drawn drawn' s past out is = elim (out is) [
  | inl end ↦ end
  | inr far ↦ absurd (let over : s ≡ status.TooMuch = past.1 (omega arith) in elim is [ inl e ↦ cc | inr e ↦ cc ])
]
