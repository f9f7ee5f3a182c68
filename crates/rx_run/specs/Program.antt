-- What the program does, by its arguments.
use Rattle.std.specs.Prelude.{ℕ, List, Option, IfSome}
use Rattle.rx_run.specs.declared.run.Status.{Status}
use Rattle.rx_run.specs.declared.run.Status.TheVariants.{Usage, OutOfMemory}
use Rattle.rx_run.specs.Arguments.{AreWords, HasNoText}

-- The program ran with the words after its name; or nothing was read or written: `Usage` says that some word is no UTF-8, `OutOfMemory` that there was no
-- memory for the words, which may be so at any time.
-- `runs words status` says that it ran with these words, to this status, and `untouched` that nothing was read or written.
pub data IsProgram (given : Option (List (List ℕ))) (runs : List (List ℕ) → Status → Type 0) (untouched : Type 0) : Status → Type 0 where
  ran : (words : List (List ℕ)) (status : Status) → IfSome given (λ all. AreWords all words) → runs words status → IsProgram given runs untouched status
  no_text : IfSome given HasNoText → untouched → IsProgram given runs untouched Usage
  no_memory : untouched → IsProgram given runs untouched OutOfMemory
