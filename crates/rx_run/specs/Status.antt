-- The statuses that a run of the program ends with.
use Rattle.std.specs.Prelude.{◌≡◌, ℕ, Bool, true, false, List, [], ◌⊎◌, Option}
use Rattle.rx_run.specs.declared.run.Status.{Status}
use Rattle.rx_run.specs.declared.run.Status.TheVariants.{AllOk, SomeRefused, Usage, ReadFault, WriteFault, OutOfMemory, TooMuch}
use Rattle.rx_run.specs.Outcome.{IsAnswered, IsBegun}
use Rattle.rx_run.specs.Printing.{IsPrinted, IsPrintBegun}

-- the number that the process ends with
abbrev pub number_of : Status → ℕ
number_of AllOk = 0
number_of SomeRefused = 1
number_of Usage = 2
number_of ReadFault = 3
number_of WriteFault = 4
number_of OutOfMemory = 5
number_of TooMuch = 6

-- what was read and what was written where the lines were answered, by the status
abbrev pub Outcome : (answers : List ℕ → List ℕ → Bool → Type 0) → Status → List ℕ → List ℕ → Type 0
Outcome answers AllOk read written = IsAnswered answers read written true
Outcome answers SomeRefused read written = IsAnswered answers read written false
Outcome answers Usage read written = (read ≡ []) × (written ≡ [])
Outcome answers ReadFault read written = IsBegun answers read written 0
Outcome answers WriteFault read written = IsBegun answers read written 1
Outcome answers OutOfMemory read written = IsBegun answers read written 0
Outcome answers TooMuch read written = IsBegun answers read written 0

-- the input was answered to its end
abbrev pub IsFinished : Status → Type 0
IsFinished status = (status ≡ AllOk) ⊎ (status ≡ SomeRefused)

-- what was written of a text of which P holds, by the status: the text, or a front of it, or nothing
abbrev pub PrintOutcome : (List ℕ → Type 0) → Status → Option (List ℕ) → Option (List ℕ) → Type 0
PrintOutcome P AllOk taken taken' = IsPrinted P taken taken'
PrintOutcome P SomeRefused taken taken' = ⊥
PrintOutcome P Usage taken taken' = ⊥
PrintOutcome P ReadFault taken taken' = ⊥
PrintOutcome P WriteFault taken taken' = IsPrintBegun P taken taken'
PrintOutcome P OutOfMemory taken taken' = taken' ≡ taken
PrintOutcome P TooMuch taken taken' = ⊥

-- A run that reads nothing, and writes a text of which P holds, or a front of it, or nothing.
pub record Prints {S K : Type 0} (taken : K → Option (List ℕ)) (source source' : S) (sink sink' : K) (P : List ℕ → Type 0) (status : Status) : Type 0 where
  pub unread : source' ≡ source
  pub written : PrintOutcome P status (taken sink) (taken sink')
