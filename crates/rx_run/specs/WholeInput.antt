-- What an answering of the whole input read and wrote, by its result.
use Rattle.std.specs.Prelude.{ℕ, Bool, true, false, List, Result, Ok, Err}
use Rattle.rx_run.specs.declared.input.InputFault.TheVariants.{Read, TooMuch}
use Rattle.rx_run.specs.declared.run.Interruption.{Interruption}
use Rattle.rx_run.specs.declared.run.Interruption.TheVariants as interruption
use Rattle.rx_run.specs.declared.run.Status.{Status}
use Rattle.rx_run.specs.declared.run.Status.TheVariants as status
use Rattle.rx_run.specs.declared.server.ReplyFault.{ReplyFault}
use Rattle.rx_run.specs.declared.server.ReplyFault.TheVariants.{Write, OutOfMemory}
use Rattle.rx_run.specs.Outcome.{IsAnswered, IsBegun}

-- how many bytes of replies are missing at least, by the fault
abbrev pub least_missing : ReplyFault → ℕ
least_missing Write = 1
least_missing OutOfMemory = 0

abbrev pub IsServed : (answers : List ℕ → List ℕ → Bool → Type 0) → Result Bool Interruption → List ℕ → List ℕ → Type 0
IsServed answers (Ok all_ok) read written = IsAnswered answers read written all_ok
IsServed answers (Err interruption.OutOfMemory) read written = IsBegun answers read written 0
IsServed answers (Err (interruption.Input fault)) read written = IsBegun answers read written 0
IsServed answers (Err (interruption.Reply fault)) read written = IsBegun answers read written (least_missing fault)

-- the status that says how it ended
abbrev pub status_of : Result Bool Interruption → Status
status_of (Ok true) = status.AllOk
status_of (Ok false) = status.SomeRefused
status_of (Err interruption.OutOfMemory) = status.OutOfMemory
status_of (Err (interruption.Input Read)) = status.ReadFault
status_of (Err (interruption.Input TooMuch)) = status.TooMuch
status_of (Err (interruption.Reply Write)) = status.WriteFault
status_of (Err (interruption.Reply OutOfMemory)) = status.OutOfMemory
