-- Slots were set, and entries say what they are to be restored to.
use Rattle.std.specs.Prelude.{◌≡◌, ℕ, suc, ◌≤◌, Bool, List, [], ◌∷◌, ◌++◌}
use Rattle.rx_trace.specs.declared.answer.Slot.{Slot}
use Rattle.rx_program.specs.declared.step.Step.{Step}
use Rattle.rx_match.specs.declared.entry.Frame.{Frame}
use Rattle.rx_match.specs.declared.entry.Backtrack.{Backtrack}
use Rattle.rx_match.specs.declared.entry.Backtrack.TheVariants as backtrack
use Rattle.rx_match.specs.Runs.{Run}
use Rattle.rx_match.specs.Machines.{stack_run}
use Rattle.rx_match.specs.Sound.{IsSaved, ArePlaced, frames_below_last, row_in, depth_in}

pub record IsRestored (old : List Backtrack) (were : List Slot) (new : List Backtrack) (are : List Slot) : Type 0 where
  pub same : (input : List ℕ) (steps : List Step) (frames : List Frame) (back : Bool) (now : Run) → stack_run input steps frames new back are now ≡ stack_run input steps frames old back were now
  pub placed : (n frames : ℕ) → ArePlaced n frames old → ArePlaced n frames new
  pub depth : depth_in new ≡ depth_in old

-- The old value of a slot is saved by a new last entry, or there is an entry that restores it anyway.
pub data Saves (old : List Backtrack) (k : ℕ) (was : Slot) (new : List Backtrack) : Type 0 where
  again : IsSaved old k → new ≡ old → Saves old k was new
  once : (frames row : ℕ) → new ≡ old ++ (backtrack.RestoreSlot k was frames row ∷ []) → frames ≡ frames_below_last old → row ≤ suc (row_in old) → Saves old k was new
