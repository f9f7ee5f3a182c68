-- What holds of a machine's stacks.
use Rattle.std.specs.Prelude.{◌≡◌, ℕ, suc, ◌+◌, ◌≤◌, ◌<◌, slice_get, Bool, true, false, ◌==◌, Option, Some, None, List, [], ◌∷◌, length, reverse}
use Rattle.rx_match.specs.declared.entry.Frame.{Frame}
use Rattle.rx_match.specs.declared.entry.Backtrack.{Backtrack}
use Rattle.rx_match.specs.declared.entry.Backtrack.TheVariants as backtrack
use Rattle.rx_match.specs.declared.entry.OpenLookAround.{OpenLookAround}

-- what waits below a frame stands before it
abbrev pub StackedOf : List Frame → Type 0
StackedOf [] = Unit {0}
StackedOf (f ∷ before) = (f.below ≤ length before) × StackedOf before

unfoldable pub AreStacked : List Frame → Type 0
AreStacked frames = StackedOf (reverse frames)

-- how many look-arounds are open
abbrev pub depth_of : List Backtrack → ℕ
depth_of [] = 0
depth_of (backtrack.Choice p e i h fs ∷ more) = depth_of more
depth_of (backtrack.Turn p i min max h fs ∷ more) = depth_of more
depth_of (backtrack.RestoreSlot k old fs row ∷ more) = depth_of more
depth_of (backtrack.LookAround p kind i h fs back ∷ more) = suc (depth_of more)

unfoldable pub depth_in : List Backtrack → ℕ
depth_in entries = depth_of (reverse entries)

-- how many entries that restore slots stand in a row at the end, by what the last of them says
abbrev pub own_row : Backtrack → ℕ
own_row (backtrack.Choice p e i h fs) = 0
own_row (backtrack.Turn p i min max h fs) = 0
own_row (backtrack.RestoreSlot k old fs row) = row
own_row (backtrack.LookAround p kind i h fs back) = 0

abbrev pub row_of : List Backtrack → ℕ
row_of [] = 0
row_of (e ∷ more) = own_row e

unfoldable pub row_in : List Backtrack → ℕ
row_in entries = row_of (reverse entries)

-- Places are in the input, and heads are among the frames that there were. The entries below an entry name no frame past those that
-- it counts. An entry that restores a slot counts no more such entries in a row than there are.
abbrev pub PlacedOf : ℕ → ℕ → List Backtrack → Type 0
PlacedOf n frames [] = Unit {0}
PlacedOf n frames (backtrack.Choice p e i h fs ∷ more) = ((p ≤ n) × (e ≤ p)) × (h ≤ fs) × (fs ≤ frames) × PlacedOf n fs more
PlacedOf n frames (backtrack.Turn p i min max h fs ∷ more) = (p ≤ n) × (h ≤ fs) × (fs ≤ frames) × PlacedOf n fs more
PlacedOf n frames (backtrack.RestoreSlot k old fs row ∷ more) = (least : ℕ) × (least ≤ fs) × (least ≤ frames) × (row ≤ suc (row_of more)) × PlacedOf n least more
PlacedOf n frames (backtrack.LookAround p kind i h fs back ∷ more) = (p ≤ n) × (h ≤ fs) × (fs ≤ frames) × PlacedOf n fs more

unfoldable pub ArePlaced : ℕ → ℕ → List Backtrack → Type 0
ArePlaced n frames entries = PlacedOf n frames (reverse entries)

-- entries that are placed in some input and over some frames
abbrev pub AreEntries : List Backtrack → Type 0
AreEntries entries = (n : ℕ) × (frames : ℕ) × ArePlaced n frames entries

-- how many frames entries may come back to, by the last of them
abbrev pub frames_in : Backtrack → ℕ
frames_in (backtrack.Choice p e i h fs) = fs
frames_in (backtrack.Turn p i min max h fs) = fs
frames_in (backtrack.RestoreSlot k old fs row) = fs
frames_in (backtrack.LookAround p kind i h fs back) = fs

abbrev pub frames_below_next : List Backtrack → ℕ
frames_below_next [] = 0
frames_below_next (e ∷ more) = frames_in e

unfoldable pub frames_below_last : List Backtrack → ℕ
frames_below_last entries = frames_below_next (reverse entries)

-- What is left of the entries when a look-around has matched: those that restore slots, and what stands below its own entry.
abbrev pub cut_reversed : List Backtrack → List Backtrack
cut_reversed [] = []
cut_reversed (backtrack.Choice p e i h fs ∷ more) = cut_reversed more
cut_reversed (backtrack.Turn p i min max h fs ∷ more) = cut_reversed more
cut_reversed (backtrack.RestoreSlot k old fs row ∷ more) = backtrack.RestoreSlot k old fs row ∷ cut_reversed more
cut_reversed (backtrack.LookAround p kind i h fs back ∷ more) = more

-- the entry of a look-around that is open
abbrev pub entry_of : OpenLookAround → Backtrack
entry_of it = backtrack.LookAround it.place it.kind it.next it.head it.frames it.back

-- the last look-around that is open
abbrev pub top_of : List Backtrack → Option Backtrack
top_of [] = None
top_of (backtrack.Choice p e i h fs ∷ more) = top_of more
top_of (backtrack.Turn p i min max h fs ∷ more) = top_of more
top_of (backtrack.RestoreSlot k old fs row ∷ more) = top_of more
top_of (backtrack.LookAround p kind i h fs back ∷ more) = Some (backtrack.LookAround p kind i h fs back)

unfoldable pub cut_last_first : List Backtrack → List Backtrack
cut_last_first entries = cut_reversed (reverse entries)

abbrev pub cut_entries : List Backtrack → List Backtrack
cut_entries entries = reverse (cut_last_first entries)

unfoldable pub top_in : List Backtrack → Option Backtrack
top_in entries = top_of (reverse entries)

-- whether an entry restores this slot
abbrev pub restores_slot : ℕ → Backtrack → Bool
restores_slot k (backtrack.Choice p e i h fs) = false
restores_slot k (backtrack.Turn p i min max h fs) = false
restores_slot k (backtrack.RestoreSlot j old fs row) = j == k
restores_slot k (backtrack.LookAround p kind i h fs back) = false

-- One of the last entries, all of which restore slots, restores this slot, so that it need not be saved again.
pub record IsSaved (entries : List Backtrack) (k : ℕ) : Type 0 where
  pub at : ℕ
  pub entry : Backtrack
  pub is : slice_get entries at ≡ Some entry
  pub restores : restores_slot k entry ≡ true
  pub last : length entries < suc at + row_in entries
