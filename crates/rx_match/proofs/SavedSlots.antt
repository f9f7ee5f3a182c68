-- Slots that are set and restored.
use Rattle.std.proofs.Common.{◌≡◌, ◌≢◌, refl, ap, sym, ◌∙◌, subst, ℕ, suc, ◌+◌, ◌≤◌, ◌<◌, Bool, true, false, ◌==◌, if◌then◌else◌, Some, List, [], ◌∷◌, ◌++◌, length, reverse, get_or, set, arith}
use Rattle.std.proofs.lemmas.Bool.{eqb-true, eqb-false, false≢true}
use Rattle.std.proofs.lemmas.List.{set-get_or, set-set, set_comm, length-reverse}
use Rattle.rx_trace.specs.declared.answer.Slot.{Slot}
use Rattle.rx_program.specs.declared.step.Step.{Step}
use Rattle.rx_match.specs.declared.entry.Frame.{Frame}
use Rattle.rx_match.specs.declared.entry.Backtrack.{Backtrack}
use Rattle.rx_match.specs.declared.entry.Backtrack.TheVariants as backtrack
use Rattle.rx_match.specs.Runs.{Run}
use Rattle.rx_match.specs.Machines.{stack_run_of, stack_run}
use Rattle.rx_match.specs.Sound.{PlacedOf, ArePlaced, AreEntries, IsSaved, restores_slot, frames_below_last, row_of, row_in, depth_of, depth_in}
use Rattle.rx_match.specs.SavedSlots.{IsRestored, Saves, again, once}
use Rattle.rx_program.proofs.Programs.{read_of, read_is}
use Rattle.rx_trace.proofs.Lists.{reverse-last}
use Rattle.rx_match.proofs.Entries.{placed-restore}
use Rattle.rx_match.proofs.StackRuns.{stack_run-restore}

pub restored_none : {entries : List Backtrack} {slots : List Slot} → IsRestored entries slots entries slots
restored_none {entries} {slots} = record { same = λ input steps frames back now. refl; placed = λ n frames l. l; depth = refl }

pub restored_then : {e1 e2 e3 : List Backtrack} {s1 s2 s3 : List Slot} → IsRestored e1 s1 e2 s2 → IsRestored e2 s2 e3 s3 → IsRestored e1 s1 e3 s3
restored_then a b = record {
  same = λ input steps frames back now. b.same input steps frames back now ∙ a.same input steps frames back now;
  placed = λ n frames l. b.placed n frames (a.placed n frames l);
  depth = b.depth ∙ a.depth;
}

-- a new entry restores a slot
restored_once : (old new : List Backtrack) (slots : List Slot) (k : ℕ) (was is d : Slot) (fs row : ℕ) → new ≡ old ++ (backtrack.RestoreSlot k was fs row ∷ []) → fs ≡ frames_below_last old → row ≤ suc (row_in old) → was ≡ get_or slots k d → IsRestored old slots new (set slots k is)
unfolding depth_in
restored_once old new slots k was is d fs row pushed kept few had = record {
  same = λ input steps frames back now.
      stack_run-restore input steps frames new old k was fs row back (set slots k is) now pushed
      ∙ ap (λ sl. stack_run input steps frames old back sl now) (set-set slots k is was ∙ ap (λ x. set slots k x) had ∙ set-get_or slots k d);
  placed = λ n frames l. placed-restore n frames k was fs row new old pushed kept few l;
  depth = ap depth_of (reverse-last new old (backtrack.RestoreSlot k was fs row) pushed);
}

read-within : (r : List Backtrack) (j : ℕ) (x : Backtrack) → read_of r j ≡ Some x → j < length r
read-within [] j x is = absurd (cc)
read-within (y ∷ r) j x is = by_test (j == length r) refl (read-within r j x) is
  where
    by_test : (b : Bool) → (j == length r) ≡ b → (read_of r j ≡ Some x → j < length r) → (if b then Some y else read_of r j) ≡ Some x → j < suc (length r)
    by_test true test rest is = let same = eqb-true j (length r) test in omega arith
    by_test false test rest is = let below = rest is in omega arith

set-twice : (slots : List Slot) (k k' : ℕ) (v old : Slot) → k' ≡ k → set (set slots k v) k' old ≡ set slots k' old
set-twice slots k k' v old same = subst (λ i. set (set slots i v) k' old ≡ set slots k' old) same (set-set slots k' v old)

module _ (input : List ℕ) (steps : List Step) (frames : List Frame) (back : Bool) (now : Run) where
  -- Where the last entries in a row restore a slot, what it is set to before makes no difference.
  set-before : (n f : ℕ) (r : List Backtrack) (j k : ℕ) (old : Slot) (fs row : ℕ) (slots : List Slot) (v : Slot) → PlacedOf n f r → read_of r j ≡ Some (backtrack.RestoreSlot k old fs row) → length r < suc j + row_of r
      → stack_run_of input steps frames r back (set slots k v) now ≡ stack_run_of input steps frames r back slots now
  set-before n f [] j k old fs row slots v placed is last = absurd (cc)
  set-before n f (backtrack.Choice p e i h fs' ∷ r) j k old fs row slots v placed is last =
      let within = read-within (backtrack.Choice p e i h fs' ∷ r) j (backtrack.RestoreSlot k old fs row) is in absurd (omega arith)
  set-before n f (backtrack.Turn p i min max h fs' ∷ r) j k old fs row slots v placed is last =
      let within = read-within (backtrack.Turn p i min max h fs' ∷ r) j (backtrack.RestoreSlot k old fs row) is in absurd (omega arith)
  set-before n f (backtrack.LookAround p kind i h fs' back' ∷ r) j k old fs row slots v placed is last =
      let within = read-within (backtrack.LookAround p kind i h fs' back' ∷ r) j (backtrack.RestoreSlot k old fs row) is in absurd (omega arith)
  set-before n f (backtrack.RestoreSlot k' old' fs' row' ∷ r) j k old fs row slots v placed is last =
      by_test (j == length r) (k' == k) refl (λ apart is.
      let few = placed.3 in
      ap (λ sl. stack_run_of input steps frames r back sl now) (set_comm slots k k' v old' (λ e. apart (sym e)))
      ∙ set-before n placed.0 r j k old fs row (set slots k' old') v placed.4 is (omega arith)) is
    where
      by_test : (b same : Bool) → (k' == k) ≡ same → ((k' ≢ k) → read_of r j ≡ Some (backtrack.RestoreSlot k old fs row) → stack_run_of input steps frames r back (set (set slots k v) k' old') now ≡ stack_run_of input steps frames r back (set slots k' old') now)
          → (if b then Some (backtrack.RestoreSlot k' old' fs' row') else read_of r j) ≡ Some (backtrack.RestoreSlot k old fs row)
          → stack_run_of input steps frames r back (set (set slots k v) k' old') now ≡ stack_run_of input steps frames r back (set slots k' old') now
      by_test true same test rest is = let e : k' ≡ k = cc in ap (λ sl. stack_run_of input steps frames r back sl now) (set-twice slots k k' v old' e)
      by_test false true test rest is = ap (λ sl. stack_run_of input steps frames r back sl now) (set-twice slots k k' v old' (eqb-true k' k test))
      by_test false false test rest is = rest (λ e. eqb-false k' k test e) is

restored_again : (old : List Backtrack) (slots : List Slot) (k : ℕ) (is : Slot) → AreEntries old → IsSaved old k → IsRestored old slots old (set slots k is)
unfolding ArePlaced row_in stack_run
restored_again old slots k is entries saved = record {
  same = λ input steps frames back now.
      let size = length-reverse old in
      let last = saved.last in
      by_entry input steps frames back now saved.entry saved.restores (sym (read_is old saved.at) ∙ saved.is) (omega arith);
  placed = λ n frames l. l;
  depth = refl;
}
  where
    by_entry : (input : List ℕ) (steps : List Step) (frames : List Frame) (back : Bool) (now : Run) (e : Backtrack) → restores_slot k e ≡ true → read_of (reverse old) saved.at ≡ Some e → length (reverse old) < suc saved.at + row_of (reverse old)
        → stack_run_of input steps frames (reverse old) back (set slots k is) now ≡ stack_run_of input steps frames (reverse old) back slots now
    by_entry input steps frames back now (backtrack.Choice p e i h fs) restores at last = absurd (false≢true restores)
    by_entry input steps frames back now (backtrack.Turn p i min max h fs) restores at last = absurd (false≢true restores)
    by_entry input steps frames back now (backtrack.LookAround p kind i h fs b) restores at last = absurd (false≢true restores)
    by_entry input steps frames back now (backtrack.RestoreSlot j was fs row) restores at last =
        set-before input steps frames back now entries.0 entries.1 (reverse old) saved.at k was fs row slots is entries.2 (at ∙ ap (λ i. Some (backtrack.RestoreSlot i was fs row)) (eqb-true j k restores)) last

pub restored_set : (old new : List Backtrack) (slots : List Slot) (k : ℕ) (was is d : Slot) → AreEntries old → Saves old k was new → was ≡ get_or slots k d → IsRestored old slots new (set slots k is)
restored_set old new slots k was is d entries (again saved same) had = subst (λ es. IsRestored old slots es (set slots k is)) (sym same) (restored_again old slots k is entries saved)
restored_set old new slots k was is d entries (once fs row pushed kept few) had = restored_once old new slots k was is d fs row pushed kept few had
