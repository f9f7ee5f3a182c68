-- How far the first pass has come.
use Rattle.std.specs.Prelude.{◌≡◌, Bool, ℕ, ◌+◌, ◌<◌, ◌≤◌, List, length, drop}
use Rattle.rx_model.specs.declared.mode.Mode.{Mode}
use Rattle.rx_model.specs.FirstPass.GroupStates.{group_states}
use Rattle.rx_model.specs.FirstPass.Marks.{Clash, count, marks, names, places, places_following, seen}
use Rattle.rx_scan.specs.OpenGroups.{group_states_of}
use Rattle.rx_scan.specs.FirstPass.{KnowsLast, entries, named_openings, with_names}
use Rattle.rx_scan.specs.declared.first_pass.FirstPass.{FirstPass}

-- After the first k marks, of which the last ends at a place, what has been found and what is left make what is to be found.
pub record IsAt (mode : Mode) (duplicate_names : Bool) (us : List ℕ) (at : ℕ) (k : ℕ) (pass : FirstPass) : Type 0 where
  pub mode_is : pass.mode ≡ mode
  pub rule_is : pass.duplicate_names ≡ duplicate_names
  pub within : at ≤ length us
  pub few : k ≤ at
  pub fewer : pass.count ≤ k
  pub rest : drop k (marks mode us) ≡ marks mode (drop at us)
  pub places : drop k (places mode us) ≡ places_following mode at 0 (drop at us)
  pub opened : group_states_of pass.groups ≡ group_states (marks mode us) k
  pub listed_are : entries pass ≡ named_openings mode us k
  pub knows : KnowsLast (entries pass) pass.last_openings
  pub counted : pass.count + count (marks mode (drop at us)) ≡ count (marks mode us)
  pub named_by : with_names pass.names (names mode (marks mode (drop at us))) ≡ seen mode (marks mode us)
  pub clean : (a b : ℕ) → b < k → Clash mode duplicate_names (marks mode us) a b → ⊥
