-- Lists of names with commas between.
use Rattle.std.specs.Prelude.{◌≡◌, ◌≢◌, ◌≤◌, ◌↔◌, ℕ, Bool, IsTrue, List, length, map, AllPairs, Contains}
use Rattle.std.specs.List.{join_with_byte}

-- The word is the names of some of these with commas between, at least one and none twice, and the set has exactly them.
-- Why: docs/DECISIONS.md, 87.
pub record IsNamesOf {Name Set : Type 0} (name_of : Name → List ℕ) (has : Set → Name → Bool) (word : List ℕ) (set : Set) : Type 0 where
  pub listed : List Name
  pub some : 1 ≤ length listed
  pub once : AllPairs (λ one other. one ≢ other) listed
  pub word_is : word ≡ join_with_byte 44 (map name_of listed)
  pub set_are : (name : Name) → IsTrue (has set name) ↔ Contains listed name
