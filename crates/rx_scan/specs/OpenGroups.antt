-- The open groups that the first pass keeps, as the group states of a text's marks.
use Rattle.std.specs.Prelude.{ℕ, ◌-◌, ◌<◌, ◌≤◌, Bool, true, false, nat_le, nat_lt, ◌&&◌, ◌||◌, List, [], ◌∷◌, length, get_or}
use Rattle.rx_model.specs.FirstPass.GroupStates.{GroupState}
use Rattle.rx_scan.specs.declared.open_groups.OpenGroup.{OpenGroup}
use Rattle.rx_scan.specs.declared.open_groups.OpenGroups.{OpenGroups}

-- an open group as a group state
abbrev pub pair : OpenGroup → GroupState
pair group = (group.start, group.bar)

-- groups with the outermost first, turned onto others
abbrev pub onto : List OpenGroup → List GroupState → List GroupState
onto [] fs = fs
onto (group ∷ groups) fs = onto groups (pair group ∷ fs)

-- the innermost first
abbrev pub group_states_of : OpenGroups → List GroupState
group_states_of groups = pair groups.innermost ∷ onto groups.outer []

-- whether what stands at index a is in an alternative of this group state that has ended
abbrev pub hides_one : ℕ → GroupState → Bool
hides_one a f = nat_le f.0 a && nat_lt a f.1

-- whether what stands at index a is in an alternative that has ended, of a group that has not
abbrev pub hides : ℕ → List GroupState → Bool
hides a [] = false
hides a (f ∷ fs) = hides_one a f || hides a fs

-- the group states by which bars part names: none, where no two groups may have one name
abbrev pub states_that_part : Bool → List GroupState → List GroupState
states_that_part true fs = fs
states_that_part false fs = []

-- the same of groups with the outermost first
abbrev pub any_hides : ℕ → List OpenGroup → Bool
any_hides a [] = false
any_hides a (group ∷ groups) = hides_one a (pair group) || any_hides a groups

-- what stands for a group past the last
abbrev pub no_group : OpenGroup
no_group = record { start = 0; bar = 0 }

-- The last of the first n groups begins at index a or before it, and the next does not.
abbrev pub Splits : ℕ → List OpenGroup → ℕ → Type 0
Splits a groups n =
    (n ≤ length groups) × (0 < n → (get_or groups (n - 1) no_group).start ≤ a) × (n < length groups → a < (get_or groups n no_group).start)
