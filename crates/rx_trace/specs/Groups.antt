-- The capturing groups of a tree, numbered from 1 in order of opening, and their slots.
use Rattle.std.specs.Prelude.{ℕ, zero, suc, ◌+◌, ◌==◌, Bool, true, false, if◌then◌else◌, Option, Some, None, List, [], ◌∷◌, ◌++◌, get_or, set, min, max}
use Rattle.rx_ast.specs.Tree.{Node, Nodes, Alternatives, leaf, quantified, group, no_node, node, no_alternative, alternative, capturing, ignoring, looking}
use Rattle.rx_trace.specs.declared.answer.Slot.{Slot}
use Rattle.rx_trace.specs.declared.answer.Slot.TheVariants.{Unset, Set}
use Rattle.rx_trace.specs.Traces.{State}

-- CountLeftCapturingParensWithin (22.2.1.2)
abbrev mutual
  pub groups_in : Node → ℕ
  groups_in (leaf l) = 0
  groups_in (quantified s min max greedy n) = groups_in n
  groups_in (group s (capturing name) d more) = 1 + groups_in_each more
  groups_in (group s (ignoring m) d more) = groups_in_each more
  groups_in (group s (looking kind) d more) = groups_in_each more

  pub groups_in_all : Nodes → ℕ
  groups_in_all no_node = 0
  groups_in_all (node n ns) = groups_in n + groups_in_all ns

  pub groups_in_each : Alternatives → ℕ
  groups_in_each no_alternative = 0
  groups_in_each (alternative s ns more) = groups_in_all ns + groups_in_each more

-- the names of the groups, in order of opening
abbrev pub Names : Type 0
Names = List (Option (List ℕ))

abbrev mutual
  pub names_in : Node → Names
  names_in (leaf l) = []
  names_in (quantified s min max greedy n) = names_in n
  names_in (group s (capturing name) d more) = name ∷ names_in_each more
  names_in (group s (ignoring m) d more) = names_in_each more
  names_in (group s (looking kind) d more) = names_in_each more

  pub names_in_all : Nodes → Names
  names_in_all no_node = []
  names_in_all (node n ns) = names_in n ++ names_in_all ns

  pub names_in_each : Alternatives → Names
  names_in_each no_alternative = []
  names_in_each (alternative s ns more) = names_in_all ns ++ names_in_each more

abbrev pub same_units : List ℕ → List ℕ → Bool
same_units [] [] = true
same_units [] (d ∷ ds) = false
same_units (c ∷ cs) [] = false
same_units (c ∷ cs) (d ∷ ds) = if c == d then same_units cs ds else false

abbrev pub is_named : List ℕ → Option (List ℕ) → Bool
is_named name None = false
is_named name (Some other) = same_units name other

-- the slot of the group with a number, from 1 on; unset where there is none
abbrev pub slot_of : List Slot → ℕ → Slot
slot_of slots zero = Unset
slot_of slots (suc k) = get_or slots k Unset

abbrev pub is_set : Slot → Bool
is_set Unset = false
is_set (Set start end) = true

-- the slot of the first group of a name whose slot is set; unset where there is none
abbrev pub slot_named : List ℕ → Names → List Slot → Slot
slot_named name [] slots = Unset
slot_named name (n ∷ ns) [] = Unset
slot_named name (n ∷ ns) (s ∷ ss) = if is_named name n then (if is_set s then s else slot_named name ns ss) else slot_named name ns ss

-- the slots, of which so many from a number on are unset
abbrev pub unset_slots : ℕ → ℕ → List Slot → List Slot
unset_slots from zero slots = slots
unset_slots from (suc count) slots = set (unset_slots from count slots) (from + count) Unset

abbrev pub unset_in : ℕ → ℕ → State → State
unset_in from count s = record { place = s.place; slots = unset_slots from count s.slots }

-- The slot of a group (its number less 1) is set from one place to another.
abbrev pub with_capture : ℕ → ℕ → State → State
with_capture k p w = record { place = w.place; slots = set w.slots k (Set (min p w.place) (max p w.place)) }
