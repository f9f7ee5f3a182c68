-- The first pass over a text, mark by mark.
use Rattle.std.specs.Prelude.{◌≡◌, ℕ, zero, suc, ◌+◌, Bool, true, not, ◌&&◌, Option, Some, None, List, [], ◌∷◌, ◌++◌, map, option_map, if◌then◌else◌}
use Rattle.std.specs.BTreeMap.{get_by_text}
use Rattle.std.specs.Str.{IsUtf8, chars}
use Rattle.rx_base.specs.Texts.{are_same, is_among}
use Rattle.rx_model.specs.declared.mode.Mode.{Mode}
use Rattle.rx_model.specs.FirstPass.GroupStates.{GroupState, step}
use Rattle.rx_model.specs.FirstPass.Marks.{IsFirstClash, Mark, listed, mark_at, mark_count, mark_name, mark_place, marks, name_length, name_places}
use Rattle.rx_scan.specs.OpenGroups.{group_states_of, hides, states_that_part}
use Rattle.rx_scan.specs.declared.first_pass.FirstPass.{FirstPass}
use Rattle.rx_scan.specs.declared.first_pass.Opening.{Opening}
use Rattle.rx_scan.specs.declared.first_pass.PassFault.{PassFault}
use Rattle.rx_scan.specs.declared.first_pass.PassFault.TheVariants.{OutOfMemory, Duplicated}
use Rattle.rx_scan.specs.declared.last_openings.LastOpenings.{LastOpenings}

-- a named opening: its index, its name, and the places before and after the units of the name
pub record Entry : Type 0 where
  pub index : ℕ
  pub name : List ℕ
  pub from : ℕ
  pub to : ℕ

-- an opening with or without a name, at index k and between two places, as a list of at most one
abbrev pub entry_for : ℕ → ℕ → ℕ → Option (List ℕ) → List Entry
entry_for k from to None = []
entry_for k from to (Some name) = record { index = k; name = name; from = from; to = to } ∷ []

-- of the mark with index k, which begins at a place
abbrev pub entry_at : Mode → ℕ → ℕ → Mark → List Entry
entry_at mode at k m = entry_for k (at + 3) (at + 3 + name_length m) (mark_name mode m)

-- those of the first k marks
abbrev pub named_openings : Mode → List ℕ → ℕ → List Entry
named_openings mode us zero = []
named_openings mode us (suc k) = named_openings mode us k ++ entry_at mode (mark_place mode us k) k (mark_at (marks mode us) k)

-- the first of equal name that is in no alternative that has ended
abbrev pub first_clash : List GroupState → List ℕ → List Entry → Option Entry
first_clash fs name [] = None
first_clash fs name (e ∷ es) = if are_same e.name name && not (hides e.index fs) then Some e else first_clash fs name es

-- the first of two that is there
abbrev pub last_or : Option Entry → Option Entry → Option Entry
last_or None y = y
last_or (Some x) y = Some x

-- the last of equal name
abbrev pub last_named : List ℕ → List Entry → Option Entry
last_named name [] = None
last_named name (e ∷ es) = last_or (last_named name es) (if are_same e.name name then Some e else None)

-- Where the last of equal name is in an alternative that has ended, all are.
abbrev pub LastTells : List GroupState → List ℕ → List Entry → Type 0
LastTells fs name es = (e : Entry) → last_named name es ≡ Some e → hides e.index fs ≡ true → first_clash fs name es ≡ None

-- The map has the index of the last opening of each name.
abbrev pub KnowsLast : List Entry → LastOpenings → Type 0
KnowsLast es last =
    (bytes : List ℕ) → IsUtf8 bytes → get_by_text last.marks bytes ≡ option_map (λ e. e.index) (last_named (chars bytes) es)

-- an opening that the pass keeps
abbrev pub entry_of : Opening → Entry
entry_of o = record { index = o.mark; name = o.name; from = o.start; to = o.end }

-- all that it keeps, in order
abbrev pub entries : FirstPass → List Entry
entries pass = map entry_of pass.openings

-- the places before and after the units of its name
abbrev pub span_of : Entry → ℕ × ℕ
span_of e = (e.from, e.to)

-- one more name at the end, unless it is there
abbrev pub with_name : List (List ℕ) → List ℕ → List (List ℕ)
with_name names name = if is_among names name then names else names ++ name ∷ []

-- the same for each of some names, in order
abbrev pub with_names : List (List ℕ) → List (List ℕ) → List (List ℕ)
with_names names [] = names
with_names names (name ∷ more) = with_names (with_name names name) more

-- the group states by which bars part the names that it keeps
abbrev pub parts_of : FirstPass → List GroupState
parts_of pass = states_that_part pass.duplicate_names (group_states_of pass.groups)

-- before the first mark
pub record IsStart (mode : Mode) (duplicate_names : Bool) (pass : FirstPass) : Type 0 where
  pub mode_is : pass.mode ≡ mode
  pub rule_is : pass.duplicate_names ≡ duplicate_names
  pub counted : pass.count ≡ 0
  pub named_by : pass.names ≡ []
  pub opened : group_states_of pass.groups ≡ (0, 0) ∷ []
  pub listed_are : pass.openings ≡ []
  pub knows : KnowsLast [] pass.last_openings

-- A capturing group opens at index k, with or without a name.
pub record Captures (old new : FirstPass) (name : Option (List ℕ)) (from to k : ℕ) : Type 0 where
  pub mode_is : new.mode ≡ old.mode
  pub rule_is : new.duplicate_names ≡ old.duplicate_names
  pub counted : new.count ≡ old.count + 1
  pub named_by : new.names ≡ with_names old.names (listed name)
  pub opened : group_states_of new.groups ≡ (suc k, suc k) ∷ group_states_of old.groups
  pub listed_are : entries new ≡ entries old ++ entry_for k from to name
  pub knows : KnowsLast (entries new) new.last_openings
  pub fresh : (n : List ℕ) → name ≡ Some n → first_clash (parts_of old) n (entries old) ≡ None

-- The mark with index k, which begins at a place, leads from old to new.
pub record Steps (old new : FirstPass) (m : Mark) (at k : ℕ) : Type 0 where
  pub mode_is : new.mode ≡ old.mode
  pub rule_is : new.duplicate_names ≡ old.duplicate_names
  pub counted : new.count ≡ old.count + mark_count m
  pub named_by : new.names ≡ with_names old.names (listed (mark_name old.mode m))
  pub opened : group_states_of new.groups ≡ step k m (group_states_of old.groups)
  pub listed_are : entries new ≡ entries old ++ entry_at old.mode at k m
  pub knows : KnowsLast (entries new) new.last_openings
  pub fresh : (n : List ℕ) → mark_name old.mode m ≡ Some n → first_clash (parts_of old) n (entries old) ≡ None

-- An opening with this name between these places clashes with an earlier one.
abbrev pub ClashesWith : FirstPass → List ℕ → ℕ → ℕ → PassFault → Type 0
ClashesWith old name from to OutOfMemory = Unit {0}
ClashesWith old name from to (Duplicated first second) =
    (e : Entry) × (first_clash (parts_of old) name (entries old) ≡ Some e) × (first ≡ span_of e) × (second ≡ (from, to))

-- The mark that begins at a place is such an opening.
abbrev pub Refuses : FirstPass → Mark → ℕ → PassFault → Type 0
Refuses old m at OutOfMemory = Unit {0}
Refuses old m at (Duplicated first second) =
    (name : List ℕ) × (mark_name old.mode m ≡ Some name)
    × ClashesWith old name (at + 3) (at + 3 + name_length m) (Duplicated first second)

-- The fault names the first clash.
abbrev pub IsPassFault : Mode → Bool → List ℕ → PassFault → Type 0
IsPassFault mode duplicate_names us OutOfMemory = Unit {0}
IsPassFault mode duplicate_names us (Duplicated first second) =
    (a : ℕ) × (b : ℕ) × IsFirstClash mode duplicate_names (marks mode us) a b × (first ≡ name_places mode us a) × (second ≡ name_places mode us b)
