-- What is open after some of the marks of a text, innermost first, kept as one pair of indices for each open group.
use Rattle.std.specs.Prelude.{ℕ, zero, suc, ◌<◌, ◌≤◌, List, [], ◌∷◌, ◌⊎◌}
use Rattle.rx_model.specs.FirstPass.Marks.{Mark, other, bar, closer, quiet, capturing, mark_at}

-- the index after the opening of a group, and that of the last bar directly in the group, or the first again where there is none
abbrev pub GroupState : Type 0
GroupState = ℕ × ℕ

-- a bar stands at index k
abbrev pub set_top : ℕ → List GroupState → List GroupState
set_top k [] = []
set_top k (f ∷ fs) = (f.0, k) ∷ fs

-- a closer; the outermost group state is the whole text, and stays
abbrev pub drop_top : List GroupState → List GroupState
drop_top [] = []
drop_top (f ∷ []) = f ∷ []
drop_top (f ∷ g ∷ fs) = g ∷ fs

-- the mark at index k, over what is open before it
abbrev pub step : ℕ → Mark → List GroupState → List GroupState
step k other fs = fs
step k bar fs = set_top k fs
step k closer fs = drop_top fs
step k quiet fs = (suc k, suc k) ∷ fs
step k (capturing units) fs = (suc k, suc k) ∷ fs

-- what is open after the first k marks
abbrev pub group_states : List Mark → ℕ → List GroupState
group_states ms zero = (0, 0) ∷ []
group_states ms (suc k) = step k (mark_at ms k) (group_states ms k)

-- What stands at index a is in an alternative that has ended, of a group that has not.
abbrev pub Hides : ℕ → List GroupState → Type 0
Hides a [] = ⊥
Hides a (f ∷ fs) = ((f.0 ≤ a) × (a < f.1)) ⊎ Hides a fs

-- Each group begins after the last bar of the group that it stands in.
abbrev pub Nests : List GroupState → Type 0
Nests [] = Unit {0}
Nests (f ∷ []) = f.0 ≤ f.1
Nests (f ∷ g ∷ fs) = (f.0 ≤ f.1) × (g.1 ≤ f.0) × Nests (g ∷ fs)
