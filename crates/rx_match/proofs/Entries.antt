-- What stays sound as entries are pushed and popped.
use Rattle.std.proofs.Common.{◌≡◌, refl, ap, sym, subst, ℕ, suc, ◌≤◌, ◌<◌, Bool, Option, List, [], ◌∷◌, ◌++◌, length, reverse, arith, Some, None}
use Rattle.std.proofs.lemmas.List.{length-reverse}
use Rattle.rx_ast.specs.declared.leaf.LookAroundAssertionKind.{LookAroundAssertionKind}
use Rattle.rx_trace.specs.declared.answer.Slot.{Slot}
use Rattle.rx_match.specs.declared.entry.Backtrack.{Backtrack}
use Rattle.rx_match.specs.declared.entry.Backtrack.TheVariants as backtrack
use Rattle.rx_match.specs.Sound.{PlacedOf, ArePlaced, frames_in, frames_below_next, frames_below_last, own_row, row_of, row_in, depth_of, depth_in, top_of, top_in}
use Rattle.rx_trace.proofs.Lists.{reverse-last}

pub more-of : (n f g : ℕ) (r : List Backtrack) → f ≤ g → PlacedOf n f r → PlacedOf n g r
more-of n f g [] more placed = tt
more-of n f g (backtrack.Choice p e i h fs ∷ r) more placed = (placed.0, placed.1, omega arith, placed.3)
more-of n f g (backtrack.Turn p i min max h fs ∷ r) more placed = (placed.0, placed.1, omega arith, placed.3)
more-of n f g (backtrack.RestoreSlot k old fs row ∷ r) more placed = (placed.0, placed.1, omega arith, placed.3, placed.4)
more-of n f g (backtrack.LookAround p kind i h fs back ∷ r) more placed = (placed.0, placed.1, omega arith, placed.3)

pub placed-more : (n f g : ℕ) (entries : List Backtrack) → f ≤ g → ArePlaced n f entries → ArePlaced n g entries
unfolding ArePlaced
placed-more n f g entries more placed = more-of n f g (reverse entries) more placed

pub placed-choice : (n f p e i h : ℕ) (before between : List Backtrack) → before ≡ between ++ (backtrack.Choice p e i h f ∷ []) → p ≤ n → e ≤ p → h ≤ f → ArePlaced n f between → ArePlaced n f before
unfolding ArePlaced
placed-choice n f p e i h before between is pn ep hf placed = subst (PlacedOf n f) (sym (reverse-last before between (backtrack.Choice p e i h f) is)) ((pn, ep), hf, omega arith, placed)

pub placed-turn : (n f p i min : ℕ) (max : Option ℕ) (h : ℕ) (before between : List Backtrack) → before ≡ between ++ (backtrack.Turn p i min max h f ∷ []) → p ≤ n → h ≤ f → ArePlaced n f between → ArePlaced n f before
unfolding ArePlaced
placed-turn n f p i min max h before between is pn hf placed = subst (PlacedOf n f) (sym (reverse-last before between (backtrack.Turn p i min max h f) is)) (pn, hf, omega arith, placed)

pub placed-look_around : (n f p : ℕ) (kind : LookAroundAssertionKind) (i h : ℕ) (back : Bool) (before between : List Backtrack) → before ≡ between ++ (backtrack.LookAround p kind i h f back ∷ []) → p ≤ n → h ≤ f → ArePlaced n f between → ArePlaced n f before
unfolding ArePlaced
placed-look_around n f p kind i h back before between is pn hf placed = subst (PlacedOf n f) (sym (reverse-last before between (backtrack.LookAround p kind i h f back) is)) (pn, hf, omega arith, placed)

pub depth-choice : (p e i h fs : ℕ) (before between : List Backtrack) → before ≡ between ++ (backtrack.Choice p e i h fs ∷ []) → depth_in before ≡ depth_in between
unfolding depth_in
depth-choice p e i h fs before between is = ap depth_of (reverse-last before between (backtrack.Choice p e i h fs) is)

pub depth-turn : (p i min : ℕ) (max : Option ℕ) (h fs : ℕ) (before between : List Backtrack) → before ≡ between ++ (backtrack.Turn p i min max h fs ∷ []) → depth_in before ≡ depth_in between
unfolding depth_in
depth-turn p i min max h fs before between is = ap depth_of (reverse-last before between (backtrack.Turn p i min max h fs) is)

pub depth-restore : (k : ℕ) (old : Slot) (fs row : ℕ) (before between : List Backtrack) → before ≡ between ++ (backtrack.RestoreSlot k old fs row ∷ []) → depth_in before ≡ depth_in between
unfolding depth_in
depth-restore k old fs row before between is = ap depth_of (reverse-last before between (backtrack.RestoreSlot k old fs row) is)

pub depth-look_around : (p : ℕ) (kind : LookAroundAssertionKind) (i h fs : ℕ) (back : Bool) (before between : List Backtrack) → before ≡ between ++ (backtrack.LookAround p kind i h fs back ∷ []) → depth_in before ≡ suc (depth_in between)
unfolding depth_in
depth-look_around p kind i h fs back before between is = ap depth_of (reverse-last before between (backtrack.LookAround p kind i h fs back) is)

pub depth-none : depth_in [] ≡ 0
unfolding depth_in
depth-none = refl

-- what the last entry says, and what is below it
pub choice-placed : (n f p e i h fs : ℕ) (before between : List Backtrack) → before ≡ between ++ (backtrack.Choice p e i h fs ∷ []) → ArePlaced n f before → ((p ≤ n) × (e ≤ p)) × (h ≤ fs) × (fs ≤ f) × ArePlaced n fs between
unfolding ArePlaced
choice-placed n f p e i h fs before between is placed = subst (PlacedOf n f) (reverse-last before between (backtrack.Choice p e i h fs) is) placed

pub turn-placed : (n f p i min : ℕ) (max : Option ℕ) (h fs : ℕ) (before between : List Backtrack) → before ≡ between ++ (backtrack.Turn p i min max h fs ∷ []) → ArePlaced n f before → (p ≤ n) × (h ≤ fs) × (fs ≤ f) × ArePlaced n fs between
unfolding ArePlaced
turn-placed n f p i min max h fs before between is placed = subst (PlacedOf n f) (reverse-last before between (backtrack.Turn p i min max h fs) is) placed

pub restore-placed : (n f k : ℕ) (old : Slot) (fs row : ℕ) (before between : List Backtrack) → before ≡ between ++ (backtrack.RestoreSlot k old fs row ∷ []) → ArePlaced n f before → ArePlaced n f between
unfolding ArePlaced
restore-placed n f k old fs row before between is placed =
    let it = subst (PlacedOf n f) (reverse-last before between (backtrack.RestoreSlot k old fs row) is) placed in
    more-of n it.0 f (reverse between) it.2 it.4

pub look_around-placed : (n f p : ℕ) (kind : LookAroundAssertionKind) (i h fs : ℕ) (back : Bool) (before between : List Backtrack) → before ≡ between ++ (backtrack.LookAround p kind i h fs back ∷ []) → ArePlaced n f before → (p ≤ n) × (h ≤ fs) × (fs ≤ f) × ArePlaced n fs between
unfolding ArePlaced
look_around-placed n f p kind i h fs back before between is placed = subst (PlacedOf n f) (reverse-last before between (backtrack.LookAround p kind i h fs back) is) placed

-- Entries come back to no more frames than their last one says, of those that there are.
kept-of : (n f : ℕ) (r : List Backtrack) → PlacedOf n f r → (least : ℕ) × (least ≤ frames_below_next r) × (least ≤ f) × PlacedOf n least r
kept-of n f [] placed = (0, omega arith, omega arith, tt)
kept-of n f (backtrack.Choice p e i h fs ∷ r) placed = (fs, omega arith, placed.2, (placed.0, placed.1, omega arith, placed.3))
kept-of n f (backtrack.Turn p i min max h fs ∷ r) placed = (fs, omega arith, placed.2, (placed.0, placed.1, omega arith, placed.3))
kept-of n f (backtrack.RestoreSlot k old fs row ∷ r) placed = (placed.0, placed.1, placed.2, (placed.0, placed.1, omega arith, placed.3, placed.4))
kept-of n f (backtrack.LookAround p kind i h fs back ∷ r) placed = (fs, omega arith, placed.2, (placed.0, placed.1, omega arith, placed.3))

pub placed-restore : (n f k : ℕ) (old : Slot) (fs row : ℕ) (before between : List Backtrack) → before ≡ between ++ (backtrack.RestoreSlot k old fs row ∷ []) → fs ≡ frames_below_last between → row ≤ suc (row_in between) → ArePlaced n f between → ArePlaced n f before
unfolding ArePlaced frames_below_last row_in
placed-restore n f k old fs row before between is kept few placed =
    let it = kept-of n f (reverse between) placed in
    subst (PlacedOf n f) (sym (reverse-last before between (backtrack.RestoreSlot k old fs row) is)) (it.0, omega arith, it.2, few, it.3)

-- so frames past these may go
pub placed-kept : (n f g : ℕ) (entries : List Backtrack) → frames_below_last entries ≤ g → ArePlaced n f entries → ArePlaced n g entries
unfolding ArePlaced frames_below_last
placed-kept n f g entries enough placed =
    let it = kept-of n f (reverse entries) placed in
    more-of n it.0 g (reverse entries) (omega arith) it.3

-- the last entry says how many
pub kept-none : (entries : List Backtrack) → length entries ≡ 0 → frames_below_last entries ≡ 0
unfolding frames_below_last
kept-none [] none = refl
kept-none (e ∷ entries) none = absurd (omega arith)

pub kept-last : (e : Backtrack) (before between : List Backtrack) → before ≡ between ++ (e ∷ []) → frames_below_last before ≡ frames_in e
unfolding frames_below_last
kept-last e before between is = ap frames_below_next (reverse-last before between e is)

pub row-none : (entries : List Backtrack) → length entries ≡ 0 → row_in entries ≡ 0
unfolding row_in
row-none [] none = refl
row-none (e ∷ entries) none = absurd (omega arith)

pub row-last : (e : Backtrack) (before between : List Backtrack) → before ≡ between ++ (e ∷ []) → row_in before ≡ own_row e
unfolding row_in
row-last e before between is = ap row_of (reverse-last before between e is)

-- a look-around, and nothing else
abbrev pub IsLookAround : Option Backtrack → Type 0
IsLookAround None = ⊥
IsLookAround (Some (backtrack.Choice p e i h fs)) = ⊥
IsLookAround (Some (backtrack.Turn p i min max h fs)) = ⊥
IsLookAround (Some (backtrack.RestoreSlot k old fs row)) = ⊥
IsLookAround (Some (backtrack.LookAround p kind i h fs back)) = Unit {0}

-- Where a look-around is open, the last of them is found.
top-of : (r : List Backtrack) → 0 < depth_of r → IsLookAround (top_of r)
top-of [] some = absurd (omega arith)
top-of (backtrack.Choice p e i h fs ∷ r) some = top-of r some
top-of (backtrack.Turn p i min max h fs ∷ r) some = top-of r some
top-of (backtrack.RestoreSlot k old fs row ∷ r) some = top-of r some
top-of (backtrack.LookAround p kind i h fs back ∷ r) some = tt

pub top_is : (entries : List Backtrack) → 0 < depth_in entries → IsLookAround (top_in entries)
unfolding depth_in top_in
top_is entries some = top-of (reverse entries) some

-- no more look-arounds are open than there are entries
depth-length : (r : List Backtrack) → depth_of r ≤ length r
depth-length [] = omega arith
depth-length (backtrack.Choice p e i h fs ∷ r) = let less = depth-length r in omega arith
depth-length (backtrack.Turn p i min max h fs ∷ r) = let less = depth-length r in omega arith
depth-length (backtrack.RestoreSlot k old fs row ∷ r) = let less = depth-length r in omega arith
depth-length (backtrack.LookAround p kind i h fs back ∷ r) = let less = depth-length r in omega arith

pub depth-within : (entries : List Backtrack) → depth_in entries ≤ length entries
unfolding depth_in
depth-within entries =
    let less = depth-length (reverse entries) in
    let same = length-reverse entries in
    omega arith
