-- What is left where a look-around was matched.
use Rattle.std.proofs.Common.{◌≡◌, refl, ap, sym, ◌∙◌, subst, ℕ, suc, ◌≤◌, Bool, Option, Some, None, List, [], ◌∷◌, ◌++◌, append_assoc, reverse, arith}
use Rattle.std.proofs.lemmas.List.{reverse-reverse}
use Rattle.rx_ast.specs.declared.leaf.LookAroundAssertionKind.{LookAroundAssertionKind}
use Rattle.rx_trace.specs.declared.answer.Slot.{Slot}
use Rattle.rx_match.specs.declared.entry.Backtrack.{Backtrack}
use Rattle.rx_match.specs.declared.entry.Backtrack.TheVariants as backtrack
use Rattle.rx_match.specs.Sound.{row_of, PlacedOf, ArePlaced, depth_of, depth_in, cut_reversed, cut_last_first, cut_entries, top_of, top_in}
use Rattle.rx_trace.proofs.Lists.{reverse-last}

-- one entry less
pub record Fewer (old before : List Backtrack) (kept : List Backtrack) : Type 0 where
  pub top : top_in old ≡ top_in before
  pub cut : cut_last_first old ≡ kept ++ cut_last_first before

pub fewer_choice : (old before between kept : List Backtrack) (p e i h fs : ℕ) → before ≡ between ++ (backtrack.Choice p e i h fs ∷ []) → Fewer old before kept → Fewer old between kept
unfolding cut_last_first top_in
fewer_choice old before between kept p e i h fs is f = record { top = f.top ∙ ap top_of (reverse-last before between (backtrack.Choice p e i h fs) is); cut = f.cut ∙ ap (λ r. kept ++ cut_reversed r) (reverse-last before between (backtrack.Choice p e i h fs) is) }

pub fewer_turn : (old before between kept : List Backtrack) (p i min : ℕ) (max : Option ℕ) (h fs : ℕ) → before ≡ between ++ (backtrack.Turn p i min max h fs ∷ []) → Fewer old before kept → Fewer old between kept
unfolding cut_last_first top_in
fewer_turn old before between kept p i min max h fs is f = record { top = f.top ∙ ap top_of (reverse-last before between (backtrack.Turn p i min max h fs) is); cut = f.cut ∙ ap (λ r. kept ++ cut_reversed r) (reverse-last before between (backtrack.Turn p i min max h fs) is) }

pub fewer_restore : (old before between kept more : List Backtrack) (k : ℕ) (was : Slot) (fs row : ℕ) → before ≡ between ++ (backtrack.RestoreSlot k was fs row ∷ []) → more ≡ kept ++ (backtrack.RestoreSlot k was fs row ∷ []) → Fewer old before kept → Fewer old between more
unfolding cut_last_first top_in
fewer_restore old before between kept more k was fs row is kept_is f = record {
  top = f.top ∙ ap top_of (reverse-last before between (backtrack.RestoreSlot k was fs row) is);
  cut = f.cut ∙ ap (λ r. kept ++ cut_reversed r) (reverse-last before between (backtrack.RestoreSlot k was fs row) is)
      ∙ sym (append_assoc kept (backtrack.RestoreSlot k was fs row ∷ []) (cut_reversed (reverse between))) ∙ ap (λ ks. ks ++ cut_reversed (reverse between)) (sym kept_is);
}

pub look_around_top : (old before between kept : List Backtrack) (p : ℕ) (kind : LookAroundAssertionKind) (i h fs : ℕ) (back : Bool) → before ≡ between ++ (backtrack.LookAround p kind i h fs back ∷ []) → Fewer old before kept
    → top_in old ≡ Some (backtrack.LookAround p kind i h fs back)
unfolding top_in
look_around_top old before between kept p kind i h fs back is f = f.top ∙ ap top_of (reverse-last before between (backtrack.LookAround p kind i h fs back) is)

pub look_around_cut : (old before between kept after : List Backtrack) (p : ℕ) (kind : LookAroundAssertionKind) (i h fs : ℕ) (back : Bool) → before ≡ between ++ (backtrack.LookAround p kind i h fs back ∷ []) → Fewer old before kept
    → after ≡ reverse (kept ++ reverse between) → after ≡ cut_entries old
unfolding cut_last_first
look_around_cut old before between kept after p kind i h fs back is f put = put ∙ sym (ap reverse (f.cut ∙ ap (λ r. kept ++ cut_reversed r) (reverse-last before between (backtrack.LookAround p kind i h fs back) is)))

pub none_top : (old kept : List Backtrack) → Fewer old [] kept → top_in old ≡ None
unfolding top_in
none_top old kept f = f.top

-- Where choices go, no fewer entries that restore slots stand in a row.
row-cut : (r : List Backtrack) → row_of r ≤ row_of (cut_reversed r)
row-cut [] = omega arith
row-cut (backtrack.Choice p e i h fs ∷ more) = omega arith
row-cut (backtrack.Turn p i min max h fs ∷ more) = omega arith
row-cut (backtrack.RestoreSlot k old fs row ∷ more) = omega arith
row-cut (backtrack.LookAround p kind i h fs back ∷ more) = omega arith

-- what the last look-around that is open says
cut-placed : (n f : ℕ) (r : List Backtrack) (p : ℕ) (kind : LookAroundAssertionKind) (i h fs : ℕ) (back : Bool) → top_of r ≡ Some (backtrack.LookAround p kind i h fs back) → PlacedOf n f r → (p ≤ n) × (h ≤ fs) × (fs ≤ f) × PlacedOf n fs (cut_reversed r)
cut-placed n f [] p kind i h fs back is placed = absurd (cc)
cut-placed n f (backtrack.Choice p' e' i' h' fs' ∷ more) p kind i h fs back is placed =
    let it = cut-placed n fs' more p kind i h fs back is placed.3 in
    (it.0, it.1, omega arith, it.3)
cut-placed n f (backtrack.Turn p' i' min max h' fs' ∷ more) p kind i h fs back is placed =
    let it = cut-placed n fs' more p kind i h fs back is placed.3 in
    (it.0, it.1, omega arith, it.3)
cut-placed n f (backtrack.RestoreSlot k old fs' row ∷ more) p kind i h fs back is placed =
    let it = cut-placed n placed.0 more p kind i h fs back is placed.4 in
    let few = placed.3 in
    let kept = row-cut more in
    (it.0, it.1, omega arith, (fs, omega arith, omega arith, omega arith, it.3))
cut-placed n f (backtrack.LookAround p' kind' i' h' fs' back' ∷ more) p kind i h fs back is placed =
    let ps : p' ≡ p = cc in
    let hs : h' ≡ h = cc in
    let same : fs' ≡ fs = cc in
    (subst (λ q. q ≤ n) ps placed.0, omega arith, omega arith, subst (λ q. PlacedOf n q more) same placed.3)

cut-depth : (r : List Backtrack) (p : ℕ) (kind : LookAroundAssertionKind) (i h fs : ℕ) (back : Bool) → top_of r ≡ Some (backtrack.LookAround p kind i h fs back) → depth_of r ≡ suc (depth_of (cut_reversed r))
cut-depth [] p kind i h fs back is = absurd (cc)
cut-depth (backtrack.Choice p' e' i' h' fs' ∷ more) p kind i h fs back is = cut-depth more p kind i h fs back is
cut-depth (backtrack.Turn p' i' min max h' fs' ∷ more) p kind i h fs back is = cut-depth more p kind i h fs back is
cut-depth (backtrack.RestoreSlot k old fs' row ∷ more) p kind i h fs back is = cut-depth more p kind i h fs back is
cut-depth (backtrack.LookAround p' kind' i' h' fs' back' ∷ more) p kind i h fs back is = refl

pub placed-cut : (n f : ℕ) (entries : List Backtrack) (p : ℕ) (kind : LookAroundAssertionKind) (i h fs : ℕ) (back : Bool) → top_in entries ≡ Some (backtrack.LookAround p kind i h fs back) → ArePlaced n f entries
    → (p ≤ n) × (h ≤ fs) × (fs ≤ f) × ArePlaced n fs (cut_entries entries)
unfolding ArePlaced cut_last_first top_in
placed-cut n f entries p kind i h fs back is placed =
    let it = cut-placed n f (reverse entries) p kind i h fs back is placed in
    (it.0, it.1, it.2, subst (PlacedOf n fs) (sym (reverse-reverse (cut_reversed (reverse entries)))) it.3)

pub depth-cut : (entries : List Backtrack) (p : ℕ) (kind : LookAroundAssertionKind) (i h fs : ℕ) (back : Bool) → top_in entries ≡ Some (backtrack.LookAround p kind i h fs back) → depth_in entries ≡ suc (depth_in (cut_entries entries))
unfolding depth_in cut_last_first top_in
depth-cut entries p kind i h fs back is = cut-depth (reverse entries) p kind i h fs back is ∙ ap (λ r. suc (depth_of r)) (sym (reverse-reverse (cut_reversed (reverse entries))))
