-- The group states say what is open, and which bars part a mark from the next.
use Rattle.std.proofs.Common.{◌≡◌, refl, ap, sym, subst, ℕ, zero, suc, ◌+◌, ◌-◌, ◌<◌, ◌≤◌, Bool, true, Option, Some, None, List, [], ◌∷◌, arith, inl, inr}
use Rattle.std.proofs.lemmas.Bool.{cases_lt, false≢true}
use Rattle.rx_model.specs.FirstPass.Marks.{Mark, other, bar, closer, quiet, capturing, opens, closes, mark_at, one, tally, IsOpen, IsInner}
use Rattle.rx_model.specs.FirstPass.GroupStates.{GroupState, step, group_states}

abbrev pub top_start : List GroupState → ℕ
top_start [] = 0
top_start (f ∷ fs) = f.0

-- The groups begin one inside the other, and the last group state is the text.
abbrev pub Falls : List GroupState → Type 0
Falls [] = ⊥
Falls (f ∷ []) = f.0 ≡ 0
Falls (f ∷ g ∷ fs) = (g.0 < f.0) × Falls (g ∷ fs)

-- the group state at height p is that of the opening x
abbrev pub Has : ℕ → ℕ → List GroupState → Type 0
Has x p [] = ⊥
Has x zero (f ∷ fs) = f.0 ≡ suc x
Has x (suc p) (f ∷ fs) = Has x p fs

falls_step : (k : ℕ) (m : Mark) (fs : List GroupState) → Falls fs → top_start fs ≤ k → Falls (step k m fs) × (top_start (step k m fs) ≤ suc k)
falls_step k m [] w t = absurd w
falls_step k other (f ∷ fs) w t = (w, omega arith)
falls_step k bar (f ∷ []) w t = (w, omega arith)
falls_step k bar (f ∷ g ∷ fs) w t = (w, omega arith)
falls_step k closer (f ∷ []) w t = (w, omega arith)
falls_step k closer (f ∷ g ∷ fs) w t = (w.1, omega arith)
falls_step k quiet (f ∷ fs) w t = ((omega arith, w), omega arith)
falls_step k (capturing name) (f ∷ fs) w t = ((omega arith, w), omega arith)

pub falls : (ms : List Mark) (k : ℕ) → Falls (group_states ms k) × (top_start (group_states ms k) ≤ k)
falls ms zero = (refl, omega arith)
falls ms (suc k) = let h = falls ms k in falls_step k (mark_at ms k) (group_states ms k) h.0 h.1

-- The opening x is open at k, with p openings above it.
record IsUp (ms : List Mark) (x : ℕ) (k : ℕ) (p : ℕ) : Type 0 where
  before : x < k
  opening : opens (mark_at ms x) ≡ true
  held : (n : ℕ) → suc x + n ≤ k → tally closes ms (suc x) n ≤ tally opens ms (suc x) n
  height : (n : ℕ) → suc x + n ≡ k → tally opens ms (suc x) n ≡ tally closes ms (suc x) n + p

tally_last : (p : Mark → Bool) (ms : List Mark) (i n k : ℕ) → i + n ≡ k → tally p ms i (suc n) ≡ tally p ms i n + one (p (mark_at ms k))
tally_last p ms i n k e = ap (λ j. tally p ms i n + one (p (mark_at ms j))) e

grow_held : (ms : List Mark) (x k p q n : ℕ) → IsUp ms x k p → p + one (opens (mark_at ms k)) ≡ q + one (closes (mark_at ms k)) → suc x + n ≤ suc k → tally closes ms (suc x) n ≤ tally opens ms (suc x) n
grow_held ms x k p q zero u e le = omega arith
grow_held ms x k p q (suc n) u e le = elim (cases_lt (suc x + n) k) [
  | inl lt ↦ u.held (suc n) (omega arith)
  | inr ge ↦ let here : suc x + n ≡ k = omega arith in
      let a = tally_last closes ms (suc x) n k here in let b = tally_last opens ms (suc x) n k here in let h = u.height n here in omega arith
]

grow_height : (ms : List Mark) (x k p q n : ℕ) → IsUp ms x k p → p + one (opens (mark_at ms k)) ≡ q + one (closes (mark_at ms k)) → suc x + n ≡ suc k → tally opens ms (suc x) n ≡ tally closes ms (suc x) n + q
grow_height ms x k p q zero u e s = let b = u.before in absurd (omega arith)
grow_height ms x k p q (suc n) u e s =
    let here : suc x + n ≡ k = omega arith in
    let a = tally_last closes ms (suc x) n k here in let b = tally_last opens ms (suc x) n k here in let h = u.height n here in omega arith

grow : (ms : List Mark) (x k p q : ℕ) → IsUp ms x k p → p + one (opens (mark_at ms k)) ≡ q + one (closes (mark_at ms k)) → IsUp ms x (suc k) q
grow ms x k p q u e = record {
  before = let b = u.before in omega arith;
  opening = u.opening;
  held = λ n le. grow_held ms x k p q n u e le;
  height = λ n s. grow_height ms x k p q n u e s;
}

fresh_held : (ms : List Mark) (k n : ℕ) → suc k + n ≤ suc k → tally closes ms (suc k) n ≤ tally opens ms (suc k) n
fresh_held ms k zero le = omega arith
fresh_held ms k (suc n) le = absurd (omega arith)

fresh_height : (ms : List Mark) (k n : ℕ) → suc k + n ≡ suc k → tally opens ms (suc k) n ≡ tally closes ms (suc k) n + 0
fresh_height ms k zero e = refl
fresh_height ms k (suc n) e = absurd (omega arith)

fresh : (ms : List Mark) (k x : ℕ) → opens (mark_at ms k) ≡ true → suc k ≡ suc x → IsUp ms x (suc k) 0
fresh ms k x o e =
    let s : k ≡ x = omega arith in
    subst (λ y. IsUp ms y (suc k) 0) s (record { before = omega arith; opening = o; held = λ n le. fresh_held ms k n le; height = λ n h. fresh_height ms k n h })

abbrev weights : Mark → ℕ → ℕ → Type 0
weights m p q = p + one (opens m) ≡ q + one (closes m)

up_step : (ms : List Mark) (k x : ℕ) (m : Mark) (fs : List GroupState) → mark_at ms k ≡ m → Falls fs → ((p : ℕ) → Has x p fs → IsUp ms x k p) → (p : ℕ) → Has x p (step k m fs) → IsUp ms x (suc k) p
up_step ms k x m [] e w ih p h = absurd w
up_step ms k x other (f ∷ fs) e w ih p h = grow ms x k p p (ih p h) (subst (λ m. weights m p p) (sym e) refl)
up_step ms k x bar (f ∷ fs) e w ih zero h = grow ms x k 0 0 (ih 0 h) (subst (λ m. weights m 0 0) (sym e) refl)
up_step ms k x bar (f ∷ fs) e w ih (suc p) h = grow ms x k (suc p) (suc p) (ih (suc p) h) (subst (λ m. weights m (suc p) (suc p)) (sym e) refl)
up_step ms k x closer (f ∷ []) e w ih zero h = absurd (omega arith)
up_step ms k x closer (f ∷ []) e w ih (suc p) h = absurd h
up_step ms k x closer (f ∷ g ∷ fs) e w ih p h = grow ms x k (suc p) p (ih (suc p) h) (subst (λ m. weights m (suc p) p) (sym e) (omega arith))
up_step ms k x quiet (f ∷ fs) e w ih zero h = fresh ms k x (ap opens e) h
up_step ms k x quiet (f ∷ fs) e w ih (suc p) h = grow ms x k p (suc p) (ih p h) (subst (λ m. weights m p (suc p)) (sym e) (omega arith))
up_step ms k x (capturing name) (f ∷ fs) e w ih zero h = fresh ms k x (ap opens e) h
up_step ms k x (capturing name) (f ∷ fs) e w ih (suc p) h = grow ms x k p (suc p) (ih p h) (subst (λ m. weights m p (suc p)) (sym e) (omega arith))

up : (ms : List Mark) (k x p : ℕ) → Has x p (group_states ms k) → IsUp ms x k p
up ms zero x zero h = absurd (omega arith)
up ms zero x (suc p) h = absurd h
up ms (suc k) x p h = up_step ms k x (mark_at ms k) (group_states ms k) refl (falls ms k).0 (λ q g. up ms k x q g) p h

pub opened : (ms : List Mark) (k x p : ℕ) → Has x p (group_states ms k) → IsOpen ms x k
opened ms k x p h = let u = up ms k x p h in record { before = u.before; opening = u.opening; held = u.held }

pub restrict : (ms : List Mark) (x j k : ℕ) → IsOpen ms x k → x < j → j ≤ k → IsOpen ms x j
restrict ms x j k o lt le = record { before = lt; opening = o.opening; held = λ n h. o.held n (omega arith) }

-- a closer at k leaves the top one not open
shut : (ms : List Mark) (k x : ℕ) → mark_at ms k ≡ closer → IsUp ms x k 0 → IsOpen ms x (suc k) → ⊥
shut ms k x e u o =
    let b = u.before in
    let n : ℕ = k - suc x in
    let here : suc x + n ≡ k = omega arith in
    let c = tally_last closes ms (suc x) n k here in let d = tally_last opens ms (suc x) n k here in
    let h = u.height n here in let l = o.held (suc n) (omega arith) in
    let ce : one (closes (mark_at ms k)) ≡ 1 = ap (λ m. one (closes m)) e in
    let de : one (opens (mark_at ms k)) ≡ 0 = ap (λ m. one (opens m)) e in
    omega arith

abbrev pub Held : ℕ → List GroupState → Type 0
Held x fs = (p : ℕ) × Has x p fs

has_step : (ms : List Mark) (k x : ℕ) (m : Mark) (fs : List GroupState) → mark_at ms k ≡ m → Falls fs → IsOpen ms x (suc k) → (p : ℕ) → Has x p fs → IsUp ms x k p → Held x (step k m fs)
has_step ms k x m [] e w o p h u = absurd w
has_step ms k x other (f ∷ fs) e w o p h u = (p, h)
has_step ms k x bar (f ∷ fs) e w o zero h u = (0, h)
has_step ms k x bar (f ∷ fs) e w o (suc p) h u = (suc p, h)
has_step ms k x closer (f ∷ fs) e w o zero h u = absurd (shut ms k x e u o)
has_step ms k x closer (f ∷ []) e w o (suc p) h u = absurd h
has_step ms k x closer (f ∷ g ∷ fs) e w o (suc p) h u = (p, h)
has_step ms k x quiet (f ∷ fs) e w o p h u = (suc p, h)
has_step ms k x (capturing name) (f ∷ fs) e w o p h u = (suc p, h)

has_new : (k x : ℕ) (m : Mark) (fs : List GroupState) → k ≡ x → opens m ≡ true → Held x (step k m fs)
has_new k x other fs s o = absurd (false≢true o)
has_new k x bar fs s o = absurd (false≢true o)
has_new k x closer fs s o = absurd (false≢true o)
has_new k x q fs s o = (0, ap suc s)

pub has : (ms : List Mark) (k x : ℕ) → IsOpen ms x k → Held x (group_states ms k)
has ms zero x o = let b = o.before in absurd (omega arith)
has ms (suc k) x o = elim (cases_lt x k) [
  | inl lt ↦ let h = has ms k x (restrict ms x k (suc k) o lt (omega arith)) in has_step ms k x (mark_at ms k) (group_states ms k) refl (falls ms k).0 o h.0 h.1 (up ms k x h.0 h.1)
  | inr ge ↦ let b = o.before in let s : k ≡ x = omega arith in has_new k x (mark_at ms k) (group_states ms k) s (subst (λ y. opens (mark_at ms y) ≡ true) (sym s) o.opening)
]

pub has_le : (x p : ℕ) (fs : List GroupState) → Falls fs → Has x p fs → suc x ≤ top_start fs
has_le x p [] w h = absurd w
has_le x zero (f ∷ fs) w h = omega arith
has_le x (suc p) (f ∷ []) w h = absurd h
has_le x (suc p) (f ∷ g ∷ fs) w h = let i = has_le x p (g ∷ fs) w.1 h in omega arith

pub open_le : (ms : List Mark) (k x : ℕ) → IsOpen ms x k → suc x ≤ top_start (group_states ms k)
open_le ms k x o = let h = has ms k x o in has_le x h.0 (group_states ms k) (falls ms k).0 h.1

top_has : (x : ℕ) (fs : List GroupState) → top_start fs ≡ suc x → Has x 0 fs
top_has x [] e = absurd (omega arith)
top_has x (f ∷ fs) e = e

-- the scope whose group state begins there
abbrev pub scope : ℕ → Option ℕ
scope zero = None
scope (suc o) = Some o

pub inner_of_top : (ms : List Mark) (k t : ℕ) → top_start (group_states ms k) ≡ t → IsInner ms (scope t) k
inner_of_top ms k zero e = λ x o. let h = open_le ms k x o in absurd (omega arith)
inner_of_top ms k (suc y) e = (opened ms k y 0 (top_has y (group_states ms k) e), λ x o. let h = open_le ms k x o in omega arith)

pub top_of_inner : (ms : List Mark) (k : ℕ) (s : Option ℕ) → IsInner ms s k → (t : ℕ) → top_start (group_states ms k) ≡ t → s ≡ scope t
top_of_inner ms k None i zero e = refl
top_of_inner ms k None i (suc y) e = absurd (i y (opened ms k y 0 (top_has y (group_states ms k) e)))
top_of_inner ms k (Some o) i zero e = let h = open_le ms k o i.0 in absurd (omega arith)
top_of_inner ms k (Some o) i (suc y) e =
    let h = open_le ms k o i.0 in
    let g : y ≤ o = i.1 y (opened ms k y 0 (top_has y (group_states ms k) e)) in
    let s : o ≡ y = omega arith in ap Some s
