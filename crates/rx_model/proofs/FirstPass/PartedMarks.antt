-- A mark is hidden by the group states exactly where a bar parts it from the next mark.
use Rattle.std.proofs.Common.{◌≡◌, refl, ap, sym, ◌∙◌, subst, ℕ, zero, suc, ◌+◌, ◌-◌, ◌<◌, ◌≤◌, Bool, true, false, Option, Some, None, List, [], ◌∷◌, arith, inl, inr}
use Rattle.std.proofs.lemmas.Bool.{cases_lt, cases_order}
use Rattle.rx_model.specs.FirstPass.Marks.{Mark, other, bar, closer, quiet, capturing, opens, closes, mark_at, one, tally, IsOpen, IsInner, IsCommon, IsParted}
use Rattle.rx_model.specs.FirstPass.GroupStates.{GroupState, step, group_states, Hides}
use Rattle.rx_model.specs.FirstPass.GroupStates.{Nests}
use Rattle.std.proofs.Common.{◌⊎◌}
use Rattle.rx_model.proofs.FirstPass.InnerGroups.{Held, top_start, Falls, Has, scope, falls, opened, restrict, has, inner_of_top, top_of_inner}

-- The group state's second place is the last bar that stands directly in it before k, or its start.
record Barred (ms : List Mark) (k : ℕ) (f : GroupState) : Type 0 where
  low : f.0 ≤ f.1
  high : f.1 ≤ k
  is_bar : f.0 < f.1 → (f.1 < k) × (mark_at ms f.1 ≡ bar) × (top_start (group_states ms f.1) ≡ f.0)
  last : (j : ℕ) → j < k → mark_at ms j ≡ bar → top_start (group_states ms j) ≡ f.0 → j ≤ f.1

abbrev Each : List Mark → ℕ → List GroupState → Type 0
Each ms k [] = Unit {0}
Each ms k (f ∷ fs) = Barred ms k f × Each ms k fs

keep_last : (ms : List Mark) (k : ℕ) (f : GroupState) → Barred ms k f → (mark_at ms k ≡ bar → top_start (group_states ms k) ≡ f.0 → ⊥) → (j : ℕ) → j < suc k → mark_at ms j ≡ bar → top_start (group_states ms j) ≡ f.0 → j ≤ f.1
keep_last ms k f b never j lt e t = elim (cases_lt j k) [
  | inl l ↦ b.last j l e t
  | inr g ↦ let s : j ≡ k = omega arith in absurd (never (subst (λ i. mark_at ms i ≡ bar) s e) (subst (λ i. top_start (group_states ms i) ≡ f.0) s t))
]

keep : (ms : List Mark) (k : ℕ) (f : GroupState) → Barred ms k f → (mark_at ms k ≡ bar → top_start (group_states ms k) ≡ f.0 → ⊥) → Barred ms (suc k) f
keep ms k f b never = record {
  low = b.low;
  high = let h = b.high in omega arith;
  is_bar = λ lt. let h = b.is_bar lt in let g = h.0 in (omega arith, h.1, h.2);
  last = λ j lt e t. keep_last ms k f b never j lt e t;
}

keep_all : (ms : List Mark) (k : ℕ) (fs : List GroupState) → (mark_at ms k ≡ bar → ⊥) → Each ms k fs → Each ms (suc k) fs
keep_all ms k [] never es = tt
keep_all ms k (f ∷ fs) never es = (keep ms k f es.0 (λ e t. never e), keep_all ms k fs never es.1)

-- those below the top
keep_under : (ms : List Mark) (k : ℕ) (fs : List GroupState) → Falls fs → top_start fs < top_start (group_states ms k) → Each ms k fs → Each ms (suc k) fs
keep_under ms k [] w lt es = absurd w
keep_under ms k (f ∷ []) w lt es = (keep ms k f es.0 (λ e t. omega arith), tt)
keep_under ms k (f ∷ g ∷ fs) w lt es = (keep ms k f es.0 (λ e t. omega arith), keep_under ms k (g ∷ fs) w.1 (omega arith) es.1)

pushed : (ms : List Mark) (k : ℕ) → Barred ms (suc k) (suc k, suc k)
pushed ms k = record { low = omega arith; high = omega arith; is_bar = λ lt. absurd (omega arith); last = λ j lt e t. omega arith }

barred : (ms : List Mark) (k : ℕ) (f : GroupState) → Barred ms k f → f.0 ≤ k → mark_at ms k ≡ bar → top_start (group_states ms k) ≡ f.0 → Barred ms (suc k) (f.0, k)
barred ms k f b le e t = record { low = le; high = omega arith; is_bar = λ lt. (omega arith, e, t); last = λ j lt g s. omega arith }

each_step : (ms : List Mark) (k : ℕ) (m : Mark) (fs : List GroupState) → mark_at ms k ≡ m → group_states ms k ≡ fs → Falls fs → top_start fs ≤ k → Each ms k fs → Each ms (suc k) (step k m fs)
each_step ms k m [] e s w t es = absurd w
each_step ms k other (f ∷ fs) e s w t es = keep_all ms k (f ∷ fs) (λ b. cc) es
each_step ms k bar (f ∷ []) e s w t es = (barred ms k f es.0 t e (ap top_start s), tt)
each_step ms k bar (f ∷ g ∷ fs) e s w t es =
    let here : top_start (group_states ms k) ≡ f.0 = ap top_start s in
    (barred ms k f es.0 t e here, keep_under ms k (g ∷ fs) w.1 (let l = w.0 in omega arith) es.1)
each_step ms k closer (f ∷ []) e s w t es = keep_all ms k (f ∷ []) (λ b. cc) es
each_step ms k closer (f ∷ g ∷ fs) e s w t es = keep_all ms k (g ∷ fs) (λ b. cc) es.1
each_step ms k quiet (f ∷ fs) e s w t es = (pushed ms k, keep_all ms k (f ∷ fs) (λ b. cc) es)
each_step ms k (capturing name) (f ∷ fs) e s w t es = (pushed ms k, keep_all ms k (f ∷ fs) (λ b. cc) es)

each : (ms : List Mark) (k : ℕ) → Each ms k (group_states ms k)
each ms zero = (record { low = omega arith; high = omega arith; is_bar = λ lt. absurd (omega arith); last = λ j lt e t. absurd (omega arith) }, tt)
each ms (suc k) = let h = falls ms k in each_step ms k (mark_at ms k) (group_states ms k) refl refl h.0 h.1 (each ms k)

parted_at : (ms : List Mark) (a b k t : ℕ) → a < k → k < b → mark_at ms k ≡ bar → top_start (group_states ms k) ≡ t → t ≤ a → ((x : ℕ) → t ≡ suc x → IsOpen ms x b) → IsParted ms a b
parted_at ms a b k zero l g e s le up =
    let i = inner_of_top ms k zero s in
    (None, k, (λ x o p. let q = o.before in absurd (i x (restrict ms x k b p (omega arith) (omega arith)))), l, g, e, i)
parted_at ms a b k (suc o) l g e s le up =
    let i = inner_of_top ms k (suc o) s in
    let at_b = up o refl in
    (Some o, k, (restrict ms o a b at_b (omega arith) (omega arith), at_b, λ x u v. let q = u.before in i.1 x (restrict ms x k b v (omega arith) (omega arith))), l, g, e, i)

parted_of : (ms : List Mark) (a b : ℕ) (fs : List GroupState) → Each ms b fs → ((x p : ℕ) → Has x p fs → IsOpen ms x b) → Hides a fs → IsParted ms a b
parted_of ms a b [] es up h = absurd h
parted_of ms a b (f ∷ fs) es up (inl h) =
    let l = h.0 in let g = h.1 in
    let c = es.0.is_bar (omega arith) in
    parted_at ms a b f.1 f.0 h.1 c.0 c.1 c.2 h.0 (λ x e. up x 0 e)
parted_of ms a b (f ∷ fs) es up (inr h) = parted_of ms a b fs es.1 (λ x p g. up x (suc p) g) h

pub hidden_parted : (ms : List Mark) (a b : ℕ) → Hides a (group_states ms b) → IsParted ms a b
hidden_parted ms a b h = parted_of ms a b (group_states ms b) (each ms b) (λ x p g. opened ms b x p g) h

hides_some : (ms : List Mark) (a b k o p : ℕ) (fs : List GroupState) → Each ms b fs → Has o p fs → o < a → a < k → k < b → mark_at ms k ≡ bar → top_start (group_states ms k) ≡ suc o → Hides a fs
hides_some ms a b k o p [] es h x l g e t = absurd h
hides_some ms a b k o zero (f ∷ fs) es h x l g e t = let c = es.0.last k g e (t ∙ sym h) in inl (omega arith, omega arith)
hides_some ms a b k o (suc p) (f ∷ fs) es h x l g e t = inr (hides_some ms a b k o p fs es.1 h x l g e t)

hides_none : (ms : List Mark) (a b k : ℕ) (fs : List GroupState) → Falls fs → Each ms b fs → a < k → k < b → mark_at ms k ≡ bar → top_start (group_states ms k) ≡ 0 → Hides a fs
hides_none ms a b k [] w es l g e t = absurd w
hides_none ms a b k (f ∷ []) w es l g e t = let c = es.0.last k g e (t ∙ sym w) in inl (omega arith, omega arith)
hides_none ms a b k (f ∷ h ∷ fs) w es l g e t = inr (hides_none ms a b k (h ∷ fs) w.1 es.1 l g e t)

parted_case : (ms : List Mark) (a b : ℕ) (s : Option ℕ) (k : ℕ) → IsCommon ms s a b → a < k → k < b → mark_at ms k ≡ bar → (t : ℕ) → top_start (group_states ms k) ≡ t → s ≡ scope t → Hides a (group_states ms b)
parted_case ms a b None k c l g e zero t s = hides_none ms a b k (group_states ms b) (falls ms b).0 (each ms b) l g e t
parted_case ms a b None k c l g e (suc o) t s = cc
parted_case ms a b (Some o) k c l g e zero t s = cc
parted_case ms a b (Some o) k c l g e (suc y) t s =
    let h = has ms b o c.1 in
    let q = c.0.before in
    let same : o ≡ y = cc in
    hides_some ms a b k o h.0 (group_states ms b) (each ms b) h.1 q l g e (t ∙ ap suc (sym same))

pub parted_hidden : (ms : List Mark) (a b : ℕ) → IsParted ms a b → Hides a (group_states ms b)
parted_hidden ms a b p = parted_case ms a b p.0 p.1 p.2 p.3 p.4 p.5 (top_start (group_states ms p.1)) refl (top_of_inner ms p.1 p.0 p.6 (top_start (group_states ms p.1)) refl)

hides_lt : (ms : List Mark) (k a : ℕ) (fs : List GroupState) → Each ms k fs → Hides a fs → a < k
hides_lt ms k a [] es h = absurd h
hides_lt ms k a (f ∷ fs) es (inl h) = let l = es.0.high in let g = h.1 in omega arith
hides_lt ms k a (f ∷ fs) es (inr h) = hides_lt ms k a fs es.1 h

pub hidden_before : (ms : List Mark) (k a : ℕ) → Hides a (group_states ms k) → a < k
hidden_before ms k a h = hides_lt ms k a (group_states ms k) (each ms k) h

one_le : (b : Bool) → one b ≤ 1
one_le true = omega arith
one_le false = omega arith

tally_join : (p : Mark → Bool) (ms : List Mark) (i n m : ℕ) → tally p ms i (n + m) ≡ tally p ms i n + tally p ms (i + n) m
tally_join p ms i n zero = let e : n + 0 ≡ n = omega arith in let g = ap (tally p ms i) e in omega arith
tally_join p ms i n (suc m) =
    let h = tally_join p ms i n m in
    let e : n + suc m ≡ suc (n + m) = omega arith in
    let s : i + (n + m) ≡ (i + n) + m = omega arith in
    let g = ap (tally p ms i) e in
    let o = ap (λ j. one (p (mark_at ms j))) s in
    omega arith

tally_first : (p : Mark → Bool) (ms : List Mark) (i : ℕ) → tally p ms i 1 ≡ one (p (mark_at ms i))
tally_first p ms i = let e : i + 0 ≡ i = omega arith in let g = ap (λ j. one (p (mark_at ms j))) e in omega arith

through_held : (ms : List Mark) (s o k : ℕ) → IsOpen ms s o → IsOpen ms o k → (n : ℕ) → suc s + n ≤ k → tally closes ms (suc s) n ≤ tally opens ms (suc s) n
through_held ms s o k a b n le = elim (cases_lt o (suc s + n)) [
  | inl lt ↦
      let q = a.before in
      let m : ℕ = o - suc s in
      let r : ℕ = n - suc m in
      let here : suc s + m ≡ o = omega arith in
      let split : n ≡ (m + 1) + r = omega arith in
      let next : suc s + (m + 1) ≡ suc o = omega arith in
      let c1 = ap (tally closes ms (suc s)) split in
      let c2 = tally_join closes ms (suc s) (m + 1) r in
      let c3 = tally_join closes ms (suc s) m 1 in
      let c4 = ap (λ j. tally closes ms j r) next in
      let c5 = ap (λ j. tally closes ms j 1) here ∙ tally_first closes ms o in
      let d1 = ap (tally opens ms (suc s)) split in
      let d2 = tally_join opens ms (suc s) (m + 1) r in
      let d3 = tally_join opens ms (suc s) m 1 in
      let d4 = ap (λ j. tally opens ms j r) next in
      let d5 = ap (λ j. tally opens ms j 1) here ∙ tally_first opens ms o in
      let d6 : one (opens (mark_at ms o)) ≡ 1 = ap one b.opening in
      let c6 : one (closes (mark_at ms o)) ≤ 1 = one_le (closes (mark_at ms o)) in
      let x = a.held m (omega arith) in
      let y = b.held r (omega arith) in
      omega arith
  | inr ge ↦ a.held n ge
]

-- what is open at an opening that is open at k is open at k
through : (ms : List Mark) (s o k : ℕ) → IsOpen ms s o → IsOpen ms o k → IsOpen ms s k
through ms s o k a b = record { before = (let x = a.before in let y = b.before in omega arith); opening = a.opening; held = λ n le. through_held ms s o k a b n le }

-- The same bar parts a from k, where an opening after a is open at both.
parted_on : (ms : List Mark) (a c o k : ℕ) → a ≤ o → IsOpen ms o c → IsOpen ms o k → c ≤ k → (s : Option ℕ) (j : ℕ) → IsCommon ms s a c → a < j → j < c → mark_at ms j ≡ bar → IsInner ms s j → IsParted ms a k
parted_on ms a c o k le x y l None j common p q e i = (None, j, (λ z u v. let h = u.before in common z u (restrict ms z c k v (let w = x.before in omega arith) l)), p, omega arith, e, i)
parted_on ms a c o k le x y l (Some s) j common p q e i =
    let h = common.0.before in let w = x.before in
    let at_o = restrict ms s o c common.1 (omega arith) (omega arith) in
    (Some s, j, (common.0, through ms s o k at_o y, λ z u v. let g = u.before in common.2 z u (restrict ms z c k v (omega arith) l)), p, omega arith, e, i)

late_start : (ms : List Mark) (a c k t : ℕ) (f : GroupState) → f.0 ≡ t → a < c → f.0 ≤ c → c < f.1 → ((f.0 ≤ a) × (a < f.1) → ⊥) → ((x : ℕ) → f.0 ≡ suc x → IsOpen ms x k) → (o : ℕ) × (a ≤ o) × (o < c) × IsOpen ms o k
late_start ms a c k zero f e l le lt n up = absurd (n (omega arith, omega arith))
late_start ms a c k (suc o) f e l le lt n up = elim (cases_lt a f.0) [
  | inl h ↦ (o, omega arith, omega arith, up o e)
  | inr h ↦ absurd (n (h, omega arith))
]

-- where c is hidden and a, before it, is not, a group that opens at a or after it is open at c and at k
late : (ms : List Mark) (a c k : ℕ) (fs : List GroupState) → a < c → ((x p : ℕ) → Has x p fs → IsOpen ms x k) → Hides c fs → (Hides a fs → ⊥) → (o : ℕ) × (a ≤ o) × (o < c) × IsOpen ms o k
late ms a c k [] l up h n = absurd h
late ms a c k (f ∷ fs) l up (inl h) n = late_start ms a c k f.0 f refl l h.0 h.1 (λ z. n (inl z)) (λ x e. up x 0 e)
late ms a c k (f ∷ fs) l up (inr h) n = late ms a c k fs l (λ x p z. up x (suc p) z) h (λ z. n (inr z))

-- Of two openings that a bar parts, the earlier is hidden where the later is.
pub last_seen : (ms : List Mark) (a c k : ℕ) → a < c → c < k → Hides c (group_states ms k) → (Hides a (group_states ms k) → ⊥) → IsParted ms a c → ⊥
last_seen ms a c k l g h n p =
    let o = late ms a c k (group_states ms k) l (λ x q z. opened ms k x q z) h n in
    let at_c = restrict ms o.0 c k o.3 o.2 (omega arith) in
    n (parted_hidden ms a k (parted_on ms a c o.0 k o.1 at_c o.3 (omega arith) p.0 p.1 p.2 p.3 p.4 p.5 p.6))

-- each group state begins after the last bar of the next
nests_each : (ms : List Mark) (k : ℕ) (f : GroupState) (fs : List GroupState) → Nests fs → Each ms k fs → k < f.0 → f.0 ≤ f.1 → Nests (f ∷ fs)
nests_each ms k f [] n es lt le = le
nests_each ms k f (g ∷ fs) n es lt le = let h = es.0.high in (le, omega arith, n)

nests_step : (ms : List Mark) (k : ℕ) (m : Mark) (fs : List GroupState) → top_start fs ≤ k → Each ms k fs → Nests fs → Nests (step k m fs)
nests_step ms k other fs t es n = n
nests_step ms k bar [] t es n = n
nests_step ms k bar (f ∷ []) t es n = t
nests_step ms k bar (f ∷ g ∷ fs) t es n = (t, n.1, n.2)
nests_step ms k closer [] t es n = n
nests_step ms k closer (f ∷ []) t es n = n
nests_step ms k closer (f ∷ g ∷ fs) t es n = n.2
nests_step ms k quiet fs t es n = nests_each ms k (suc k, suc k) fs n es (omega arith) (omega arith)
nests_step ms k (capturing name) fs t es n = nests_each ms k (suc k, suc k) fs n es (omega arith) (omega arith)

pub nests : (ms : List Mark) (k : ℕ) → Nests (group_states ms k)
nests ms zero = omega arith
nests ms (suc k) = nests_step ms k (mark_at ms k) (group_states ms k) (falls ms k).1 (each ms k) (nests ms k)

not_here : (x : ℕ) (f : GroupState) (fs : List GroupState) → (f.0 < suc x) ⊎ (suc x < f.0) → (Held x fs → ⊥) → (p : ℕ) → Has x p (f ∷ fs) → ⊥
not_here x f fs (inl l) n zero h = absurd (omega arith)
not_here x f fs (inr l) n zero h = absurd (omega arith)
not_here x f fs d n (suc p) h = n (p, h)

has_or_not : (x : ℕ) (fs : List GroupState) → Held x fs ⊎ (Held x fs → ⊥)
has_or_not x [] = inr (λ h. h.1)
has_or_not x (f ∷ fs) = elim (cases_order f.0 (suc x)) [
  | inl e ↦ inl (0, e)
  | inr d ↦ elim (has_or_not x fs) [
    | inl h ↦ inl (suc h.0, h.1)
    | inr n ↦ inr (λ h. not_here x f fs d n h.0 h.1)
  ]
]

open_or_not : (ms : List Mark) (x k : ℕ) → IsOpen ms x k ⊎ (IsOpen ms x k → ⊥)
open_or_not ms x k = elim (has_or_not x (group_states ms k)) [ inl h ↦ inl (opened ms k x h.0 h.1) | inr n ↦ inr (λ o. n (has ms k x o)) ]

common_below : (ms : List Mark) (a b n : ℕ) → ((x : ℕ) → n ≤ x → IsOpen ms x a → IsOpen ms x b → ⊥) → (s : Option ℕ) × IsCommon ms s a b
common_below ms a b zero f = (None, λ x u v. f x (omega arith) u v)
common_below ms a b (suc n) f = elim (open_or_not ms n a) [
  | inl u ↦ elim (open_or_not ms n b) [
    | inl v ↦ (Some n, (u, v, λ x p q. elim (cases_lt n x) [ inl l ↦ absurd (f x (omega arith) p q) | inr l ↦ l ]))
    | inr v ↦ common_below ms a b n (λ x l p q. elim (cases_lt n x) [ inl g ↦ f x (omega arith) p q | inr g ↦ let s : x ≡ n = omega arith in v (subst (λ z. IsOpen ms z b) s q) ])
  ]
  | inr u ↦ common_below ms a b n (λ x l p q. elim (cases_lt n x) [ inl g ↦ f x (omega arith) p q | inr g ↦ let s : x ≡ n = omega arith in u (subst (λ z. IsOpen ms z a) s p) ])
]

-- What holds both is there, so the definition of a clash speaks of something.
pub common : (ms : List Mark) (a b : ℕ) → (s : Option ℕ) × IsCommon ms s a b
common ms a b = common_below ms a b a (λ x l p q. let h = p.before in absurd (omega arith))
