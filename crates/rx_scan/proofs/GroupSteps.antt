-- Steps of keeping the open groups, and of asking them.
use Rattle.std.proofs.Common.{◌≡◌, refl, ap, sym, ◌∙◌, subst, ℕ, zero, suc, ◌-◌, ◌<◌, ◌≤◌, Bool, true, false, ◌&&◌, ◌||◌, List, [], ◌∷◌, ◌++◌, get_or, length, arith}
use Rattle.std.specs.Prelude.{nat_le, nat_lt}
use Rattle.std.proofs.lemmas.Bool.{le-leb, lt-leb, le-ltb}
use Rattle.std.proofs.Math.Bool.{or-false}
use Rattle.rx_model.specs.FirstPass.GroupStates.{GroupState, Nests, drop_top}
use Rattle.rx_scan.specs.declared.open_groups.OpenGroup.{OpenGroup}
use Rattle.rx_scan.specs.OpenGroups.{pair, onto, Splits, no_group, hides, hides_one, any_hides}

pub onto_push : (cs : List OpenGroup) (c : OpenGroup) (fs : List GroupState) → onto (cs ++ (c ∷ [])) fs ≡ pair c ∷ onto cs fs
onto_push [] c fs = refl
onto_push (d ∷ cs) c fs = onto_push cs c (pair d ∷ fs)

pub pushed_group_states : (old new : List OpenGroup) (top : OpenGroup) (f : GroupState) → new ≡ old ++ (top ∷ []) → f ∷ onto new [] ≡ f ∷ pair top ∷ onto old []
pushed_group_states old new top f e = ap (λ z. f ∷ z) (ap (λ z. onto z []) e ∙ onto_push old top [])

pub popped_group_states : (old new : List OpenGroup) (top : OpenGroup) (f : GroupState) → old ≡ new ++ (top ∷ []) → pair top ∷ onto new [] ≡ drop_top (f ∷ onto old [])
popped_group_states old new top f e = ap (λ z. drop_top (f ∷ z)) (sym (ap (λ z. onto z []) e ∙ onto_push new top []))

or_turn : (a b c : Bool) → (b || (a || c)) ≡ ((a || b) || c)
or_turn true true c = refl
or_turn true false c = refl
or_turn false true c = refl
or_turn false false c = refl

hides_onto : (a : ℕ) (cs : List OpenGroup) (fs : List GroupState) → hides a (onto cs fs) ≡ (any_hides a cs || hides a fs)
hides_onto a [] fs = refl
hides_onto a (c ∷ cs) fs = hides_onto a cs (pair c ∷ fs) ∙ or_turn (hides_one a (pair c)) (any_hides a cs) (hides a fs)

pub hides_outer : (a : ℕ) (f : GroupState) (cs : List OpenGroup) → hides_one a f ≡ false → hides a (f ∷ onto cs []) ≡ any_hides a cs
hides_outer a f cs e = ap (λ b. b || hides a (onto cs [])) e ∙ hides_onto a cs [] ∙ or-false (any_hides a cs)

-- the same of group states with the outermost first, all before t
abbrev Rises : List OpenGroup → ℕ → Type 0
Rises [] t = Unit {0}
Rises (c ∷ []) t = (c.start ≤ c.bar) × (c.bar ≤ t)
Rises (c ∷ d ∷ cs) t = (c.start ≤ c.bar) × (c.bar ≤ d.start) × Rises (d ∷ cs) t

nests_head : (f : GroupState) (fs : List GroupState) → Nests (f ∷ fs) → f.0 ≤ f.1
nests_head f [] n = n
nests_head f (g ∷ fs) n = n.0

-- the group state that stands on others, and they
abbrev Under : List OpenGroup → GroupState → List GroupState → Type 0
Under [] f fs = Nests (f ∷ fs)
Under (c ∷ cs) f fs = Nests (pair c ∷ fs)

nests_rise : (cs : List OpenGroup) (fs : List GroupState) (f : GroupState) → Nests (f ∷ onto cs fs) → Rises cs f.0 × Under cs f fs
nests_rise [] fs f n = (tt, n)
nests_rise (c ∷ []) fs f n = ((nests_head (pair c) fs n.2, n.1), n.2)
nests_rise (c ∷ d ∷ cs) fs f n = let i = nests_rise (d ∷ cs) (pair c ∷ fs) f n in ((nests_head (pair c) fs i.1.2, i.1.1, i.0), i.1.2)

none_of : (b : Bool) → ((b && false) || false) ≡ false
none_of true = refl
none_of false = refl

none_or : (b c : Bool) → ((b && false) || c) ≡ c
none_or true c = refl
none_or false c = refl

rises_first : (c : OpenGroup) (cs : List OpenGroup) (t : ℕ) → Rises (c ∷ cs) t → c.start ≤ c.bar
rises_first c [] t r = r.0
rises_first c (d ∷ cs) t r = r.0

rises_le : (c : OpenGroup) (cs : List OpenGroup) (t : ℕ) → Rises (c ∷ cs) t → c.bar ≤ t
rises_le c [] t r = r.1
rises_le c (d ∷ cs) t r = let h = rises_le d cs t r.2 in let g = r.1 in let k = rises_first d cs t r.2 in omega arith

late_start : (a t : ℕ) (cs : List OpenGroup) → Rises cs t → t ≤ a → any_hides a cs ≡ false
late_start a t [] r le = refl
late_start a t (c ∷ []) r le = let g = r.1 in ap (λ b. (nat_le c.start a && b) || false) (le-ltb a c.bar (omega arith)) ∙ none_of (nat_le c.start a)
late_start a t (c ∷ d ∷ cs) r le =
    let g = r.1 in let h = rises_le d cs t r.2 in let k = rises_first d cs t r.2 in
    ap (λ b. (nat_le c.start a && b) || any_hides a (d ∷ cs)) (le-ltb a c.bar (omega arith)) ∙ none_or (nat_le c.start a) (any_hides a (d ∷ cs)) ∙ late_start a t (d ∷ cs) r.2 le

-- none that begins after a
early : (a t : ℕ) (cs : List OpenGroup) → Rises cs t → (0 < length cs → a < (get_or cs 0 no_group).start) → any_hides a cs ≡ false
early a t [] r h = refl
early a t (c ∷ []) r h = let l = h (omega arith) in ap (λ b. (b && nat_lt a c.bar) || false) (lt-leb c.start a l)
early a t (c ∷ d ∷ cs) r h =
    let l = h (omega arith) in let g = r.1 in let k = r.0 in
    ap (λ b. (b && nat_lt a c.bar) || any_hides a (d ∷ cs)) (lt-leb c.start a l) ∙ early a t (d ∷ cs) r.2 (λ z. omega arith)

start_below : (c : OpenGroup) (cs : List OpenGroup) (t n : ℕ) → Rises (c ∷ cs) t → n < length (c ∷ cs) → c.start ≤ (get_or (c ∷ cs) n no_group).start
start_below c cs t zero r l = omega arith
start_below c [] t (suc n) r l = absurd (omega arith)
start_below c (d ∷ cs) t (suc n) r l = let h = start_below d cs t n r.2 (omega arith) in let g = r.1 in let k = r.0 in omega arith

found_split : (a t n : ℕ) (cs : List OpenGroup) → Rises cs t → suc n ≤ length cs → (get_or cs n no_group).start ≤ a → (suc n < length cs → a < (get_or cs (suc n) no_group).start) → any_hides a cs ≡ nat_lt a (get_or cs n no_group).bar
found_split a t n [] r l le lt = absurd (omega arith)
found_split a t zero (c ∷ []) r l le lt = ap (λ b. (b && nat_lt a c.bar) || false) (le-leb c.start a le) ∙ or-false (nat_lt a c.bar)
found_split a t zero (c ∷ d ∷ cs) r l le lt =
    ap (λ b. (b && nat_lt a c.bar) || any_hides a (d ∷ cs)) (le-leb c.start a le) ∙ ap (λ b. nat_lt a c.bar || b) (early a t (d ∷ cs) r.2 (λ z. lt (omega arith))) ∙ or-false (nat_lt a c.bar)
found_split a t (suc n) (c ∷ []) r l le lt = absurd (omega arith)
found_split a t (suc n) (c ∷ d ∷ cs) r l le lt =
    let s = start_below d cs t n r.2 (omega arith) in let g = r.1 in
    ap (λ b. (nat_le c.start a && b) || any_hides a (d ∷ cs)) (le-ltb a c.bar (omega arith)) ∙ none_or (nat_le c.start a) (any_hides a (d ∷ cs)) ∙ found_split a t n (d ∷ cs) r.2 (omega arith) le (λ z. lt (omega arith))

pub hides_top : (a : ℕ) (f : GroupState) (cs : List OpenGroup) → Nests (f ∷ onto cs []) → f.0 ≤ a → nat_lt a f.1 ≡ hides a (f ∷ onto cs [])
hides_top a f cs n le =
    let e : hides a (onto cs []) ≡ false = hides_onto a cs [] ∙ or-false (any_hides a cs) ∙ late_start a f.0 cs (nests_rise cs [] f n).0 le in
    sym (ap (λ b. (b && nat_lt a f.1) || hides a (onto cs [])) (le-leb f.0 a le) ∙ ap (λ b. nat_lt a f.1 || b) e ∙ or-false (nat_lt a f.1))

hides_low : (a : ℕ) (f : GroupState) (cs : List OpenGroup) → a < f.0 → hides a (f ∷ onto cs []) ≡ any_hides a cs
hides_low a f cs lt = hides_outer a f cs (ap (λ b. b && nat_lt a f.1) (lt-leb f.0 a lt))

pub hides_before : (a : ℕ) (f : GroupState) (cs : List OpenGroup) → Nests (f ∷ onto cs []) → a < f.0 → Splits a cs 0 → false ≡ hides a (f ∷ onto cs [])
hides_before a f cs n lt s = sym (hides_low a f cs lt ∙ early a f.0 cs (nests_rise cs [] f n).0 s.2)

pub hides_split : (a : ℕ) (f : GroupState) (cs : List OpenGroup) (k : ℕ) → Nests (f ∷ onto cs []) → a < f.0 → Splits a cs k → 0 < k → nat_lt a (get_or cs (k - 1) no_group).bar ≡ hides a (f ∷ onto cs [])
hides_split a f cs zero n lt s p = absurd (omega arith)
hides_split a f cs (suc k) n lt s p =
    let e : suc k - 1 ≡ k = omega arith in
    sym (hides_low a f cs lt ∙ found_split a f.0 k cs (nests_rise cs [] f n).0 s.0 (let h = s.1 p in subst (λ j. (get_or cs j no_group).start ≤ a) e h) s.2 ∙ ap (λ j. nat_lt a (get_or cs j no_group).bar) (sym e))
