-- One more mark of the first pass.
use Rattle.std.proofs.Common.{◌≡◌, refl, ap, ap₂, sym, ◌∙◌, subst, ℕ, zero, suc, ◌+◌, ◌<◌, ◌≤◌, Bool, true, false, cond, not, ◌&&◌, ◌||◌, Option, Some, None, List, [], ◌∷◌, ◌++◌, append_assoc, append-nil, drop, drop-drop, get_or, get_or-drop, length, arith, ◌⊎◌, inl, inr, map}
use Rattle.std.specs.Prelude.{nat_le, nat_lt, option_map}
use Rattle.std.specs.BTreeMap.{get_by_text}
use Rattle.std.specs.Str.{IsUtf8, bytes_eq, chars}
use Rattle.std.proofs.lemmas.Bool.{cases_lt, false≢true, ltb-true, lt-ltb, leb-true, le-leb, not-true, cases_Bool, or_cases}
use Rattle.std.proofs.lemmas.Bool.Decides.{nat_tests}
use Rattle.std.proofs.lemmas.List.Folds.{list_any-append}
use Rattle.std.proofs.Math.Bool.{or-true}
use Rattle.rx_base.specs.Texts.{are_same, is_among}
use Rattle.rx_units.proofs.Choices.{Some-inj, both}
use Rattle.rx_model.specs.declared.mode.Mode.{Mode}
use Rattle.rx_model.specs.FirstPass.GroupStates.{GroupState, Hides, Nests, group_states, step}
use Rattle.rx_model.specs.FirstPass.Marks.{Mark, Clash, IsFirstClash, IsParted, other, bar, closer, quiet, capturing, count, listed, mark_at, mark_count, mark_front, mark_name, marks, marks_following, name_length, name_places, names, mark_place, places, places_following, seen}
use Rattle.rx_model.specs.Trees.Names.{once_after}
use Rattle.rx_model.proofs.FirstPass.PartedMarks.{hidden_parted, parted_hidden, last_seen, nests}
use Rattle.rx_scan.specs.MarkReading.{is_plain}
use Rattle.rx_scan.specs.OpenGroups.{group_states_of, hides, hides_one, states_that_part}
use Rattle.rx_scan.specs.FirstPass.{Entry, IsPassFault, IsStart, KnowsLast, LastTells, Refuses, Steps, entries, entry_at, entry_for, entry_of, first_clash, last_named, last_or, named_openings, parts_of, span_of, with_name, with_names}
use Rattle.rx_scan.specs.Walked.{IsAt}
use Rattle.rx_scan.specs.declared.first_pass.FirstPass.{FirstPass}
use Rattle.rx_scan.specs.declared.first_pass.PassFault.{PassFault}
use Rattle.rx_scan.specs.declared.first_pass.PassFault.TheVariants.{OutOfMemory, Duplicated}
use Rattle.rx_scan.specs.declared.last_openings.LastOpenings.{LastOpenings}
use Rattle.rx_scan.proofs.KnownNames.{same_name_Decides, same_text}

after_drop : (mode : Mode) (n : ℕ) (us : List ℕ) → marks_following mode n us ≡ marks mode (drop n us)
after_drop mode zero us = refl
after_drop mode (suc n) [] = refl
after_drop mode (suc n) (u ∷ us) = after_drop mode n us

places_drop : (mode : Mode) (at n : ℕ) (us : List ℕ) → places_following mode at n us ≡ places_following mode (at + n) 0 (drop n us)
places_drop mode at zero us = ap (λ k. places_following mode k 0 us) (omega arith)
places_drop mode at (suc n) [] = refl
places_drop mode at (suc n) (u ∷ us) = let e : (at + 1) + n ≡ at + suc n = omega arith in places_drop mode (at + 1) n us ∙ ap (λ k. places_following mode k 0 (drop n us)) e

-- the mark that stands at a place, and what follows it
record Turn (mode : Mode) (us : List ℕ) (at : ℕ) (m : Mark) (taken : ℕ) : Type 0 where
  marks_are : marks mode (drop at us) ≡ m ∷ marks mode (drop (at + taken) us)
  places_are : places_following mode at 0 (drop at us) ≡ at ∷ places_following mode (at + taken) 0 (drop (at + taken) us)

turn_at : (mode : Mode) (us : List ℕ) (at u : ℕ) (more : List ℕ) (x : Mark × ℕ) → drop at us ≡ u ∷ more → x ≡ mark_front mode u more → Turn mode us at x.0 (x.1 + 1)
turn_at mode us at u more x d e =
    let m = x.0 in
    let taken = x.1 + 1 in
    let n = (mark_front mode u more).1 in
    let em : m ≡ (mark_front mode u more).0 = ap (λ q. q.0) e in
    let et : x.1 ≡ n = ap (λ q. q.1) e in
    let s : suc n ≡ taken = omega arith in
    let t : at + 1 + n ≡ at + taken = omega arith in
    let f : drop n more ≡ drop (at + taken) us = ap (drop (suc n)) (sym d) ∙ drop-drop (suc n) at us ∙ ap (λ j. drop (at + j) us) s in
    record {
      marks_are = ap (marks mode) d ∙ ap (λ z. (mark_front mode u more).0 ∷ z) (after_drop mode n more ∙ ap (marks mode) f) ∙ ap (λ z. z ∷ marks mode (drop (at + taken) us)) (sym em);
      places_are = ap (places_following mode at 0) d ∙ ap (λ z. at ∷ z) (places_drop mode (at + 1) n more ∙ ap (λ j. places_following mode j 0 (drop n more)) t ∙ ap (places_following mode (at + taken) 0) f);
    }

drop_next : {A : Type 0} (xs : List A) (k : ℕ) (y : A) (ys : List A) → drop k xs ≡ y ∷ ys → drop (k + 1) xs ≡ ys
drop_next xs k y ys e = sym (drop-drop 1 k xs) ∙ ap (drop 1) e

mark_here : (xs : List Mark) (k : ℕ) (y : Mark) (ys : List Mark) → drop k xs ≡ y ∷ ys → mark_at xs k ≡ y
mark_here [] zero y ys e = cc
mark_here [] (suc k) y ys e = cc
mark_here (x ∷ xs) zero y ys e = cc
mark_here (x ∷ xs) (suc k) y ys e = mark_here xs k y ys e

place_here : (xs : List ℕ) (k : ℕ) (y : ℕ) (ys : List ℕ) → drop k xs ≡ y ∷ ys → get_or xs k 0 ≡ y
place_here xs k y ys e = let k_is : k ≡ k + 0 = omega arith in ap (λ j. get_or xs j 0) k_is ∙ sym (get_or-drop k xs 0 0) ∙ ap (λ zs. get_or zs 0 0) e

same_self : (xs : List ℕ) → are_same xs xs ≡ true
same_self xs = (same_name_Decides xs xs).1 refl

one_true : (a : ℕ) (f : GroupState) → hides_one a f ≡ true → (f.0 ≤ a) × (a < f.1)
one_true a f e = let h = both (nat_le f.0 a) (nat_lt a f.1) e in (leb-true f.0 a h.0, ltb-true a f.1 h.1)

one_is : (a : ℕ) (f : GroupState) → f.0 ≤ a → a < f.1 → hides_one a f ≡ true
one_is a f l g = ap (λ b. b && nat_lt a f.1) (le-leb f.0 a l) ∙ lt-ltb a f.1 g

hides_true : (a : ℕ) (fs : List GroupState) → hides a fs ≡ true → Hides a fs
hides_true a [] e = absurd (false≢true e)
hides_true a (f ∷ fs) e = elim (or_cases (hides_one a f) (hides a fs) e) [ inl h ↦ inl (one_true a f h) | inr h ↦ inr (hides_true a fs h) ]

hides_is : (a : ℕ) (fs : List GroupState) → Hides a fs → hides a fs ≡ true
hides_is a [] h = absurd h
hides_is a (f ∷ fs) (inl h) = ap (λ b. b || hides a fs) (one_is a f h.0 h.1)
hides_is a (f ∷ fs) (inr h) = ap (λ b. hides_one a f || b) (hides_is a fs h) ∙ or-true (hides_one a f)

abbrev test : List GroupState → List ℕ → Entry → Bool
test fs n e = are_same e.name n && not (hides e.index fs)

none_both : (fs : List GroupState) (n : List ℕ) (xs ys : List Entry) → first_clash fs n (xs ++ ys) ≡ None → (first_clash fs n xs ≡ None) × (first_clash fs n ys ≡ None)
none_both fs n [] ys h = (refl, h)
none_both fs n (e ∷ xs) ys h = elim (cases_Bool (test fs n e)) [
  | inl t ↦ let g : Some e ≡ None = sym (ap (λ b. cond b (Some e) (first_clash fs n (xs ++ ys))) t) ∙ h in cc
  | inr f ↦ let g : first_clash fs n (xs ++ ys) ≡ None = sym (ap (λ b. cond b (Some e) (first_clash fs n (xs ++ ys))) f) ∙ h in
      let i = none_both fs n xs ys g in (ap (λ b. cond b (Some e) (first_clash fs n xs)) f ∙ i.0, i.1)
]

some_either : (fs : List GroupState) (n : List ℕ) (xs ys : List Entry) (x : Entry) → first_clash fs n (xs ++ ys) ≡ Some x → (first_clash fs n xs ≡ Some x) ⊎ ((first_clash fs n xs ≡ None) × (first_clash fs n ys ≡ Some x))
some_either fs n [] ys x h = inr (refl, h)
some_either fs n (e ∷ xs) ys x h = elim (cases_Bool (test fs n e)) [
  | inl t ↦ let g : Some e ≡ Some x = sym (ap (λ b. cond b (Some e) (first_clash fs n (xs ++ ys))) t) ∙ h in inl (ap (λ b. cond b (Some e) (first_clash fs n xs)) t ∙ g)
  | inr f ↦ let g : first_clash fs n (xs ++ ys) ≡ Some x = sym (ap (λ b. cond b (Some e) (first_clash fs n (xs ++ ys))) f) ∙ h in
      let back = ap (λ b. cond b (Some e) (first_clash fs n xs)) f in
      elim (some_either fs n xs ys x g) [ inl i ↦ inl (back ∙ i) | inr i ↦ inr (back ∙ i.0, i.1) ]
]

-- each earlier opening of this name is in an alternative that has ended
abbrev AllHidden : Mode → List ℕ → List GroupState → List ℕ → ℕ → Type 0
AllHidden mode us fs n k = (a : ℕ) → a < k → mark_name mode (mark_at (marks mode us) a) ≡ Some n → hides a fs ≡ true

entry_hidden : (fs : List GroupState) (n : List ℕ) (k from to : ℕ) (o : Option (List ℕ)) → o ≡ Some n → first_clash fs n (entry_for k from to o) ≡ None → hides k fs ≡ true
entry_hidden fs n k from to o e h = elim (cases_Bool (hides k fs)) [
  | inl t ↦ t
  | inr f ↦
      let x : Entry = record { index = k; name = n; from = from; to = to } in
      let t : test fs n x ≡ true = ap (λ b. b && not (hides k fs)) (same_self n) ∙ ap not f in
      let g : first_clash fs n (entry_for k from to o) ≡ Some x = ap (λ z. first_clash fs n (entry_for k from to z)) e ∙ ap (λ b. cond b (Some x) None) t in
      cc
]

abbrev name_at : Mode → List ℕ → ℕ → Option (List ℕ)
name_at mode us k = mark_name mode (mark_at (marks mode us) k)

abbrev start_of : Mode → List ℕ → ℕ → ℕ
start_of mode us k = mark_place mode us k + 3

abbrev end_of : Mode → List ℕ → ℕ → ℕ
end_of mode us k = mark_place mode us k + 3 + name_length (mark_at (marks mode us) k)

none_all : (mode : Mode) (us : List ℕ) (fs : List GroupState) (n : List ℕ) (k : ℕ) → first_clash fs n (named_openings mode us k) ≡ None → AllHidden mode us fs n k
none_all mode us fs n zero h a lt e = absurd (omega arith)
none_all mode us fs n (suc k) h a lt e =
    let i = none_both fs n (named_openings mode us k) (entry_at mode (mark_place mode us k) k (mark_at (marks mode us) k)) h in
    elim (cases_lt a k) [
      | inl l ↦ none_all mode us fs n k i.0 a l e
      | inr g ↦ let s : a ≡ k = omega arith in
          ap (λ j. hides j fs) s ∙ entry_hidden fs n k (start_of mode us k) (end_of mode us k) (name_at mode us k) (sym (ap (name_at mode us) s) ∙ e) i.1
    ]

record Found (mode : Mode) (us : List ℕ) (fs : List GroupState) (n : List ℕ) (k : ℕ) (e : Entry) : Type 0 where
  before : e.index < k
  is : name_at mode us e.index ≡ Some n
  seen_there : hides e.index fs ≡ false
  places_are : span_of e ≡ name_places mode us e.index
  first : AllHidden mode us fs n e.index

found_last : (mode : Mode) (us : List ℕ) (fs : List GroupState) (n : List ℕ) (k : ℕ) (e : Entry) (o : Option (List ℕ)) → name_at mode us k ≡ o → AllHidden mode us fs n k → first_clash fs n (entry_for k (start_of mode us k) (end_of mode us k) o) ≡ Some e → Found mode us fs n (suc k) e
found_last mode us fs n k e None m all h = cc
found_last mode us fs n k e (Some v) m all h =
    let x : Entry = record { index = k; name = v; from = start_of mode us k; to = end_of mode us k } in
    elim (cases_Bool (test fs n x)) [
      | inl t ↦
          let same : x ≡ e = Some-inj (sym (ap (λ b. cond b (Some x) None) t) ∙ h) in
          let b = both (are_same v n) (not (hides k fs)) t in
          let q : v ≡ n = (same_name_Decides v n).0 b.0 in
          subst (Found mode us fs n (suc k)) same
          (record { before = omega arith; is = m ∙ ap Some q; seen_there = not-true (hides k fs) b.1; places_are = refl; first = all })
      | inr f ↦ let g : None ≡ Some e = sym (ap (λ b. cond b (Some x) None) f) ∙ h in cc
    ]

found_more : (mode : Mode) (us : List ℕ) (fs : List GroupState) (n : List ℕ) (k : ℕ) (e : Entry) → Found mode us fs n k e → Found mode us fs n (suc k) e
found_more mode us fs n k e f = let b = f.before in record { before = omega arith; is = f.is; seen_there = f.seen_there; places_are = f.places_are; first = f.first }

some_found : (mode : Mode) (us : List ℕ) (fs : List GroupState) (n : List ℕ) (k : ℕ) (e : Entry) → first_clash fs n (named_openings mode us k) ≡ Some e → Found mode us fs n k e
some_found mode us fs n zero e h = cc
some_found mode us fs n (suc k) e h =
    elim (some_either fs n (named_openings mode us k) (entry_at mode (mark_place mode us k) k (mark_at (marks mode us) k)) e h) [
      | inl i ↦ found_more mode us fs n k e (some_found mode us fs n k e i)
      | inr i ↦ found_last mode us fs n k e (name_at mode us k) refl (none_all mode us fs n k i.0) i.1
    ]

with_names_append : (xs s ys : List (List ℕ)) → with_names s (xs ++ ys) ≡ with_names (with_names s xs) ys
with_names_append [] s ys = refl
with_names_append (x ∷ xs) s ys = with_names_append xs (with_name s x) ys

or_turn : (a b : Bool) → (a || (b || false)) ≡ (b || a)
or_turn true true = refl
or_turn true false = refl
or_turn false true = refl
or_turn false false = refl

-- what is at hand in order, and what came before in any order, have the same names
abbrev SameNames : List (List ℕ) → List (List ℕ) → Type 0
SameNames xs ys = (n : List ℕ) → is_among xs n ≡ is_among ys n

same_more : (xs ys : List (List ℕ)) (n : List ℕ) → SameNames xs ys → SameNames (xs ++ n ∷ []) (n ∷ ys)
same_more xs ys n s m =
    list_any-append (λ z. are_same z m) xs (n ∷ []) ∙ or_turn (is_among xs m) (are_same n m) ∙ ap (λ b. are_same n m || b) (s m)

pub once_in_order : (ns xs ys : List (List ℕ)) → SameNames xs ys → with_names xs ns ≡ xs ++ once_after ys ns
once_in_order [] xs ys s = sym (append-nil xs)
once_in_order (n ∷ ns) xs ys s = elim (cases_Bool (is_among xs n)) [
  | inl t ↦
      ap (λ b. with_names (cond b xs (xs ++ n ∷ [])) ns) t ∙ once_in_order ns xs ys s
      ∙ ap (λ b. xs ++ cond b (once_after ys ns) (n ∷ once_after (n ∷ ys) ns)) (sym (sym (s n) ∙ t))
  | inr f ↦
      ap (λ b. with_names (cond b xs (xs ++ n ∷ [])) ns) f ∙ once_in_order ns (xs ++ n ∷ []) (n ∷ ys) (same_more xs ys n s)
      ∙ append_assoc xs (n ∷ []) (once_after (n ∷ ys) ns)
      ∙ ap (λ b. xs ++ cond b (once_after ys ns) (n ∷ once_after (n ∷ ys) ns)) (sym (sym (s n) ∙ f))
]

count_one : (m : Mark) → mark_count m ≤ 1
count_one other = omega arith
count_one bar = omega arith
count_one closer = omega arith
count_one quiet = omega arith
count_one (capturing units) = omega arith

-- what the mark at index k clashes with is in no alternative that has ended, where bars part names
clash_seen : (mode : Mode) (duplicate_names : Bool) (ms : List Mark) (a k : ℕ) → Clash mode duplicate_names ms a k → hides a (states_that_part duplicate_names (group_states ms k)) ≡ true → ⊥
clash_seen mode true ms a k c h = c.together refl (hidden_parted ms a k (hides_true a (group_states ms k) h))
clash_seen mode false ms a k c h = false≢true h

-- and what bars do not part does not part from it
seen_together : (duplicate_names : Bool) (ms : List Mark) (a k : ℕ) → hides a (states_that_part duplicate_names (group_states ms k)) ≡ false → duplicate_names ≡ true → IsParted ms a k → ⊥
seen_together true ms a k h is p = false≢true (sym h ∙ hides_is a (group_states ms k) (parted_hidden ms a k p))
seen_together false ms a k h is p = false≢true is

pub start_at : (mode : Mode) (duplicate_names : Bool) (us : List ℕ) (s : FirstPass) → IsStart mode duplicate_names s → IsAt mode duplicate_names us 0 0 s
start_at mode duplicate_names us s w = record {
  mode_is = w.mode_is;
  rule_is = w.rule_is;
  within = omega arith;
  few = omega arith;
  fewer = (let c = w.counted in omega arith);
  rest = refl;
  places = refl;
  opened = w.opened;
  listed_are = ap (map entry_of) w.listed_are;
  knows = subst (λ es. KnowsLast es s.last_openings) (sym (ap (map entry_of) w.listed_are)) w.knows;
  counted = (let c = w.counted in omega arith);
  named_by = ap (λ z. with_names z (names mode (marks mode us))) w.named_by ∙ once_in_order (names mode (marks mode us)) [] [] (λ n. refl);
  clean = λ a b l c. absurd (omega arith);
}

-- the group states by which bars part names
parts_are : (mode : Mode) (duplicate_names : Bool) (us : List ℕ) (at k : ℕ) (s : FirstPass) → IsAt mode duplicate_names us at k s → parts_of s ≡ states_that_part duplicate_names (group_states (marks mode us) k)
parts_are mode duplicate_names us at k s w = ap₂ states_that_part w.rule_is w.opened

-- over the mark that begins with the unit at a place
pub advanced : (mode : Mode) (duplicate_names : Bool) (us : List ℕ) (at k u : ℕ) (more : List ℕ) (x : Mark × ℕ) (old new : FirstPass) → drop at us ≡ u ∷ more → x ≡ mark_front mode u more → at + (x.1 + 1) ≤ length us → Steps old new x.0 at k →
    IsAt mode duplicate_names us at k old → IsAt mode duplicate_names us (at + (x.1 + 1)) (k + 1) new
advanced mode duplicate_names us at k u more x old new d e le s w =
    let ms = marks mode us in
    let m = x.0 in
    let taken = x.1 + 1 in
    let t = turn_at mode us at u more x d e in
    let r : drop k ms ≡ m ∷ marks mode (drop (at + taken) us) = w.rest ∙ t.marks_are in
    let p : drop k (places mode us) ≡ at ∷ places_following mode (at + taken) 0 (drop (at + taken) us) = w.places ∙ t.places_are in
    let here : mark_at ms k ≡ m = mark_here ms k m (marks mode (drop (at + taken) us)) r in
    let place_is : mark_place mode us k ≡ at = place_here (places mode us) k at (places_following mode (at + taken) 0 (drop (at + taken) us)) p in
    let next : suc k ≡ k + 1 = omega arith in
    let few = w.few in let fewer = w.fewer in let one = count_one m in let counted = s.counted in
    record {
      mode_is = s.mode_is ∙ w.mode_is;
      rule_is = s.rule_is ∙ w.rule_is;
      within = le;
      few = omega arith;
      fewer = omega arith;
      rest = drop_next ms k m (marks mode (drop (at + taken) us)) r;
      places = drop_next (places mode us) k at (places_following mode (at + taken) 0 (drop (at + taken) us)) p;
      opened = s.opened ∙ ap (step k m) w.opened ∙ ap (λ z. step k z (group_states ms k)) (sym here) ∙ ap (group_states ms) next;
      listed_are = s.listed_are ∙ ap (λ z. z ++ entry_at old.mode at k m) w.listed_are ∙ ap (λ z. named_openings mode us k ++ entry_at z at k m) w.mode_is ∙ ap (λ z. named_openings mode us k ++ entry_at mode z k m) (sym place_is) ∙ ap (λ z. named_openings mode us k ++ entry_at mode (mark_place mode us k) k z) (sym here) ∙ ap (named_openings mode us) next;
      knows = s.knows;
      counted = (let c = w.counted in let all : count (marks mode (drop at us)) ≡ mark_count m + count (marks mode (drop (at + taken) us)) = ap count t.marks_are in omega arith);
      named_by = ap (λ z. with_names z (names mode (marks mode (drop (at + taken) us)))) (s.named_by ∙ ap (λ z. with_names old.names (listed (mark_name z m))) w.mode_is) ∙ sym (with_names_append (listed (mark_name mode m)) old.names (names mode (marks mode (drop (at + taken) us)))) ∙ ap (λ z. with_names old.names (names mode z)) (sym t.marks_are) ∙ w.named_by;
      clean = λ a b l c. elim (cases_lt b k) [
        | inl h ↦ w.clean a b h c
        | inr g ↦
            let q : b ≡ k = omega arith in
            let d : Clash mode duplicate_names ms a k = subst (Clash mode duplicate_names ms a) q c in
            let fs = states_that_part duplicate_names (group_states ms k) in
            let f = s.fresh d.name (ap (λ z. mark_name z m) w.mode_is ∙ ap (mark_name mode) (sym here) ∙ d.second) in
            let h = none_all mode us fs d.name k (ap (λ z. first_clash fs d.name z) (sym w.listed_are) ∙ ap (λ z. first_clash z d.name (entries old)) (sym (parts_are mode duplicate_names us at k old w)) ∙ f) in
            clash_seen mode duplicate_names ms a k d (h a d.in_order d.first)
      ];
    }

unmoved : (s : FirstPass) (at k : ℕ) → KnowsLast (entries s) s.last_openings → Steps s s other at k
unmoved s at k knows = record {
  mode_is = refl;
  rule_is = refl;
  counted = omega arith;
  named_by = refl;
  opened = refl;
  listed_are = sym (append-nil (entries s));
  knows = knows;
  fresh = λ n e. cc;
}

plain_front : (mode : Mode) (u : ℕ) (us : List ℕ) → is_plain u ≡ true → mark_front mode u us ≡ (other, 0)
unfolding mark_front
plain_front mode u us h = grind (arith, nat_tests)

-- over a unit that opens and closes nothing
pub passed : {mode : Mode} {duplicate_names : Bool} (us : List ℕ) (at u : ℕ) {k : ℕ} {s : FirstPass} → drop at us ≡ u ∷ drop (at + 1) us → is_plain u ≡ true → at < length us → IsAt mode duplicate_names us at k s → IsAt mode duplicate_names us (at + 1) (k + 1) s
passed {mode} {duplicate_names} us at u {k} {s} here plain inside w =
    advanced mode duplicate_names us at k u (drop (at + 1) us) (other, 0) s s here (sym (plain_front mode u (drop (at + 1) us) plain)) (omega arith) (unmoved s at k w.knows) w

places_at : (mode : Mode) (us : List ℕ) (at k : ℕ) (m : Mark) → mark_place mode us k ≡ at → mark_at (marks mode us) k ≡ m → (at + 3, at + 3 + name_length m) ≡ name_places mode us k
places_at mode us at k m pl here = ap (λ z. (z + 3, z + 3 + name_length m)) (sym pl) ∙ ap (λ z. (mark_place mode us k + 3, mark_place mode us k + 3 + name_length z)) (sym here)

duplicated : (mode : Mode) (duplicate_names : Bool) (us : List ℕ) (at k : ℕ) (m : Mark) (old : FirstPass) (f g : ℕ × ℕ) → mark_place mode us k ≡ at → mark_at (marks mode us) k ≡ m → Refuses old m at (Duplicated f g) → IsAt mode duplicate_names us at k old → IsPassFault mode duplicate_names us (Duplicated f g)
duplicated mode duplicate_names us at k m old f g pl here r w =
    let ms = marks mode us in
    let fs = states_that_part duplicate_names (group_states ms k) in
    let n = r.0 in
    let e = r.2.0 in
    let d = some_found mode us fs n k e (ap (λ z. first_clash fs n z) (sym w.listed_are) ∙ ap (λ z. first_clash z n (entries old)) (sym (parts_are mode duplicate_names us at k old w)) ∙ r.2.1) in
    let name_is : name_at mode us k ≡ Some n = ap (mark_name mode) here ∙ ap (λ z. mark_name z m) (sym w.mode_is) ∙ r.1 in
    let clash : Clash mode duplicate_names ms e.index k = record {
      in_order = d.before;
      name = n;
      first = d.is;
      second = name_is;
      together = seen_together duplicate_names ms e.index k d.seen_there;
    } in
    let first : IsFirstClash mode duplicate_names ms e.index k = record {
      clash = clash;
      second_least = λ x y c. elim (cases_lt y k) [ inl l ↦ absurd (w.clean x y l c) | inr l ↦ l ];
      first_least = λ x c. elim (cases_lt x e.index) [
        | inl l ↦
            let q : c.name ≡ n = Some-inj (sym c.second ∙ name_is) in
            absurd (clash_seen mode duplicate_names ms x k c (d.first x l (c.first ∙ ap Some q)))
        | inr l ↦ l
      ];
    } in
    (e.index, k, first, r.2.2 ∙ d.places_are, r.2.3 ∙ places_at mode us at k m pl here)

pub refused : (mode : Mode) (duplicate_names : Bool) (us : List ℕ) (at k u : ℕ) (more : List ℕ) (x : Mark × ℕ) (old : FirstPass) (f : PassFault) → drop at us ≡ u ∷ more → x ≡ mark_front mode u more → Refuses old x.0 at f → IsAt mode duplicate_names us at k old → IsPassFault mode duplicate_names us f
refused mode duplicate_names us at k u more x old OutOfMemory d e r w = tt
refused mode duplicate_names us at k u more x old (Duplicated f g) d e r w =
    let m = x.0 in
    let taken = x.1 + 1 in
    let t = turn_at mode us at u more x d e in
    duplicated mode duplicate_names us at k m old f g
    (place_here (places mode us) k at (places_following mode (at + taken) 0 (drop (at + taken) us)) (w.places ∙ t.places_are))
    (mark_here (marks mode us) k m (marks mode (drop (at + taken) us)) (w.rest ∙ t.marks_are)) r w

nothing_at : (ms : List Mark) (k : ℕ) → drop k ms ≡ [] → (b : ℕ) → k ≤ b → mark_at ms b ≡ other
nothing_at [] k e b l = refl
nothing_at (m ∷ ms) zero e b l = cc
nothing_at (m ∷ ms) (suc k) e zero l = absurd (omega arith)
nothing_at (m ∷ ms) (suc k) e (suc b) l = nothing_at ms k e b (omega arith)

pub all_clean : (mode : Mode) (duplicate_names : Bool) (us : List ℕ) (at k : ℕ) (s : FirstPass) → drop at us ≡ [] → IsAt mode duplicate_names us at k s → (a b : ℕ) → Clash mode duplicate_names (marks mode us) a b → ⊥
all_clean mode duplicate_names us at k s none w a b c = elim (cases_lt b k) [
  | inl l ↦ w.clean a b l c
  | inr l ↦
      let d : drop k (marks mode us) ≡ [] = w.rest ∙ ap (marks mode) none in
      let m = nothing_at (marks mode us) k d b l in let q : None ≡ Some c.name = sym (ap (mark_name mode) m) ∙ c.second in cc
]

-- what has been found where nothing is left
pub counted_all : (mode : Mode) (duplicate_names : Bool) (us : List ℕ) (at k : ℕ) (s : FirstPass) → drop at us ≡ [] → IsAt mode duplicate_names us at k s → s.count ≡ count (marks mode us)
counted_all mode duplicate_names us at k s none w =
    let all : s.count + 0 ≡ count (marks mode us) = ap (λ rest. s.count + count (marks mode rest)) (sym none) ∙ w.counted in
    omega (arith, all)

pub named_all : (mode : Mode) (duplicate_names : Bool) (us : List ℕ) (at k : ℕ) (s : FirstPass) → drop at us ≡ [] → IsAt mode duplicate_names us at k s → s.names ≡ seen mode (marks mode us)
named_all mode duplicate_names us at k s none w = ap (λ rest. with_names s.names (names mode (marks mode rest))) (sym none) ∙ w.named_by

last_or_none : (x y : Option Entry) → last_or x y ≡ None → (x ≡ None) × (y ≡ None)
last_or_none None y e = (refl, e)
last_or_none (Some x) y e = cc

none_last : (fs : List GroupState) (n : List ℕ) (es : List Entry) → last_named n es ≡ None → first_clash fs n es ≡ None
none_last fs n [] h = refl
none_last fs n (e ∷ es) h =
    let g = last_or_none (last_named n es) (cond (are_same e.name n) (Some e) None) h in
    elim (cases_Bool (are_same e.name n)) [
      | inl t ↦ let k : Some e ≡ None = sym (ap (λ b. cond b (Some e) None) t) ∙ g.1 in cc
      | inr f ↦ ap (λ b. cond (b && not (hides e.index fs)) (Some e) (first_clash fs n es)) f ∙ none_last fs n es g.0
    ]

last_or_nothing : (x : Option Entry) → last_or x None ≡ x
last_or_nothing None = refl
last_or_nothing (Some x) = refl

last_or_turn : (x y z : Option Entry) → last_or (last_or x y) z ≡ last_or x (last_or y z)
last_or_turn None y z = refl
last_or_turn (Some x) y z = refl

pub last_append : (n : List ℕ) (xs ys : List Entry) → last_named n (xs ++ ys) ≡ last_or (last_named n ys) (last_named n xs)
last_append n [] ys = sym (last_or_nothing (last_named n ys))
last_append n (e ∷ xs) ys = ap (λ z. last_or z (cond (are_same e.name n) (Some e) None)) (last_append n xs ys) ∙ last_or_turn (last_named n ys) (last_named n xs) (cond (are_same e.name n) (Some e) None)

last_either : (x y : Option Entry) (e : Entry) → last_or x y ≡ Some e → (x ≡ Some e) ⊎ ((x ≡ None) × (y ≡ Some e))
last_either None y e h = inr (refl, h)
last_either (Some x) y e h = inl h

record Last (mode : Mode) (us : List ℕ) (n : List ℕ) (k : ℕ) (e : Entry) : Type 0 where
  before : e.index < k
  is : name_at mode us e.index ≡ Some n
  last : (a : ℕ) → a < k → name_at mode us a ≡ Some n → a ≤ e.index

entry_last : (n : List ℕ) (k from to : ℕ) (o : Option (List ℕ)) (e : Entry) → last_named n (entry_for k from to o) ≡ Some e → (e.index ≡ k) × (o ≡ Some n)
entry_last n k from to None e h = cc
entry_last n k from to (Some v) e h =
    let x : Entry = record { index = k; name = v; from = from; to = to } in
    elim (cases_Bool (are_same v n)) [
      | inl t ↦ let q : x ≡ e = Some-inj (sym (ap (λ b. cond b (Some x) None) t) ∙ h) in (sym (ap (λ z. z.index) q), ap Some ((same_name_Decides v n).0 t))
      | inr f ↦ let g : None ≡ Some e = sym (ap (λ b. cond b (Some x) None) f) ∙ h in cc
    ]

entry_not : (n : List ℕ) (k from to : ℕ) (o : Option (List ℕ)) → last_named n (entry_for k from to o) ≡ None → o ≡ Some n → ⊥
entry_not n k from to o h e =
    let x : Entry = record { index = k; name = n; from = from; to = to } in
    let g : last_named n (entry_for k from to o) ≡ Some x = ap (λ z. last_named n (entry_for k from to z)) e ∙ ap (λ b. cond b (Some x) None) (same_self n) in cc

last_found : (mode : Mode) (us : List ℕ) (n : List ℕ) (k : ℕ) (e : Entry) → last_named n (named_openings mode us k) ≡ Some e → Last mode us n k e
last_found mode us n zero e h = cc
last_found mode us n (suc k) e h =
    let o = name_at mode us k in
    let new = entry_for k (start_of mode us k) (end_of mode us k) o in
    elim (last_either (last_named n new) (last_named n (named_openings mode us k)) e (sym (last_append n (named_openings mode us k) new) ∙ h)) [
      | inl i ↦ let g = entry_last n k (start_of mode us k) (end_of mode us k) o e i in let q = g.0 in
          record { before = omega arith; is = ap (name_at mode us) q ∙ g.1; last = λ a l m. omega arith }
      | inr i ↦ let g = last_found mode us n k e i.1 in let b = g.before in
          record {
            before = omega arith;
            is = g.is;
            last = λ a l m. elim (cases_lt a k) [
              | inl lt ↦ g.last a lt m
              | inr ge ↦ let q : a ≡ k = omega arith in absurd (entry_not n k (start_of mode us k) (end_of mode us k) o i.0 (sym (ap (name_at mode us) q) ∙ m))
            ];
          }
    ]

tells_case : (mode : Mode) (us : List ℕ) (n : List ℕ) (k : ℕ) (e : Entry) → ((a b : ℕ) → b < k → Clash mode true (marks mode us) a b → ⊥) → Last mode us n k e → hides e.index (group_states (marks mode us) k) ≡ true → (o : Option Entry) → first_clash (group_states (marks mode us) k) n (named_openings mode us k) ≡ o → o ≡ None
tells_case mode us n k e clean l h None s = refl
tells_case mode us n k e clean l h (Some x) s =
    let ms = marks mode us in
    let f = some_found mode us (group_states ms k) n k x s in
    let le = l.last x.index f.before f.is in
    absurd (elim (cases_lt x.index e.index) [
      | inl lt ↦ clean x.index e.index l.before (record {
        in_order = lt;
        name = n;
        first = f.is;
        second = l.is;
        together = λ _ p. last_seen ms x.index e.index k lt l.before (hides_true e.index (group_states ms k) h) (λ z. false≢true (sym f.seen_there ∙ hides_is x.index (group_states ms k) z)) p;
      })
      | inr ge ↦ let q : x.index ≡ e.index = omega arith in false≢true (sym f.seen_there ∙ ap (λ j. hides j (group_states ms k)) q ∙ h)
    ])

-- where bars part names, and where none does
tells_by : (mode : Mode) (duplicate_names : Bool) (us : List ℕ) (n : List ℕ) (k : ℕ) (e : Entry) → ((a b : ℕ) → b < k → Clash mode duplicate_names (marks mode us) a b → ⊥) → Last mode us n k e →
    hides e.index (states_that_part duplicate_names (group_states (marks mode us) k)) ≡ true → first_clash (states_that_part duplicate_names (group_states (marks mode us) k)) n (named_openings mode us k) ≡ None
tells_by mode true us n k e clean l h = tells_case mode us n k e clean l h (first_clash (group_states (marks mode us) k) n (named_openings mode us k)) refl
tells_by mode false us n k e clean l h = absurd (false≢true h)

pub tells : (mode : Mode) (duplicate_names : Bool) (us : List ℕ) (at k : ℕ) (s : FirstPass) → IsAt mode duplicate_names us at k s → (n : List ℕ) → LastTells (parts_of s) n (entries s)
tells mode duplicate_names us at k s w n e h y =
    let fs = states_that_part duplicate_names (group_states (marks mode us) k) in
    let parts = parts_are mode duplicate_names us at k s w in
    let l = last_found mode us n k e (ap (last_named n) (sym w.listed_are) ∙ h) in
    ap (λ z. first_clash z n (entries s)) parts ∙ ap (first_clash fs n) w.listed_are ∙ tells_by mode duplicate_names us n k e w.clean l (ap (hides e.index) (sym parts) ∙ y)

pub nests_at : (mode : Mode) (duplicate_names : Bool) (us : List ℕ) (at k : ℕ) (s : FirstPass) → IsAt mode duplicate_names us at k s → Nests (group_states_of s.groups)
nests_at mode duplicate_names us at k s w = subst Nests (sym w.opened) (nests (marks mode us) k)

no_index : (o : Option Entry) → None ≡ option_map (λ (e : Entry). e.index) o → o ≡ None
no_index None h = refl
no_index (Some x) h = cc

pub clash_none : (fs : List GroupState) (n : List ℕ) (es : List Entry) → None ≡ option_map (λ (e : Entry). e.index) (last_named n es) → None ≡ option_map span_of (first_clash fs n es)
clash_none fs n es h = ap (option_map span_of) (sym (none_last fs n es (no_index (last_named n es) h)))

span_none : (o : Option Entry) → None ≡ option_map span_of o → o ≡ None
span_none None h = refl
span_none (Some e) h = cc

pub clash_not : (fs : List GroupState) (n : List ℕ) (es : List Entry) → None ≡ option_map span_of (first_clash fs n es) → first_clash fs n es ≡ None
clash_not fs n es h = span_none (first_clash fs n es) h

abbrev last_number : Option ℕ → Option ℕ → Option ℕ
last_number None y = y
last_number (Some x) y = Some x

index_case : (x y : Option Entry) → option_map (λ (e : Entry). e.index) (last_or x y) ≡ last_number (option_map (λ (e : Entry). e.index) x) (option_map (λ (e : Entry). e.index) y)
index_case None y = refl
index_case (Some x) y = refl

new_case : (b : Bool) (e : Entry) (o : Option ℕ) → last_number (option_map (λ (e : Entry). e.index) (last_or None (cond b (Some e) None))) o ≡ cond b (Some e.index) o
new_case true e o = refl
new_case false e o = refl

-- one more opening
pub knows_more : (es : List Entry) (e : Entry) (old new : LastOpenings) (bytes : List ℕ) → KnowsLast es old → ((cs : List ℕ) → get_by_text new.marks cs ≡ cond (bytes_eq bytes cs) (Some e.index) (get_by_text old.marks cs)) → IsUtf8 bytes → chars bytes ≡ e.name → KnowsLast (es ++ e ∷ []) new
knows_more es e old new bytes knows sets text is cs valid =
    let n = chars cs in
    let same = same_text bytes cs text valid ∙ ap (λ z. are_same z n) is in
    sets cs ∙ ap (λ b. cond b (Some e.index) (get_by_text old.marks cs)) same ∙ ap (cond (are_same e.name n) (Some e.index)) (knows cs valid)
    ∙ sym (new_case (are_same e.name n) e (option_map (λ (e : Entry). e.index) (last_named n es)))
    ∙ sym (index_case (last_named n (e ∷ [])) (last_named n es))
    ∙ ap (option_map (λ (e : Entry). e.index)) (sym (last_append n es (e ∷ [])))
