-- What the held items of a class answer, and how an item is added to them.
use Rattle.std.proofs.Common.{◌≡◌, refl, ap, sym, ◌∙◌, subst, ℕ, ◌<◌, ◌≤◌, arith, min, max, Bool, true, false, cond, ◌&&◌, ◌||◌, nat_eq, nat_le, Option, List, [], ◌∷◌, ◌++◌, append-nil}
use Rattle.std.specs.Prelude.{if◌then◌else◌, IfOk, Result}
use Rattle.rx_base.specs.declared.out_of_memory.OutOfMemory.{OutOfMemory}
use Rattle.std.specs.BTreeMap.{get}
use Rattle.std.specs.BTreeSet.{BTreeSet, contains, UpdatesBy}
use Rattle.std.specs.List.{flat_map, list_any}
use Rattle.std.specs.Ordering.{nat_cmp}
use Rattle.std.proofs.Math.Bool.{and-false, or-false, or_assoc}
use Rattle.std.proofs.lemmas.Bool.Decides.{nat_tests}
use Rattle.std.proofs.lemmas.Grind.{common_steps, flat_map-append}
use Rattle.std.proofs.lemmas.List.Folds.{list_any-append}
use Rattle.rx_ast.specs.declared.class.CharacterClassRange.{CharacterClassRange}
use Rattle.rx_ast.specs.declared.leaf.Character.{Character}
use Rattle.rx_ast.specs.declared.leaf.CharacterClassEscapeKind.{CharacterClassEscapeKind}
use Rattle.rx_ast.specs.declared.leaf.CharacterClassEscapeKind.TheVariants.{D, NegativeD, S, NegativeS, W, NegativeW}
use Rattle.rx_ast.specs.declared.leaf.UnicodePropertyEscape.{UnicodePropertyEscape}
use Rattle.rx_ast.specs.declared.class.ClassStringDisjunction.{ClassStringDisjunction}
use Rattle.rx_ast.specs.ClassTree.{Member, Class, range, escape, property, character, nested, strings}
use Rattle.rx_lint.specs.declared.items.Items.{Items}
use Rattle.rx_lint.specs.declared.ranges.Ranges.{Ranges}
use Rattle.rx_lint.specs.Coverage.{Range, covers_both, IsStair}
use Rattle.rx_lint.specs.Items.{AreItems, is_useless, is_character_of, is_escape_of, range_of}
use Rattle.rx_kinds.specs.Codes.{class_escape_code}
use Rattle.rx_lint.specs.Rules.{covers, is_same_escape}
use Rattle.rx_lint.proofs.Stairs.{covered_added}
use Rattle.rx_lint.proofs.Sets.{either}

-- The six kinds of class escapes are told by their numbers.
escape_told : (a b : CharacterClassEscapeKind) → is_same_escape a b ≡ nat_eq (class_escape_code a) (class_escape_code b)
escape_told D D = refl
escape_told NegativeD NegativeD = refl
escape_told S S = refl
escape_told NegativeS NegativeS = refl
escape_told W W = refl
escape_told NegativeW NegativeW = refl
escape_told _ _ = refl

-- A range whose min is above its max covers nothing.
no_room : (low high v : ℕ) → nat_le low high ≡ false → (nat_le low v && nat_le v high) ≡ false
no_room low high v above = grind (arith, nat_tests)

regroup : (a b c : Bool) → (a || (b || c)) ≡ (b || (a || c))
regroup true true c = refl
regroup true false c = refl
regroup false true c = refl
regroup false false c = refl

useless_character : (c : Character) (ms : List Member) → is_useless (character c) ms ≡ (list_any (covers_both c.value c.value) (flat_map range_of ms) || list_any (is_character_of c.value) ms)
useless_character c [] = refl
useless_character c (character d ∷ ms) =
    ap (λ b. nat_eq d.value c.value || b) (useless_character c ms) ∙ regroup (nat_eq d.value c.value) (list_any (covers_both c.value c.value) (flat_map range_of ms)) (list_any (is_character_of c.value) ms)
useless_character c (range r ∷ ms) =
    let covering = λ (rs : List Range). list_any (covers_both c.value c.value) rs in
    let so_far = useless_character c ms in
    elim (nat_le r.min.value r.max.value) as (λ b. nat_le r.min.value r.max.value ≡ b → (covers r c.value || is_useless (character c) ms) ≡ (covering ((if b then (r.min.value, r.max.value) ∷ [] else []) ++ flat_map range_of ms) || list_any (is_character_of c.value) ms)) [
      | true ↦ λ room. ap (λ b. covers r c.value || b) so_far ∙ sym (or_assoc (covers r c.value) (covering (flat_map range_of ms)) (list_any (is_character_of c.value) ms))
      | false ↦ λ above. ap (λ b. b || is_useless (character c) ms) (no_room r.min.value r.max.value c.value above) ∙ so_far
    ] refl
useless_character c (escape f ∷ ms) = useless_character c ms
useless_character c (property f ∷ ms) = useless_character c ms
useless_character c (nested f ∷ ms) = useless_character c ms
useless_character c (strings f ∷ ms) = useless_character c ms

-- A range covers both ends of another where it covers the smaller and the larger of both.
absorb : (a b c d : Bool) → (a ≡ true → c ≡ true) → (d ≡ true → b ≡ true) → ((a && b) && (c && d)) ≡ (a && d)
absorb false b c d f g = refl
absorb true b c false f g = ap (λ x. b && x) (and-false c) ∙ and-false b
absorb true true true true f g = refl
absorb true false c true f g = let e : false ≡ true = g refl in cc
absorb true true false true f g = let e : false ≡ true = f refl in cc

swapped : (x y : Bool) → (x && y) ≡ (y && x)
swapped true true = refl
swapped true false = refl
swapped false true = refl
swapped false false = refl

up : (low v w : ℕ) → v ≤ w → nat_le low v ≡ true → nat_le low w ≡ true
up low v w room below = grind (arith, nat_tests)

down : (v w high : ℕ) → v ≤ w → nat_le w high ≡ true → nat_le v high ≡ true
down v w high room below = grind (arith, nat_tests)

le_of : (v w : ℕ) → nat_le v w ≡ true → v ≤ w
le_of v w is = grind (arith, nat_tests)

lt_of : (v w : ℕ) → nat_le v w ≡ false → w < v
lt_of v w is = grind (arith, nat_tests)

both_in_order : (low high v w : ℕ) → v ≤ w → ((nat_le low v && nat_le v high) && (nat_le low w && nat_le w high)) ≡ (nat_le low v && nat_le w high)
both_in_order low high v w room = absorb (nat_le low v) (nat_le v high) (nat_le low w) (nat_le w high) (up low v w room) (down v w high room)

smaller : (v w : ℕ) → v ≤ w → (min v w ≡ v) × (max v w ≡ w)
smaller v w room = (omega arith, omega arith)

larger : (v w : ℕ) → w ≤ v → (min v w ≡ w) × (max v w ≡ v)
larger v w room = (omega arith, omega arith)

both_ends : (low high v w : ℕ) → ((nat_le low v && nat_le v high) && (nat_le low w && nat_le w high)) ≡ (nat_le low (min v w) && nat_le (max v w) high)
both_ends low high v w = elim (nat_le v w) as (λ b. nat_le v w ≡ b → ((nat_le low v && nat_le v high) && (nat_le low w && nat_le w high)) ≡ (nat_le low (min v w) && nat_le (max v w) high)) [
  | true ↦ λ is.
      let room = le_of v w is in
      let ends = smaller v w room in
      both_in_order low high v w room ∙ ap (λ n. nat_le low n && nat_le w high) (sym ends.0) ∙ ap (λ n. nat_le low (min v w) && nat_le n high) (sym ends.1)
  | false ↦ λ is.
      let above : w < v = lt_of v w is in
      let room : w ≤ v = omega arith in
      let ends = larger v w room in
      swapped (nat_le low v && nat_le v high) (nat_le low w && nat_le w high) ∙ both_in_order low high w v room ∙ ap (λ n. nat_le low n && nat_le v high) (sym ends.0) ∙ ap (λ n. nat_le low (min v w) && nat_le n high) (sym ends.1)
] refl

useless_range : (q : CharacterClassRange) (ms : List Member) → is_useless (range q) ms ≡ list_any (covers_both (min q.min.value q.max.value) (max q.min.value q.max.value)) (flat_map range_of ms)
useless_range q [] = refl
useless_range q (range r ∷ ms) =
    let low = min q.min.value q.max.value in
    let high = max q.min.value q.max.value in
    let so_far = useless_range q ms in
    elim (nat_le r.min.value r.max.value) as (λ b. nat_le r.min.value r.max.value ≡ b → ((covers r q.min.value && covers r q.max.value) || is_useless (range q) ms) ≡ list_any (covers_both low high) ((if b then (r.min.value, r.max.value) ∷ [] else []) ++ flat_map range_of ms)) [
      | true ↦ λ room. ap (λ b. b || is_useless (range q) ms) (both_ends r.min.value r.max.value q.min.value q.max.value) ∙ ap (λ b. covers_both low high (r.min.value, r.max.value) || b) so_far
      | false ↦ λ above. ap (λ b. (b && covers r q.max.value) || is_useless (range q) ms) (no_room r.min.value r.max.value q.min.value above) ∙ so_far
    ] refl
useless_range q (character f ∷ ms) = useless_range q ms
useless_range q (escape f ∷ ms) = useless_range q ms
useless_range q (property f ∷ ms) = useless_range q ms
useless_range q (nested f ∷ ms) = useless_range q ms
useless_range q (strings f ∷ ms) = useless_range q ms

-- No item makes another one useless.
useless_property : (p : UnicodePropertyEscape) (ms : List Member) → is_useless (property p) ms ≡ false
useless_property p [] = refl
useless_property p (range m ∷ ms) = useless_property p ms
useless_property p (escape m ∷ ms) = useless_property p ms
useless_property p (property m ∷ ms) = useless_property p ms
useless_property p (character m ∷ ms) = useless_property p ms
useless_property p (nested m ∷ ms) = useless_property p ms
useless_property p (strings m ∷ ms) = useless_property p ms

useless_nested : (c : Class) (ms : List Member) → is_useless (nested c) ms ≡ false
useless_nested c [] = refl
useless_nested c (range m ∷ ms) = useless_nested c ms
useless_nested c (escape m ∷ ms) = useless_nested c ms
useless_nested c (property m ∷ ms) = useless_nested c ms
useless_nested c (character m ∷ ms) = useless_nested c ms
useless_nested c (nested m ∷ ms) = useless_nested c ms
useless_nested c (strings m ∷ ms) = useless_nested c ms

useless_strings : (d : ClassStringDisjunction) (ms : List Member) → is_useless (strings d) ms ≡ false
useless_strings d [] = refl
useless_strings d (range m ∷ ms) = useless_strings d ms
useless_strings d (escape m ∷ ms) = useless_strings d ms
useless_strings d (property m ∷ ms) = useless_strings d ms
useless_strings d (character m ∷ ms) = useless_strings d ms
useless_strings d (nested m ∷ ms) = useless_strings d ms
useless_strings d (strings m ∷ ms) = useless_strings d ms

-- One item more, which a test passes or not.
any_more : (p : Member → Bool) (ms : List Member) (m : Member) → list_any p (ms ++ (m ∷ [])) ≡ (list_any p ms || p m)
any_more p ms m = list_any-append p ms (m ∷ []) ∙ ap (λ b. list_any p ms || b) (or-false (p m))

any_still : (p : Member → Bool) (ms : List Member) (m : Member) → p m ≡ false → list_any p ms ≡ list_any p (ms ++ (m ∷ []))
any_still p ms m fails = sym (any_more p ms m ∙ ap (λ b. list_any p ms || b) fails ∙ or-false (list_any p ms))

ranges_more : (ms : List Member) (m : Member) → flat_map range_of (ms ++ (m ∷ [])) ≡ flat_map range_of ms ++ range_of m
ranges_more ms m = flat_map-append range_of ms (m ∷ []) ∙ ap (λ rs. flat_map range_of ms ++ rs) (append-nil (range_of m))

ranges_still : {at : ℕ → Option ℕ} (ms : List Member) (m : Member) → range_of m ≡ [] → IsStair at (flat_map range_of ms) → IsStair at (flat_map range_of (ms ++ (m ∷ [])))
ranges_still {at} ms m none stair = subst (IsStair at) (sym (ranges_more ms m ∙ ap (λ rs. flat_map range_of ms ++ rs) none ∙ append-nil (flat_map range_of ms))) stair

key_added : (seen later : BTreeSet ℕ) (v q : ℕ) → UpdatesBy nat_cmp (nat_cmp v) seen later true → contains nat_cmp later q ≡ cond (nat_eq v q) true (contains nat_cmp seen q)
key_added seen later v q updates = grind (arith, common_steps, updates.0 q)

-- what a set has after one value more
set_more : (seen later : BTreeSet ℕ) (p : ℕ → Member → Bool) (ms : List Member) (m : Member) (v : ℕ) → ((q : ℕ) → p q m ≡ nat_eq v q) → UpdatesBy nat_cmp (nat_cmp v) seen later true → ((q : ℕ) → contains nat_cmp seen q ≡ list_any (p q) ms) → (q : ℕ) → contains nat_cmp later q ≡ list_any (p q) (ms ++ (m ∷ []))
set_more seen later p ms m v is updates so_far q =
    key_added seen later v q updates ∙ either (nat_eq v q) (contains nat_cmp seen q) ∙ ap (λ b. b || nat_eq v q) (so_far q) ∙ ap (λ b. list_any (p q) ms || b) (sym (is q)) ∙ sym (any_more (p q) ms m)

pub none_held : {items : Items} → ((v : ℕ) → contains nat_cmp items.characters v ≡ false) → IsStair (get nat_cmp items.ranges.ends) [] → ((n : ℕ) → contains nat_cmp items.escapes n ≡ false) → AreItems items []
none_held characters ranges escapes = record { characters = characters; ranges = ranges; escapes = escapes }

pub character_added : {old new : Items} {ms : List Member} (it : Character) (covered there answer : Bool) → covered ≡ list_any (covers_both it.value it.value) (flat_map range_of ms) → there ≡ contains nat_cmp old.characters it.value → answer ≡ (covered || there) →
    UpdatesBy nat_cmp (nat_cmp it.value) old.characters new.characters true → new.ranges ≡ old.ranges → new.escapes ≡ old.escapes → AreItems old ms → (answer ≡ is_useless (character it) ms) × AreItems new (ms ++ (character it ∷ []))
character_added {old} {new} {ms} it covered there answer covers_it is_there answers updates same_ranges same_escapes are = (
  answers ∙ ap (λ b. b || there) covers_it ∙ ap (λ b. list_any (covers_both it.value it.value) (flat_map range_of ms) || b) (is_there ∙ are.characters it.value) ∙ sym (useless_character it ms),
  record {
    characters = set_more old.characters new.characters is_character_of ms (character it) it.value (λ q. refl) updates are.characters;
    ranges = subst (λ (r : Ranges). IsStair (get nat_cmp r.ends) (flat_map range_of (ms ++ (character it ∷ [])))) (sym same_ranges) (ranges_still ms (character it) refl are.ranges);
    escapes = λ n. ap (λ s. contains nat_cmp s n) same_escapes ∙ are.escapes n ∙ any_still (is_escape_of n) ms (character it) refl;
  },
)

-- an item that adds nothing
still : {items : Items} {ms : List Member} (m : Member) → ((v : ℕ) → is_character_of v m ≡ false) → range_of m ≡ [] → ((n : ℕ) → is_escape_of n m ≡ false) → AreItems items ms → AreItems items (ms ++ (m ∷ []))
still {items} {ms} m no_character no_range no_escape are = record {
  characters = λ v. are.characters v ∙ any_still (is_character_of v) ms m (no_character v);
  ranges = ranges_still ms m no_range are.ranges;
  escapes = λ n. are.escapes n ∙ any_still (is_escape_of n) ms m (no_escape n);
}

pub property_added : {items : Items} {ms : List Member} (p : UnicodePropertyEscape) → AreItems items ms → (false ≡ is_useless (property p) ms) × AreItems items (ms ++ (property p ∷ []))
property_added {ms = ms} p are = (sym (useless_property p ms), still (property p) (λ v. refl) refl (λ n. refl) are)

pub nested_added : {items : Items} {ms : List Member} (c : Class) → AreItems items ms → (false ≡ is_useless (nested c) ms) × AreItems items (ms ++ (nested c ∷ []))
nested_added {ms = ms} c are = (sym (useless_nested c ms), still (nested c) (λ v. refl) refl (λ n. refl) are)

pub strings_added : {items : Items} {ms : List Member} (d : ClassStringDisjunction) → AreItems items ms → (false ≡ is_useless (strings d) ms) × AreItems items (ms ++ (strings d ∷ []))
strings_added {ms = ms} d are = (sym (useless_strings d ms), still (strings d) (λ v. refl) refl (λ n. refl) are)

at_most : (v w : ℕ) → v ≤ w → nat_le v w ≡ true
at_most v w room = grind (arith, nat_tests)

not_at_most : (v w : ℕ) → w < v → nat_le v w ≡ false
not_at_most v w above = grind (arith, nat_tests)

range_in_order : (r : CharacterClassRange) → r.min.value ≤ r.max.value → range_of (range r) ≡ (r.min.value, r.max.value) ∷ []
range_in_order r room = ap (λ b. if b then (r.min.value, r.max.value) ∷ [] else []) (at_most r.min.value r.max.value room)

range_out_of_order : (r : CharacterClassRange) → r.max.value < r.min.value → range_of (range r) ≡ []
range_out_of_order r above = ap (λ b. if b then (r.min.value, r.max.value) ∷ [] else []) (not_at_most r.min.value r.max.value above)

-- A range whose min is above its max is not added; nor is one that another covers.
pub range_kept_out : {items : Items} {ms : List Member} (r : CharacterClassRange) (covered : Bool) → covered ≡ list_any (covers_both (min r.min.value r.max.value) (max r.min.value r.max.value)) (flat_map range_of ms) → r.max.value < r.min.value → AreItems items ms →
    (covered ≡ is_useless (range r) ms) × AreItems items (ms ++ (range r ∷ []))
range_kept_out {ms = ms} r covered answers above are = (answers ∙ sym (useless_range r ms), still (range r) (λ v. refl) (range_out_of_order r above) (λ n. refl) are)

covering_in_order : (r : CharacterClassRange) (rs : List Range) → r.min.value ≤ r.max.value → list_any (covers_both (min r.min.value r.max.value) (max r.min.value r.max.value)) rs ≡ list_any (covers_both r.min.value r.max.value) rs
covering_in_order r rs room =
    let ends = smaller r.min.value r.max.value room in
    ap (λ v. list_any (covers_both v (max r.min.value r.max.value)) rs) ends.0 ∙ ap (λ w. list_any (covers_both r.min.value w) rs) ends.1

with_stair : {items later : Items} {ms : List Member} (r : CharacterClassRange) → r.min.value ≤ r.max.value → later.characters ≡ items.characters → later.escapes ≡ items.escapes → IsStair (get nat_cmp later.ranges.ends) (flat_map range_of ms ++ ((r.min.value, r.max.value) ∷ [])) → AreItems items ms → AreItems later (ms ++ (range r ∷ []))
with_stair {items} {later} {ms} r room same_characters same_escapes stair are = record {
  characters = λ v. ap (λ s. contains nat_cmp s v) same_characters ∙ are.characters v ∙ any_still (is_character_of v) ms (range r) refl;
  ranges = subst (IsStair (get nat_cmp later.ranges.ends)) (sym (ranges_more ms (range r) ∙ ap (λ rs. flat_map range_of ms ++ rs) (range_in_order r room))) stair;
  escapes = λ n. ap (λ s. contains nat_cmp s n) same_escapes ∙ are.escapes n ∙ any_still (is_escape_of n) ms (range r) refl;
}

pub covered_range : {items : Items} {ms : List Member} (r : CharacterClassRange) (covered : Bool) → covered ≡ list_any (covers_both (min r.min.value r.max.value) (max r.min.value r.max.value)) (flat_map range_of ms) → r.min.value ≤ r.max.value → covered ≡ true → AreItems items ms →
    (covered ≡ is_useless (range r) ms) × AreItems items (ms ++ (range r ∷ []))
covered_range {items} {ms} r covered answers room is are = (
  answers ∙ sym (useless_range r ms),
  with_stair r room refl refl (covered_added r.min.value r.max.value (get nat_cmp items.ranges.ends) (flat_map range_of ms) are.ranges (sym (covering_in_order r (flat_map range_of ms) room) ∙ sym answers ∙ is)) are,
)

pub range_added : {old new : Items} {ms : List Member} (r : CharacterClassRange) (covered : Bool) → covered ≡ list_any (covers_both (min r.min.value r.max.value) (max r.min.value r.max.value)) (flat_map range_of ms) → r.min.value ≤ r.max.value → covered ≡ false →
    ((rs : List Range) → IsStair (get nat_cmp old.ranges.ends) rs → list_any (covers_both r.min.value r.max.value) rs ≡ false → IsStair (get nat_cmp new.ranges.ends) (rs ++ ((r.min.value, r.max.value) ∷ []))) → new.characters ≡ old.characters → new.escapes ≡ old.escapes → AreItems old ms →
    (false ≡ is_useless (range r) ms) × AreItems new (ms ++ (range r ∷ []))
range_added {old} {new} {ms} r covered answers room new_range adds same_characters same_escapes are = (
  sym new_range ∙ answers ∙ sym (useless_range r ms),
  with_stair r room same_characters same_escapes (adds (flat_map range_of ms) are.ranges (sym (covering_in_order r (flat_map range_of ms) room) ∙ sym answers ∙ new_range)) are,
)

-- what an item does to held items
abbrev pub Adds : Items → Items → Result Bool OutOfMemory → Member → Type 0
Adds old new result m = IfOk result (λ useless. (before : List Member) → AreItems old before → (useless ≡ is_useless m before) × AreItems new (before ++ (m ∷ [])))
