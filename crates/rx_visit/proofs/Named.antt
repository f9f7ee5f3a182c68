-- The set of the names so far.
use Rattle.std.proofs.Common.{◌≡◌, refl, ap, sym, ◌∙◌, subst, ℕ, ◌+◌, ◌<◌, ◌≤◌, Bool, true, false, cond, ◌||◌, nat_lt, Option, Some, None, List, [], ◌∷◌, ◌++◌, arith, Bor, Ordering}
use Rattle.std.specs.Prelude.{if◌then◌else◌}
use Rattle.std.specs.BTreeSet.{BTreeSet, contains, UpdatesBy}
use Rattle.std.specs.Cmp.Lexicographic.{slice_cmp}
use Rattle.std.specs.List.{list_any}
use Rattle.std.specs.Ordering.{nat_cmp}
use Rattle.std.specs.Str.{bytes_eq, chars, IsUtf8}
use Rattle.std.proofs.lemmas.Bool.Decides.{nat_tests, same_from_decides}
use Rattle.std.proofs.Math.Bool.{or-true}
use Rattle.std.proofs.lemmas.Map.Text.{is_eq-slice_cmp}
use Rattle.std.proofs.lemmas.Slice.Eq.{bytes_eq-Decides}
use Rattle.rx_base.specs.Texts.{are_same}
use Rattle.rx_ast.specs.Kinds.{Kind, capturing_group}
use Rattle.rx_base.proofs.Texts.{one_text}
use Rattle.rx_visit.specs.Names.{name_of, is_name_twice, has_equal_names}
use Rattle.rx_visit.specs.Patterns.{count_named, is_named}
use Rattle.rx_visit.proofs.Finders.{count_both}

abbrev is_called : List ℕ → Option (List ℕ) → Bool
is_called name (Some other) = are_same other name
is_called name None = false

pub named_is : (name : List ℕ) (k : Kind) → is_named name k ≡ is_called name (name_of k)
named_is name (capturing_group s (Some other) d) = refl
named_is name (capturing_group s None d) = refl
named_is name _ = refl

-- the order of texts in a set
abbrev pub text_cmp : Bor (List ℕ) → Bor (List ℕ) → Ordering
text_cmp a b = slice_cmp nat_cmp a.now b.now

-- The set has the names of the nodes, and no name twice.
pub record Holds (names : BTreeSet (Bor (List ℕ))) (ks : List Kind) : Type 0 where
  pub found : (q : Bor (List ℕ)) → IsUtf8 q.now → contains text_cmp names q ≡ nat_lt 0 (count_named (chars q.now) ks)
  pub once : (name : List ℕ) → count_named name ks ≤ 1

-- one node more
counted : (name : List ℕ) (ks : List Kind) (k : Kind) → count_named name (ks ++ (k ∷ [])) ≡ count_named name ks + (if is_called name (name_of k) then 1 else 0)
counted name ks k =
    let both = count_both name ks (k ∷ []) in
    let one = ap (λ b. (if b then 1 else 0) + 0) (named_is name k) in
    omega arith

uncounted : (name : List ℕ) (ks : List Kind) (k : Kind) → name_of k ≡ None → count_named name (ks ++ (k ∷ [])) ≡ count_named name ks
uncounted name ks k unnamed =
    let more : count_named name (ks ++ (k ∷ [])) ≡ count_named name ks + 0 = counted name ks k ∙ ap (λ o. count_named name ks + (if is_called name o then 1 else 0)) unnamed in
    omega arith

pub holds_unnamed : {names : BTreeSet (Bor (List ℕ))} {ks more : List Kind} (k : Kind) → more ≡ ks ++ (k ∷ []) → name_of k ≡ None → Holds names ks → Holds names more
holds_unnamed {names} {ks} k grown unnamed so_far = subst (Holds names) (sym grown) (record {
  found = λ q text. so_far.found q text ∙ ap (nat_lt 0) (sym (uncounted (chars q.now) ks k unnamed));
  once = λ name. let same = uncounted name ks k unnamed in let most = so_far.once name in omega arith;
})

-- texts are equal where their characters are
same_texts : (a b : List ℕ) → IsUtf8 a → IsUtf8 b → bytes_eq a b ≡ are_same (chars a) (chars b)
same_texts a b first second =
    let decided = bytes_eq-Decides (chars a) (chars b) in
    same_from_decides _ _ (bytes_eq-Decides a b) (λ equal. one_text first second (decided.0 equal), λ same. decided.1 (ap chars same))

counted_named : (name : List ℕ) (ks : List Kind) (k : Kind) (other : List ℕ) → name_of k ≡ Some other → count_named name (ks ++ (k ∷ [])) ≡ count_named name ks + (if are_same other name then 1 else 0)
counted_named name ks k other named = counted name ks k ∙ ap (λ o. count_named name ks + (if is_called name o then 1 else 0)) named

some_more : (b : Bool) (n m : ℕ) → m ≡ n + (if b then 1 else 0) → cond b true (nat_lt 0 n) ≡ nat_lt 0 m
some_more true n m more = let some : 0 < m = omega (arith, more) in sym (grind (arith, nat_tests))
some_more false n m more = ap (nat_lt 0) (omega (arith, more))

at_most_one : (b : Bool) (n m : ℕ) → m ≡ n + (if b then 1 else 0) → n ≤ 1 → (b ≡ true → n ≡ 0) → m ≤ 1
at_most_one true n m more most none = let zero : n ≡ 0 = none refl in omega (arith, more)
at_most_one false n m more most none = omega (arith, more)

none_of : (n : ℕ) → nat_lt 0 n ≡ false → n ≡ 0
none_of n none = grind (arith, nat_tests)

pub holds_named : {names later : BTreeSet (Bor (List ℕ))} {ks more : List Kind} (k : Kind) (new : Bor (List ℕ)) → more ≡ ks ++ (k ∷ []) → name_of k ≡ Some (chars new.now) → IsUtf8 new.now → contains text_cmp names new ≡ false
    → UpdatesBy text_cmp (text_cmp new) names later true → Holds names ks → Holds later more
holds_named {names} {later} {ks} k new grown named text absent updates so_far =
    let none : count_named (chars new.now) ks ≡ 0 = none_of _ (sym (so_far.found new text) ∙ absent) in
    subst (Holds later) (sym grown) (record {
      found = λ q valid.
          updates.0 q ∙ ap (λ b. cond b true (contains text_cmp names q)) (is_eq-slice_cmp new.now q.now ∙ same_texts new.now q.now text valid)
          ∙ ap (λ b. cond (are_same (chars new.now) (chars q.now)) true b) (so_far.found q valid)
          ∙ some_more _ _ _ (counted_named (chars q.now) ks k (chars new.now) named);
      once = λ name. at_most_one _ _ _ (counted_named name ks k (chars new.now) named) (so_far.once name) (λ equal. subst (λ other. count_named other ks ≡ 0) ((bytes_eq-Decides (chars new.now) name).0 equal) none);
    })

any_here : (p : Kind → Bool) (ks more : List Kind) (k : Kind) → p k ≡ true → list_any p (ks ++ (k ∷ more)) ≡ true
any_here p [] more k holds = ap (λ b. b || list_any p more) holds
any_here p (j ∷ ks) more k holds = ap (λ b. p j || b) (any_here p ks more k holds) ∙ or-true (p j)

some_of : (n : ℕ) → true ≡ nat_lt 0 n → 1 ≤ n
some_of n some = grind (arith, nat_tests)

two_of : (n : ℕ) → 2 ≤ n → nat_lt 1 n ≡ true
two_of n two = grind (arith, nat_tests)

not_two : (n : ℕ) → n ≤ 1 → nat_lt 1 n ≡ false
not_two n most = grind (arith, nat_tests)

-- a second group of a name
pub second_found : {names : BTreeSet (Bor (List ℕ))} (ks more : List Kind) (k : Kind) (new : Bor (List ℕ)) → name_of k ≡ Some (chars new.now) → IsUtf8 new.now → contains text_cmp names new ≡ true
    → Holds names ks → has_equal_names (ks ++ (k ∷ more)) ≡ true
second_found ks more k new named text present so_far =
    let name = chars new.now in
    let all = ks ++ (k ∷ more) in
    let itself : is_named name k ≡ true = named_is name k ∙ ap (is_called name) named ∙ (bytes_eq-Decides name name).1 refl in
    let before : 1 ≤ count_named name ks = some_of _ (sym present ∙ so_far.found new text) in
    let here : count_named name (k ∷ more) ≡ 1 + count_named name more = ap (λ b. (if b then 1 else 0) + count_named name more) itself in
    let both = count_both name ks (k ∷ more) in
    let twice : 2 ≤ count_named name all = omega arith in
    any_here (λ j. is_name_twice all (name_of j)) ks more k (ap (is_name_twice all) named ∙ two_of _ twice)

not_twice : (all : List Kind) (name : Option (List ℕ)) → ((name : List ℕ) → count_named name all ≤ 1) → is_name_twice all name ≡ false
not_twice all None once = refl
not_twice all (Some name) once = not_two _ (once name)

none_twice : (all ks : List Kind) → ((name : List ℕ) → count_named name all ≤ 1) → list_any (λ k. is_name_twice all (name_of k)) ks ≡ false
none_twice all [] once = refl
none_twice all (k ∷ ks) once = ap (λ b. b || list_any (λ j. is_name_twice all (name_of j)) ks) (not_twice all (name_of k) once) ∙ none_twice all ks once

pub none_equal : {names : BTreeSet (Bor (List ℕ))} (ks : List Kind) → Holds names ks → has_equal_names ks ≡ false
none_equal ks holds = none_twice ks ks holds.once
