-- The set of the names that were told.
use Rattle.std.proofs.Common.{◌≡◌, refl, ap, ◌∙◌, ℕ, Bool, true, false, cond, ◌||◌, List, [], ◌∷◌, Bor}
use Rattle.std.specs.BTreeMap.{is_at}
use Rattle.std.specs.BTreeSet.{BTreeSet, contains, UpdatesBy}
use Rattle.std.specs.Cmp.Lexicographic.{slice_cmp}
use Rattle.std.specs.List.{list_any}
use Rattle.std.specs.Ordering.{nat_cmp}
use Rattle.std.specs.Str.{IsUtf8, bytes_eq, chars}
use Rattle.std.specs.declared.cmp.Ordering.{Ordering}
use Rattle.std.proofs.lemmas.Bool.Decides.{same_from_decides}
use Rattle.std.proofs.lemmas.Map.Text.{is_eq-slice_cmp}
use Rattle.std.proofs.lemmas.Slice.Eq.{bytes_eq-Decides}
use Rattle.rx_base.proofs.Texts.{one_text}
use Rattle.rx_base.specs.Texts.{are_same, is_among}

abbrev pub by_bytes : Bor (List ℕ) → Bor (List ℕ) → Ordering
by_bytes a b = slice_cmp nat_cmp a.now b.now

-- The set has the names that are among these.
pub record HasNames (names : BTreeSet (Bor (List ℕ))) (seen : List (List ℕ)) : Type 0 where
  pub found : (q : Bor (List ℕ)) → IsUtf8 q.now → contains by_bytes names q ≡ is_among seen (chars q.now)

or_is : (a b : Bool) → cond a true b ≡ (a || b)
or_is true b = refl
or_is false b = refl

-- one name more
pub name_more : (old new : BTreeSet (Bor (List ℕ))) (seen : List (List ℕ)) (key : Bor (List ℕ)) (name : List ℕ) → chars key.now ≡ name → IsUtf8 key.now
    → UpdatesBy by_bytes (by_bytes key) old new true → HasNames old seen → HasNames new (name ∷ seen)
name_more old new seen key name named text updates so_far = record {
  found = λ q valid.
      let decided = bytes_eq-Decides (chars key.now) (chars q.now) in
      let same : bytes_eq key.now q.now ≡ are_same (chars key.now) (chars q.now) =
      same_from_decides _ _ (bytes_eq-Decides key.now q.now) (λ equal. one_text text valid (decided.0 equal), λ equal. decided.1 (ap chars equal)) in
      updates.0 q ∙ ap (λ b. cond b true (contains by_bytes old q)) (is_eq-slice_cmp key.now q.now ∙ same ∙ ap (λ n. are_same n (chars q.now)) named)
      ∙ ap (λ b. cond (are_same name (chars q.now)) true b) (so_far.found q valid)
      ∙ or_is (are_same name (chars q.now)) (is_among seen (chars q.now));
}

-- no name more
pub name_again : (old new : BTreeSet (Bor (List ℕ))) (seen : List (List ℕ)) → new.keys ≡ old.keys → HasNames old seen → HasNames new seen
name_again old new seen same so_far = record { found = λ q valid. ap (λ (ks : List (Bor (List ℕ))). list_any (is_at (by_bytes q)) ks) same ∙ so_far.found q valid }

-- no name
pub names_none : (names : BTreeSet (Bor (List ℕ))) → names.keys ≡ [] → HasNames names []
names_none names empty = record { found = λ q valid. ap (λ (ks : List (Bor (List ℕ))). list_any (is_at (by_bytes q)) ks) empty }
