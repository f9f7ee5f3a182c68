-- The groups are the indices of the records of capturing groups, by their numbers.
use Rattle.std.proofs.Common.{◌≡◌, refl, ap, sym, ◌∙◌, ℕ, zero, suc, ◌+◌, inl, inr, ◌⊎◌, arith, Some, List, [], ◌∷◌, ◌++◌, length}
use Rattle.std.specs.Prelude.{slice_get}
use Rattle.std.proofs.lemmas.Option.{none-some, same_Some}
use Rattle.rx_ast.specs.ClassTree as in_class
use Rattle.rx_ast.specs.Kinds.{Kind, capturing_group, class, pattern}
use Rattle.rx_ast.specs.Tree.{Whole}
use Rattle.rx_records.specs.declared.node.Node.{Node}
use Rattle.rx_records.specs.Law.{IsGroup}
use Rattle.rx_records.specs.Nodes.{Before, own, own_index}
use Rattle.rx_records.specs.Records.{AreRecords, before_all, group_indices, nodes_of, past, records}
use Rattle.rx_records.proofs.SameRecords.{entry}

-- the node is a capturing group, or it is none
record Captures (before : Before) (k : Kind) : Type 0 where
  pub place : own_index before k ≡ before.nodes ∷ []
  pub group : (own before k).node_type ≡ 6
  pub number : (own before k).number ≡ before.groups + 1

record Passes (before : Before) (k : Kind) : Type 0 where
  pub place : own_index before k ≡ []
  pub other : (own before k).node_type ≡ 6 → ⊥

either : (before : Before) (k : Kind) → Captures before k ⊎ Passes before k
either before (capturing_group s name d) = inl (record { place = refl; group = refl; number = refl })
either before (class (in_class.class s negative strings kind ms)) = inr (record { place = refl; other = λ e. omega arith })
either before k = inr (record { place = refl; other = λ e. omega arith })

-- the same of records from some index on: where they begin is added to each index
record IsNumbered (before : Before) (ks : List Kind) (n at : ℕ) : Type 0 where
  pub i : ℕ
  pub is : at ≡ before.nodes + i
  pub group : IsGroup (records before ks) i (before.groups + (n + 1))

later : (before : Before) (k : Kind) (ks : List Kind) (n m at : ℕ) → (past before k).groups + (n + 1) ≡ before.groups + (m + 1) → IsNumbered (past before k) ks n at → IsNumbered before (k ∷ ks) m at
later before k ks n m at same it =
    let is = it.is in
    record { i = suc it.i; is = omega arith; group = record { node = it.group.node; here = it.group.here; group = it.group.group; numbered = it.group.numbered ∙ same } }

-- the places of the groups from the first node on, where what the first adds is known
as_placed : (before : Before) (k : Kind) (ks : List Kind) (n at : ℕ) (place : List ℕ) → own_index before k ≡ place → slice_get (group_indices before (k ∷ ks)) n ≡ Some at
    → slice_get (place ++ group_indices (past before k) ks) n ≡ Some at
as_placed before k ks n at place same e = ap (λ ps. slice_get (ps ++ group_indices (past before k) ks) n) (sym same) ∙ e

numbered : (before : Before) (ks : List Kind) (n at : ℕ) → slice_get (group_indices before ks) n ≡ Some at → IsNumbered before ks n at
numbered before [] n at e = absurd (none-some at e)
numbered before (k ∷ ks) zero at e = elim (either before k) [
  | inl it ↦
      let first = same_Some _ at (as_placed before k ks 0 at _ it.place e) in
      let number = it.number in
      record { i = 0; is = omega arith; group = record { node = entry before k; here = refl; group = it.group; numbered = omega arith } }
  | inr it ↦
      let none = ap length it.place in
      later before k ks 0 0 at (omega arith) (numbered (past before k) ks 0 at (as_placed before k ks 0 at _ it.place e))
]
numbered before (k ∷ ks) (suc n) at e = elim (either before k) [
  | inl it ↦
      let one = ap length it.place in
      later before k ks n (suc n) at (omega arith) (numbered (past before k) ks n at (as_placed before k ks (suc n) at _ it.place e))
  | inr it ↦
      let none = ap length it.place in
      later before k ks (suc n) (suc n) at (omega arith) (numbered (past before k) ks (suc n) at (as_placed before k ks (suc n) at _ it.place e))
]

-- the same the other way round
record IsListed (before : Before) (ks : List Kind) (i number : ℕ) : Type 0 where
  pub n : ℕ
  pub is : number ≡ before.groups + (n + 1)
  pub place : slice_get (group_indices before ks) n ≡ Some (before.nodes + i)

placed : (before : Before) (k : Kind) (ks : List Kind) (n at : ℕ) (place : List ℕ) → own_index before k ≡ place → slice_get (place ++ group_indices (past before k) ks) n ≡ Some at
    → slice_get (group_indices before (k ∷ ks)) n ≡ Some at
placed before k ks n at place same e = ap (λ ps. slice_get (ps ++ group_indices (past before k) ks) n) same ∙ e

listed : (before : Before) (ks : List Kind) (i number : ℕ) → IsGroup (records before ks) i number → IsListed before ks i number
listed before [] i number it = absurd (none-some it.node it.here)
listed before (k ∷ ks) zero number it =
    let first : entry before k ≡ it.node = same_Some _ it.node it.here in
    let type : (own before k).node_type ≡ 6 = ap (λ (r : Node). r.node_type) first ∙ it.group in
    let own_number : (own before k).number ≡ number = ap (λ (r : Node). r.number) first ∙ it.numbered in
    elim (either before k) [
      | inl captures ↦
          let same = captures.number in
          record { n = 0; is = omega arith; place = placed before k ks 0 _ _ captures.place (ap Some (omega arith)) }
      | inr passes ↦ absurd (passes.other type)
    ]
listed before (k ∷ ks) (suc i) number it =
    let rest = listed (past before k) ks i number (record { node = it.node; here = it.here; group = it.group; numbered = it.numbered }) in
    let is = rest.is in
    let at : (past before k).nodes + i ≡ before.nodes + suc i = omega arith in
    elim (either before k) [
      | inl captures ↦
          let one = ap length captures.place in
          record { n = suc rest.n; is = omega arith; place = placed before k ks (suc rest.n) _ _ captures.place (rest.place ∙ ap Some at) }
      | inr passes ↦
          let none = ap length passes.place in
          record { n = rest.n; is = omega arith; place = placed before k ks rest.n _ _ passes.place (rest.place ∙ ap Some at) }
    ]

module _ (tree : Whole) (nodes : List Node) (groups texts : List ℕ) (of_tree : AreRecords tree nodes groups texts) where
  pub groups_found : (n at : ℕ) → slice_get groups n ≡ Some at → IsGroup nodes at (n + 1)
  groups_found n at e =
      let it = numbered before_all (nodes_of (pattern tree)) n at (ap (λ ps. slice_get ps n) (sym of_tree.groups_are) ∙ e) in
      let is = it.is in
      let here : it.i ≡ at = omega arith in
      let number : 0 + (n + 1) ≡ n + 1 = omega arith in
      record {
        node = it.group.node;
        here = ap (λ ns. slice_get ns at) of_tree.nodes_are ∙ ap (slice_get (records before_all (nodes_of (pattern tree)))) (sym here) ∙ it.group.here;
        group = it.group.group;
        numbered = it.group.numbered ∙ number;
      }

  pub all_listed : (number at : ℕ) → IsGroup nodes at number → (n : ℕ) × (number ≡ n + 1) × (slice_get groups n ≡ Some at)
  all_listed number at it =
      let found = listed before_all (nodes_of (pattern tree)) at number (record { node = it.node; here = ap (λ ns. slice_get ns at) (sym of_tree.nodes_are) ∙ it.here; group = it.group; numbered = it.numbered }) in
      let is = found.is in
      let at_is : 0 + at ≡ at = omega arith in
      (found.n, omega arith, ap (λ ps. slice_get ps found.n) of_tree.groups_are ∙ found.place ∙ ap Some at_is)
