-- The records of a tree hang together.
use Rattle.std.proofs.Common.{◌≡◌, refl, ap, sym, ◌∙◌, subst, ℕ, zero, suc, ◌+◌, ◌-◌, ◌<◌, ◌≤◌, le_refl, inl, inr, ◌⊎◌, arith, Some, List, [], ◌∷◌, ◌++◌, append_assoc, append-nil, length, length-append, map, take, drop}
use Rattle.std.specs.Prelude.{slice_get}
use Rattle.std.proofs.lemmas.Option.{same_Some, slice_get_within}
use lib.Seq.{drop-append_seam, take-append_seam}
use Rattle.rx_ast.specs.Kinds.{Kind, children, pattern}
use Rattle.rx_ast.specs.Tree.{Whole}
use Rattle.rx_records.specs.declared.node.Node.{Node}
use Rattle.rx_kinds.specs.Inner.{node_of}
use Rattle.rx_kinds.proofs.Inner.{node_is}
use Rattle.rx_records.specs.Law.{IsLinked, after_steps, next_at, next_of, stops}
use Rattle.rx_records.specs.Nodes.{Before}
use Rattle.rx_records.specs.Records.{AreRecords, all_nodes, before_all, nodes_of, past, records}
use Rattle.rx_records.proofs.Nodes.{nodes_are, same_nodes}
use Rattle.rx_records.proofs.Rows.{length-records, past_all, past_nodes}
use Rattle.rx_records.proofs.SameRecords.{entry, opened}

pub get_past : {X : Type 0} (front rest : List X) (x : X) → slice_get (front ++ x ∷ rest) (length front) ≡ Some x
get_past [] rest x = refl
get_past (first ∷ front) rest x = get_past front rest x

pub entry_past : (before : Before) (passed rest : List Kind) (k : Kind) → slice_get (records before (passed ++ k ∷ rest)) (length passed) ≡ Some (entry (past_all before passed) k)
entry_past before [] rest k = refl
entry_past before (first ∷ passed) rest k = entry_past (past before first) passed rest k

-- Siblings, and all that stand in them, are some of all nodes, from an index on.
record Stand (all : List Kind) (at : ℕ) (ks : List Kind) : Type 0 where
  pub passed : List Kind
  pub rest : List Kind
  pub is : all ≡ passed ++ (all_nodes ks ++ rest)
  pub count : length passed ≡ at

inner_count : (k : Kind) → length (nodes_of k) ≡ suc (length (all_nodes (children (node_of k))))
inner_count k = ap length (sym (same_nodes k) ∙ nodes_are (node_of k) (node_is k))

module _ (all : List Kind) (at : ℕ) (k : Kind) (ks : List Kind) (stand : Stand all at (k ∷ ks)) where
  -- the record of the first sibling
  abbrev first_record : Node
  first_record = entry (past_all before_all stand.passed) (node_of k)

  apart : all ≡ stand.passed ++ node_of k ∷ ((all_nodes (children (node_of k)) ++ all_nodes ks) ++ stand.rest)
  apart = stand.is ∙ ap (λ js. stand.passed ++ (js ++ stand.rest)) (opened k ks)

  within_first : Stand all (at + 1) (children (node_of k))
  within_first =
      let inner = all_nodes (children (node_of k)) in
      let grown = length-append stand.passed (node_of k ∷ []) in
      let count = stand.count in
      record {
        passed = stand.passed ++ node_of k ∷ [];
        rest = all_nodes ks ++ stand.rest;
        is = apart ∙ ap (λ js. stand.passed ++ node_of k ∷ js) (append_assoc inner (all_nodes ks) stand.rest)
            ∙ sym (append_assoc stand.passed (node_of k ∷ []) (inner ++ (all_nodes ks ++ stand.rest)));
        count = omega arith;
      }

  after_first : Stand all (at + length (nodes_of k)) ks
  after_first =
      let grown = length-append stand.passed (nodes_of k) in
      let count = stand.count in
      record {
        passed = stand.passed ++ nodes_of k;
        rest = stand.rest;
        is = stand.is ∙ ap (λ js. stand.passed ++ js) (append_assoc (nodes_of k) (all_nodes ks) stand.rest)
            ∙ sym (append_assoc stand.passed (nodes_of k) (all_nodes ks ++ stand.rest));
        count = omega arith;
      }

  node_there : slice_get all at ≡ Some (node_of k)
  node_there = ap (slice_get all) (sym stand.count) ∙ ap (λ js. slice_get js (length stand.passed)) apart ∙ get_past stand.passed _ (node_of k)

  record_there : slice_get (records before_all all) at ≡ Some first_record
  record_there =
      ap (slice_get (records before_all all)) (sym stand.count) ∙ ap (λ js. slice_get (records before_all js) (length stand.passed)) apart ∙ entry_past before_all stand.passed _ (node_of k)

  next_is : first_record.next ≡ at + length (nodes_of k)
  next_is =
      let counted = ap length (same_nodes k) in
      let past_it = past_nodes before_all stand.passed in
      let count = stand.count in
      omega arith

  next_there : next_at (records before_all all) at ≡ at + length (nodes_of k)
  next_there = ap next_of record_there ∙ next_is

  all_there : take (length (nodes_of k)) (drop at all) ≡ nodes_of (node_of k)
  all_there =
      let others = all_nodes ks ++ stand.rest in
      ap (λ n. take (length (nodes_of k)) (drop n all)) (sym stand.count)
      ∙ ap (λ js. take (length (nodes_of k)) (drop (length stand.passed) js)) (stand.is ∙ ap (λ js. stand.passed ++ js) (append_assoc (nodes_of k) (all_nodes ks) stand.rest))
      ∙ ap (take (length (nodes_of k))) (drop-append_seam stand.passed (nodes_of k ++ others)) ∙ take-append_seam (nodes_of k) others ∙ sym (same_nodes k)

  room_there : at + length (nodes_of k) ≤ length all
  room_there =
      let size = ap length stand.is ∙ length-append stand.passed ((nodes_of k ++ all_nodes ks) ++ stand.rest) in
      let parts = length-append (nodes_of k ++ all_nodes ks) stand.rest in
      let both = length-append (nodes_of k) (all_nodes ks) in
      let count = stand.count in
      omega arith

-- Steps over siblings lead past all that stand in them, and each begins at a sibling.
steps_past : (all : List Kind) (at : ℕ) (ks : List Kind) → Stand all at ks → after_steps (records before_all all) (length ks) at ≡ at + length (all_nodes ks)
steps_past all at [] stand = omega arith
steps_past all at (k ∷ ks) stand =
    let both = length-append (nodes_of k) (all_nodes ks) in
    ap (after_steps (records before_all all) (length ks)) (next_there all at k ks stand) ∙ steps_past all (at + length (nodes_of k)) ks (after_first all at k ks stand) ∙ omega arith

stops_are : (all : List Kind) (at : ℕ) (ks : List Kind) → Stand all at ks → map (λ i. slice_get all i) (stops (records before_all all) (length ks) at) ≡ map (λ k. Some (node_of k)) ks
stops_are all at [] stand = refl
stops_are all at (k ∷ ks) stand =
    let others = stops_are all (at + length (nodes_of k)) ks (after_first all at k ks stand) in
    ap (λ it. it ∷ map (λ i. slice_get all i) (stops (records before_all all) (length ks) (next_at (records before_all all) at))) (node_there all at k ks stand)
    ∙ ap (λ n. Some (node_of k) ∷ map (λ i. slice_get all i) (stops (records before_all all) (length ks) n)) (next_there all at k ks stand) ∙ ap (λ its. Some (node_of k) ∷ its) others

first_linked : (all : List Kind) (at : ℕ) (k : Kind) (ks : List Kind) (stand : Stand all at (k ∷ ks)) → IsLinked all (records before_all all) at (first_record all at k ks stand) (node_of k)
first_linked all at k ks stand =
    let inner = within_first all at k ks stand in
    let next = next_is all at k ks stand in
    let counted = inner_count k in
    let room = room_there all at k ks stand in
    let recorded = length-records before_all all in
    let span : (first_record all at k ks stand).next - at ≡ length (nodes_of k) = omega arith in
    record {
      children_are = stops_are all (at + 1) (children (node_of k)) inner;
      after_children = steps_past all (at + 1) (children (node_of k)) inner ∙ omega arith;
      onward = omega arith;
      within = omega arith;
      all_in_it = ap (λ n. take n (drop at all)) span ∙ all_there all at k ks stand;
    }

split_at : (at n : ℕ) → n ≤ at → (at ≡ n) ⊎ (n + 1 ≤ at)
split_at zero zero within = inl refl
split_at (suc at) zero within = inr (omega arith)
split_at zero (suc n) within = absurd (omega arith)
split_at (suc at) (suc n) within = elim (split_at at n (omega arith)) [ inl e ↦ inl (ap suc e) | inr more ↦ inr (omega arith) ]

below_or : (at n : ℕ) → (at < n) ⊎ (n ≤ at)
below_or at zero = inr (omega arith)
below_or zero (suc n) = inl (omega arith)
below_or (suc at) (suc n) = elim (below_or at n) [ inl less ↦ inl (omega arith) | inr more ↦ inr (omega arith) ]

-- Each node stands among siblings.
record Found (all : List Kind) (at : ℕ) : Type 0 where
  pub k : Kind
  pub ks : List Kind
  pub stand : Stand all at (k ∷ ks)

-- `most` is at least as many as there are nodes.
found : (most : ℕ) (all : List Kind) (start : ℕ) (ks : List Kind) → length (all_nodes ks) ≤ most → Stand all start ks → (at : ℕ) → start ≤ at → at < start + length (all_nodes ks) → Found all at
found most all start [] within stand at low high = absurd (omega arith)
found zero all start (k ∷ ks) within stand at low high =
    let inner = inner_count k in
    let both = length-append (nodes_of k) (all_nodes ks) in
    absurd (omega arith)
found (suc most) all start (k ∷ ks) within stand at low high =
    let inner = inner_count k in
    let both = length-append (nodes_of k) (all_nodes ks) in
    elim (split_at at start low) [
      | inl e ↦ subst (Found all) (sym e) (record { k = k; ks = ks; stand = stand })
      | inr more ↦ elim (below_or at (start + length (nodes_of k))) [
        | inl less ↦ found most all (start + 1) (children (node_of k)) (omega arith) (within_first all start k ks stand) at more (omega arith)
        | inr past_k ↦ found most all (start + length (nodes_of k)) ks (omega arith) (after_first all start k ks stand) at past_k (omega arith)
      ]
    ]

moved : (all : List Kind) (nodes : List Node) (at : ℕ) (one node : Node) (kind k : Kind) → one ≡ node → kind ≡ k → IsLinked all nodes at one kind → IsLinked all nodes at node k
moved all nodes at one node kind k same_node same_kind it = subst (λ n. IsLinked all nodes at n k) same_node (subst (IsLinked all nodes at one) same_kind it)

linked_there : (all : List Kind) (at : ℕ) (there : Found all at) (node : Node) (k : Kind) → slice_get (records before_all all) at ≡ Some node → slice_get all at ≡ Some k → IsLinked all (records before_all all) at node k
linked_there all at there node k node_is_at k_is_at =
    moved all (records before_all all) at (first_record all at there.k there.ks there.stand) node (node_of there.k) k (same_Some _ node (sym (record_there all at there.k there.ks there.stand) ∙ node_is_at))
    (same_Some _ k (sym (node_there all at there.k there.ks there.stand) ∙ k_is_at)) (first_linked all at there.k there.ks there.stand)

module _ (tree : Whole) where
  abbrev all_kinds : List Kind
  all_kinds = nodes_of (pattern tree)

  whole_stands : Stand all_kinds 0 (pattern tree ∷ [])
  whole_stands = record { passed = []; rest = []; is = sym (append-nil all_kinds) ∙ sym (append-nil _); count = refl }

  linked : (at : ℕ) (node : Node) (k : Kind) → at < length all_kinds → slice_get (records before_all all_kinds) at ≡ Some node → slice_get all_kinds at ≡ Some k
      → IsLinked all_kinds (records before_all all_kinds) at node k
  linked at node k within node_is_at k_is_at =
      let alone = ap length (append-nil all_kinds) in
      linked_there all_kinds at (found _ all_kinds 0 (pattern tree ∷ []) (le_refl _) whole_stands at (omega arith) (omega arith)) node k node_is_at k_is_at

module _ (tree : Whole) (nodes : List Node) (groups texts : List ℕ) (of_tree : AreRecords tree nodes groups texts) where
  pub one_each : length nodes ≡ length (nodes_of (pattern tree))
  one_each = ap length of_tree.nodes_are ∙ length-records before_all (nodes_of (pattern tree))

  pub all_passed : next_at nodes 0 ≡ length nodes
  all_passed = ap (λ ns. next_at ns 0) of_tree.nodes_are ∙ next_there (nodes_of (pattern tree)) 0 (pattern tree) [] (whole_stands tree) ∙ omega (arith, one_each)

  pub all_linked : (at : ℕ) (node : Node) (k : Kind) → slice_get nodes at ≡ Some node → slice_get (nodes_of (pattern tree)) at ≡ Some k → IsLinked (nodes_of (pattern tree)) nodes at node k
  all_linked at node k node_is_at k_is_at =
      subst (λ ns. IsLinked (nodes_of (pattern tree)) ns at node k) (sym of_tree.nodes_are)
      (linked tree at node k (slice_get_within (nodes_of (pattern tree)) at k k_is_at) (ap (λ ns. slice_get ns at) (sym of_tree.nodes_are) ∙ node_is_at) k_is_at)
