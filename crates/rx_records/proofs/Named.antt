-- The texts hold the names that records tell.
use Rattle.std.proofs.Common.{◌≡◌, refl, ap, sym, ◌∙◌, subst, ℕ, zero, suc, ◌+◌, ◌-◌, arith, Option, Some, None, List, [], ◌∷◌, ◌++◌, append_assoc, length, length-append, take, drop}
use Rattle.std.specs.Prelude.{slice_get, encode_utf8_all}
use Rattle.std.proofs.lemmas.Option.{none-some, same_Some}
use lib.Seq.{drop-append_seam, take-append_seam}
use Rattle.rx_ast.specs.Kinds.{Kind, pattern}
use Rattle.rx_ast.specs.Tree.{Whole}
use Rattle.rx_records.specs.declared.node.Node.{Node}
use Rattle.rx_records.specs.Law.{HasNames, Holds, name_in, value_in}
use Rattle.rx_records.specs.Nodes.{bytes_of, optional_range}
use Rattle.rx_records.specs.Ranges.{bytes_at}
use Rattle.rx_records.specs.Records.{AreRecords, all_text, before_all, nodes_of, records}
use Rattle.rx_records.proofs.Linked.{entry_past}
use Rattle.rx_records.proofs.OwnRecords.{names}
use Rattle.rx_records.proofs.Rows.{past_all, past_bytes, text-append}
use Rattle.rx_records.proofs.SameRecords.{entry}

-- bytes between others, where they stand
held : (front bytes rest : List ℕ) (at : ℕ) → at ≡ length front → Holds (front ++ (bytes ++ rest)) (bytes_at at bytes) bytes
held front bytes rest at fits =
    let size = length-append front (bytes ++ rest) in
    let more = length-append bytes rest in
    let long : at + length bytes - at ≡ length bytes = omega arith in
    record {
      forward = omega arith;
      within = omega arith;
      bytes_are = ap (λ n. take (at + length bytes - at) (drop n (front ++ (bytes ++ rest)))) fits ∙ ap (take (at + length bytes - at)) (drop-append_seam front (bytes ++ rest))
          ∙ ap (λ n. take n (bytes ++ rest)) long ∙ take-append_seam bytes rest;
    }

held_if : (front rest : List ℕ) (text : Option (List ℕ)) (at : ℕ) → at ≡ length front → Holds (front ++ (bytes_of text ++ rest)) (optional_range at text) (bytes_of text)
held_if front rest None at fits = record { forward = omega arith; within = omega arith; bytes_are = refl }
held_if front rest (Some text) at fits = held front (encode_utf8_all text) rest at fits

-- an element of a list, what is before it, and what is after it
record Apart (ks : List Kind) (at : ℕ) (k : Kind) : Type 0 where
  pub passed : List Kind
  pub rest : List Kind
  pub is : ks ≡ passed ++ k ∷ rest
  pub count : length passed ≡ at

apart_at : (ks : List Kind) (at : ℕ) (k : Kind) → slice_get ks at ≡ Some k → Apart ks at k
apart_at [] at k e = absurd (none-some k e)
apart_at (first ∷ ks) zero k e = record { passed = []; rest = ks; is = ap (λ x. x ∷ ks) (same_Some first k e); count = refl }
apart_at (first ∷ ks) (suc at) k e =
    let it = apart_at ks at k e in
    record { passed = first ∷ it.passed; rest = it.rest; is = ap (λ js. first ∷ js) it.is; count = ap suc it.count }

entry_named : (passed rest : List Kind) (k : Kind) → HasNames (all_text (passed ++ k ∷ rest)) (entry (past_all before_all passed) k) k
entry_named passed rest k =
    let before = past_all before_all passed in
    let of_k = names before k in
    let front = all_text passed in
    let name = bytes_of (name_in k) in
    let value = bytes_of (value_in k) in
    let more = all_text rest in
    let whole : all_text (passed ++ k ∷ rest) ≡ front ++ (name ++ (value ++ more)) =
    text-append passed (k ∷ rest) ∙ ap (λ t. front ++ (t ++ more)) of_k.text ∙ ap (λ t. front ++ t) (append_assoc name value more) in
    let long : before.bytes ≡ length front = past_bytes before_all passed ∙ omega arith in
    let longer : before.bytes + length name ≡ length (front ++ name) = omega (arith, long, length-append front name) in
    record {
      has_name = of_k.has_name;
      name = subst (λ t. Holds t (entry before k).name name) (sym whole)
          (subst (λ r. Holds (front ++ (name ++ (value ++ more))) r name) (sym of_k.name) (held_if front (value ++ more) (name_in k) before.bytes long));
      has_value = of_k.has_value;
      value = subst (λ t. Holds t (entry before k).property_value value) (sym (whole ∙ sym (append_assoc front name (value ++ more))))
          (subst (λ r. Holds ((front ++ name) ++ (value ++ more)) r value) (sym of_k.value) (held_if (front ++ name) more (value_in k) (before.bytes + length name) longer));
    }

-- the record at the index of a node
there : (ks : List Kind) (at : ℕ) (node : Node) (k : Kind) → Apart ks at k → slice_get (records before_all ks) at ≡ Some node → HasNames (all_text ks) node k
there ks at node k it e =
    let one : entry (past_all before_all it.passed) k ≡ node =
    same_Some _ node (sym (entry_past before_all it.passed it.rest k) ∙ ap (λ js. slice_get (records before_all js) (length it.passed)) (sym it.is) ∙ ap (slice_get (records before_all ks)) it.count ∙ e) in
    subst (λ n. HasNames (all_text ks) n k) one (subst (λ js. HasNames (all_text js) (entry (past_all before_all it.passed) k) k) (sym it.is) (entry_named it.passed it.rest k))

pub all_named : (tree : Whole) (nodes : List Node) (groups texts : List ℕ) → AreRecords tree nodes groups texts → (at : ℕ) (node : Node) (k : Kind) → slice_get nodes at ≡ Some node
    → slice_get (nodes_of (pattern tree)) at ≡ Some k → HasNames texts node k
all_named tree nodes groups texts of_tree at node k node_is_at k_is_at =
    let ks = nodes_of (pattern tree) in
    subst (λ t. HasNames t node k) (sym of_tree.texts_are) (there ks at node k (apart_at ks at k k_is_at) (ap (λ ns. slice_get ns at) (sym of_tree.nodes_are) ∙ node_is_at))
