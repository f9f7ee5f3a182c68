-- How steps of the walk are put together.
use Rattle.std.proofs.Common.{◌≡◌, refl, ap, sym, ◌∙◌, subst, ℕ, zero, suc, ◌+◌, ◌<◌, ◌≤◌, arith, true, List, [], ◌∷◌, ◌++◌, append_assoc, append-nil, length, length-append, get_or, set}
use Rattle.std.specs.String.{string_bytes}
use Rattle.rx_ast.specs.Kinds.{Kind, children, pattern}
use Rattle.rx_ast.specs.Tree.{Whole}
use Rattle.rx_tasks.specs.Tasks.{DoesAll, Leads, does_first, does_none}
use Rattle.rx_tasks.proofs.Turns.{leads_done}
use Rattle.rx_visit.specs.Siblings.{in_order}
use Rattle.rx_records.specs.declared.node.Node.{Node}
use Rattle.rx_records.specs.declared.records.Records.{Records}
use Rattle.rx_records.specs.declared.walk.Task.{Task}
use Rattle.rx_records.specs.Nodes.{own, own_index, own_text}
use Rattle.rx_records.specs.Records.{AreRecords, all_nodes, all_text, group_indices, nodes_of, past, before_all, records, with_links}
use Rattle.rx_records.specs.Made.{Adds, AddsNames, AddsNode, Finishes, Shortens, with_end, finishes, so_far, task_nodes, with_next}
use Rattle.rx_kinds.specs.Inner.{is_node, node_of}
use Rattle.rx_kinds.proofs.Inner.{node_is}
use Rattle.rx_records.proofs.Nodes.{nodes_alone, nodes_are, same_nodes}
use Rattle.rx_records.proofs.Rows.{past_all, past_bytes, past_groups, past_nodes, length-records, places-append, records-append, same_counts, text-append}

-- the node at an index past the first nodes
pub with_end_at : (next : ℕ) (front : List Node) (node : Node) (rest : List Node) → with_end (length front) next (front ++ node ∷ rest) ≡ front ++ with_next next node ∷ rest
unfolding with_end
with_end_at next [] node rest = refl
with_end_at next (first ∷ front) node rest = ap (λ nodes. first ∷ nodes) (with_end_at next front node rest)

pub with_end_set : (at next : ℕ) (nodes : List Node) (default : Node) → at < length nodes → with_end at next nodes ≡ set nodes at (with_next next (get_or nodes at default))
unfolding with_end
with_end_set at next [] default within = absurd (omega arith)
with_end_set zero next (node ∷ nodes) default within = refl
with_end_set (suc at) next (node ∷ nodes) default within = ap (λ rest. node ∷ rest) (with_end_set at next nodes default (omega arith))

pub with_end_past : (at next : ℕ) (nodes : List Node) → (at < length nodes → ⊥) → with_end at next nodes ≡ nodes
unfolding with_end
with_end_past at next [] past = refl
with_end_past zero next (node ∷ nodes) past = absurd (past (omega arith))
with_end_past (suc at) next (node ∷ nodes) past = ap (λ rest. node ∷ rest) (with_end_past at next nodes (λ within. past (omega arith)))

pub shortens_none : (made : Records) (ks : List Kind) → Shortens made made ks ks
shortens_none made ks = record { on = λ at last finishes. finishes }

pub shortens_then : {u v w : Records} {all middle left : List Kind} → Shortens u v all middle → Shortens v w middle left → Shortens u w all left
shortens_then first second = record { on = λ at last finishes. first.on at last (second.on at last finishes) }

pub shortens_by : {v w : Records} {all same left : List Kind} → all ≡ same → Shortens v w same left → Shortens v w all left
shortens_by {v} {w} {left = left} e shortens = subst (λ ks. Shortens v w ks left) (sym e) shortens

module _ (old new : Records) (ks : List Kind) (adds : Adds old new ks) where
  -- what is recorded after the nodes
  pub adds_so_far : so_far new ≡ past_all (so_far old) ks
  adds_so_far =
      let nodes = ap length adds.nodes ∙ length-append old.nodes.items (records (so_far old) ks) in
      let count = length-records (so_far old) ks in
      let groups = ap length adds.names.groups ∙ length-append old.groups.items (group_indices (so_far old) ks) in
      let texts = ap length adds.names.texts ∙ length-append (string_bytes old.texts) (all_text ks) in
      let past_n = past_nodes (so_far old) ks in
      let past_g = past_groups (so_far old) ks in
      let past_b = past_bytes (so_far old) ks in
      same_counts (omega arith) (omega arith) (omega arith)

  more_names : (js : List Kind) (last : Records) → AddsNames new last js → AddsNames old last (ks ++ js)
  more_names js last it = record {
    groups =
        it.groups ∙ ap (λ ns. ns ++ group_indices (so_far new) js) adds.names.groups ∙ append_assoc old.groups.items (group_indices (so_far old) ks) (group_indices (so_far new) js)
        ∙ ap (λ b. old.groups.items ++ (group_indices (so_far old) ks ++ group_indices b js)) adds_so_far ∙ ap (λ ns. old.groups.items ++ ns) (sym (places-append (so_far old) ks js));
    texts =
        it.texts ∙ ap (λ bytes. bytes ++ all_text js) adds.names.texts ∙ append_assoc (string_bytes old.texts) (all_text ks) (all_text js)
        ∙ ap (λ bytes. string_bytes old.texts ++ bytes) (sym (text-append ks js));
  }

  more_records : (js : List Kind) → new.nodes.items ++ records (so_far new) js ≡ old.nodes.items ++ records (so_far old) (ks ++ js)
  more_records js =
      ap (λ ns. ns ++ records (so_far new) js) adds.nodes ∙ append_assoc old.nodes.items (records (so_far old) ks) (records (so_far new) js)
      ∙ ap (λ b. old.nodes.items ++ (records (so_far old) ks ++ records b js)) adds_so_far ∙ ap (λ rs. old.nodes.items ++ rs) (sym (records-append (so_far old) ks js))

  -- Whatever comes after nodes that were added comes after all of them.
  pub adds_shorten : (js : List Kind) → Shortens old new (ks ++ js) js
  adds_shorten js = record {
    on = λ at last it. record {
      nodes =
          let nodes = ap length adds.nodes ∙ length-append old.nodes.items (records (so_far old) ks) in
          let counted = length-records (so_far old) ks in
          let both = length-append ks js in
          let size : length new.nodes.items + length js ≡ length old.nodes.items + length (ks ++ js) = omega arith in
          it.nodes ∙ ap (λ n. with_end at n (new.nodes.items ++ records (so_far new) js)) size ∙ ap (with_end at (length old.nodes.items + length (ks ++ js))) (more_records js);
      names = more_names js last it.names;
    };
  }

-- a node in which none stands
pub leaf_adds : (old new : Records) (k : Kind) → is_node k ≡ true → children k ≡ [] → AddsNode old new k 0 (length old.nodes.items + 1) → Adds old new (nodes_of k)
leaf_adds old new k node none adds =
    let alone = nodes_alone k node none in
    subst (Adds old new) (sym alone) (record {
      nodes =
          adds.nodes ∙ ap (λ n. old.nodes.items ++ with_links n (length old.nodes.items + 1) (own (so_far old) k) ∷ []) (sym (ap length none))
          ∙ ap (λ n. old.nodes.items ++ with_links (length (children k)) (length old.nodes.items + n) (own (so_far old) k) ∷ []) (sym (ap length alone));
      names = record {
        groups = adds.groups ∙ ap (λ ns. old.groups.items ++ ns) (sym (append-nil (own_index (so_far old) k)));
        texts = adds.texts ∙ ap (λ bytes. string_bytes old.texts ++ bytes) (sym (append-nil (own_text k)));
      };
    })

-- a node that was opened
module _ (old mid : Records) (k : Kind) (count next : ℕ) (adds : AddsNode old mid k count next) where
  pub opened_so_far : so_far mid ≡ past (so_far old) k
  opened_so_far =
      let nodes = ap length adds.nodes ∙ length-append old.nodes.items (with_links count next (own (so_far old) k) ∷ []) in
      let groups = ap length adds.groups ∙ length-append old.groups.items (own_index (so_far old) k) in
      let texts = ap length adds.texts ∙ length-append (string_bytes old.texts) (own_text k) in
      same_counts (omega arith) groups texts

-- A node was opened, and then all that stand in it were added and it was ended.
pub whole_adds : (old mid new : Records) (k : Kind) → is_node k ≡ true → AddsNode old mid k (length (children k)) 0
    → Finishes mid new (length old.nodes.items) (all_nodes (children k)) → Adds old new (nodes_of k)
whole_adds old mid new k node adds rest =
    let inner = all_nodes (children k) in
    let is = nodes_are k node in
    let open_record = with_links (length (children k)) 0 (own (so_far old) k) in
    let past_it = opened_so_far old mid k (length (children k)) 0 adds in
    let grown = ap length adds.nodes ∙ length-append old.nodes.items (open_record ∷ []) in
    let counted = ap length is in
    let size : length mid.nodes.items + length inner ≡ length old.nodes.items + length (nodes_of k) = omega arith in
    subst (Adds old new) (sym is) (record {
      nodes =
          rest.nodes ∙ ap (λ n. with_end (length old.nodes.items) n (mid.nodes.items ++ records (so_far mid) inner)) size
          ∙ ap (λ rs. with_end (length old.nodes.items) (length old.nodes.items + length (nodes_of k)) rs)
          (ap (λ ns. ns ++ records (so_far mid) inner) adds.nodes ∙ append_assoc old.nodes.items (open_record ∷ []) (records (so_far mid) inner)
          ∙ ap (λ b. old.nodes.items ++ open_record ∷ records b inner) past_it)
          ∙ with_end_at (length old.nodes.items + length (nodes_of k)) old.nodes.items open_record (records (past (so_far old) k) inner);
      names = record {
        groups =
            rest.names.groups ∙ ap (λ ns. ns ++ group_indices (so_far mid) inner) adds.groups ∙ append_assoc old.groups.items (own_index (so_far old) k) (group_indices (so_far mid) inner)
            ∙ ap (λ b. old.groups.items ++ (own_index (so_far old) k ++ group_indices b inner)) past_it;
        texts = rest.names.texts ∙ ap (λ bytes. bytes ++ all_text inner) adds.texts ∙ append_assoc (string_bytes old.texts) (own_text k) (all_text inner);
      };
    })

two_done : {first second : Task} {v w : Records} → DoesAll finishes v (first ∷ second ∷ []) w → (m : Records) × finishes first v m × finishes second m w
two_done (does_first v _ m _ _ one (does_first _ _ w _ _ two (does_none _))) = (m, one, two)

-- After some nodes one was opened: what stands in it and what is after it are left.
pub opened_leads : (task inner after : Task) (start old mid : Records) (k : Kind) (ks : List Kind) → is_node k ≡ true
    → Shortens start old (task_nodes task) (nodes_of k ++ ks) → AddsNode old mid k (length (children k)) 0
    → inner.of ≡ length old.nodes.items → in_order inner.rest ≡ children k → after.of ≡ task.of → task_nodes after ≡ ks
    → Leads finishes task start mid (inner ∷ after ∷ [])
opened_leads task inner after start old mid k ks node front adds at within same left = record {
  on = λ w all.
      let cut = two_done all in
      let m = cut.0 in
      let in_it : Finishes mid m (length old.nodes.items) (all_nodes (children k)) =
      subst (λ n. Finishes mid m n (all_nodes (children k))) at (subst (λ js. Finishes mid m inner.of (all_nodes js)) within cut.1) in
      let after_it : Finishes m w task.of ks = subst (λ n. Finishes m w n ks) same (subst (λ js. Finishes m w after.of js) left cut.2) in
      front.on task.of w ((adds_shorten old m (nodes_of k) (whole_adds old mid m k node adds in_it) ks).on task.of w after_it);
}

-- All nodes were added, and then the node in which they stand was ended.
pub with_end_finishes : (old new : Records) (at : ℕ) → new.nodes.items ≡ with_end at (length old.nodes.items) old.nodes.items
    → new.groups.items ≡ old.groups.items → string_bytes new.texts ≡ string_bytes old.texts → Finishes old new at []
with_end_finishes old new at nodes groups texts = record {
  nodes =
      let none : length old.nodes.items ≡ length old.nodes.items + 0 = omega arith in
      nodes ∙ ap (λ n. with_end at n old.nodes.items) none ∙ ap (λ ns. with_end at (length old.nodes.items + 0) ns) (sym (append-nil old.nodes.items));
  names = record { groups = groups ∙ sym (append-nil old.groups.items); texts = texts ∙ sym (append-nil (string_bytes old.texts)) };
}

-- A whole pattern was added to nothing.
pub whole_made : (old mid new : Records) (tree : Whole) (at : ℕ) (js : List Kind) → old.nodes.items ≡ [] → old.groups.items ≡ [] → string_bytes old.texts ≡ []
    → AddsNode old mid (pattern tree) (length (children (pattern tree))) 0 → at ≡ length old.nodes.items → js ≡ children (pattern tree) → Finishes mid new at (all_nodes js)
    → AreRecords tree new.nodes.items new.groups.items (string_bytes new.texts)
whole_made old mid new tree at js no_nodes no_groups no_texts opened first within rest =
    let k = pattern tree in
    let ks = nodes_of k in
    let in_it = subst (λ n. Finishes mid new n (all_nodes (children k))) first (subst (λ cs. Finishes mid new at (all_nodes cs)) within rest) in
    let adds = whole_adds old mid new k refl opened in_it in
    let nothing : so_far old ≡ before_all = same_counts (ap length no_nodes) (ap length no_groups) (ap length no_texts) in
    record {
      nodes_are = adds.nodes ∙ ap (λ ns. ns ++ records (so_far old) ks) no_nodes ∙ ap (λ b. records b ks) nothing;
      groups_are = adds.names.groups ∙ ap (λ ns. ns ++ group_indices (so_far old) ks) no_groups ∙ ap (λ b. group_indices b ks) nothing;
      texts_are = adds.names.texts ∙ ap (λ bytes. bytes ++ all_text ks) no_texts;
    }

-- After some nodes no node is left, and the node in which they stand was ended.
pub with_end_leads : (task : Task) (start old new : Records) (rest : List Kind) → rest ≡ [] → Shortens start old (task_nodes task) (all_nodes rest)
    → new.nodes.items ≡ with_end task.of (length old.nodes.items) old.nodes.items → new.groups.items ≡ old.groups.items → string_bytes new.texts ≡ string_bytes old.texts → Leads finishes task start new []
with_end_leads task start old new rest none front nodes groups texts =
    leads_done (front.on task.of new (subst (λ ks. Finishes old new task.of (all_nodes ks)) (sym none) (with_end_finishes old new task.of nodes groups texts)))

-- of a node, or of a term or an item of a class
pub same_as_first : (first k : Kind) → k ≡ node_of first → nodes_of k ≡ nodes_of first
same_as_first first k is = ap nodes_of is ∙ same_nodes first

pub is_one : (first k : Kind) → k ≡ node_of first → is_node k ≡ true
is_one first k is = ap is_node is ∙ node_is first

pub leaf_in_adds : (old new : Records) (first k : Kind) → k ≡ node_of first → children k ≡ [] → AddsNode old new k 0 (length old.nodes.items + 1) → Adds old new (nodes_of first)
leaf_in_adds old new first k is none adds = subst (Adds old new) (same_as_first first k is) (leaf_adds old new k (is_one first k is) none adds)

-- the first of some nodes, and those after it
pub first_cut : (rest : List Kind) (first k : Kind) (following : List Kind) → rest ≡ first ∷ following → k ≡ node_of first → all_nodes rest ≡ nodes_of k ++ all_nodes following
first_cut rest first k following cut is = ap all_nodes cut ∙ ap (λ ns. ns ++ all_nodes following) (sym (same_as_first first k is))

-- one node more
pub node_turn : (start old new : Records) (all rest : List Kind) (first : Kind) (following : List Kind) → rest ≡ first ∷ following
    → Shortens start old all (all_nodes rest) → Adds old new (nodes_of first) → Shortens start new all (all_nodes following)
node_turn start old new all rest first following cut front adds =
    shortens_then front (shortens_by (ap all_nodes cut) (adds_shorten old new (nodes_of first) adds (all_nodes following)))

-- how many nodes there are
pub fewer_follow : (rest : List Kind) (first : Kind) (following : List Kind) → rest ≡ first ∷ following → length (all_nodes following) ≤ length (all_nodes rest)
fewer_follow rest first following cut =
    let parts = ap (λ ks. length (all_nodes ks)) cut ∙ length-append (nodes_of first) (all_nodes following) in
    omega arith

pub first_length : (rest : List Kind) (first k : Kind) (following : List Kind) → rest ≡ first ∷ following → k ≡ node_of first
    → length (all_nodes rest) ≡ 1 + (length (all_nodes (children k)) + length (all_nodes following))
first_length rest first k following cut is =
    let parts = ap length (first_cut rest first k following cut is) ∙ length-append (nodes_of k) (all_nodes following) in
    let one = ap length (nodes_are k (is_one first k is)) in
    omega arith
