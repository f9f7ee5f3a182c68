-- The records of nodes that come one after the other.
use Rattle.std.proofs.Common.{◌≡◌, refl, ap, sym, ◌∙◌, ℕ, suc, ◌+◌, arith, List, [], ◌∷◌, ◌++◌, append_assoc, length, length-append}
use Rattle.std.proofs.lemmas.List.Concat.{flat_map-append}
use Rattle.rx_ast.specs.Kinds.{Kind, children}
use Rattle.rx_records.specs.Nodes.{Before, own, own_index, own_text}
use Rattle.rx_records.specs.Records.{all_text, group_indices, nodes_of, past, records, with_links}

-- after nodes that come one after the other
abbrev pub past_all : Before → List Kind → Before
past_all before [] = before
past_all before (k ∷ ks) = past_all (past before k) ks

abbrev pub counts : ℕ → ℕ → ℕ → Before
counts nodes groups bytes = record { nodes = nodes; groups = groups; bytes = bytes }

pub same_counts : {a b : Before} → a.nodes ≡ b.nodes → a.groups ≡ b.groups → a.bytes ≡ b.bytes → a ≡ b
same_counts {a} {b} nodes groups bytes =
    ap (λ n. counts n a.groups a.bytes) nodes ∙ ap (λ n. counts b.nodes n a.bytes) groups ∙ ap (λ n. counts b.nodes b.groups n) bytes

pub past_nodes : (before : Before) (ks : List Kind) → (past_all before ks).nodes ≡ before.nodes + length ks
past_nodes before [] = omega arith
past_nodes before (k ∷ ks) = let e = past_nodes (past before k) ks in omega arith

pub past_groups : (before : Before) (ks : List Kind) → (past_all before ks).groups ≡ before.groups + length (group_indices before ks)
past_groups before [] = omega arith
past_groups before (k ∷ ks) =
    let e = past_groups (past before k) ks in
    let all = length-append (own_index before k) (group_indices (past before k) ks) in
    omega arith

pub past_bytes : (before : Before) (ks : List Kind) → (past_all before ks).bytes ≡ before.bytes + length (all_text ks)
past_bytes before [] = omega arith
past_bytes before (k ∷ ks) =
    let e = past_bytes (past before k) ks in
    let all = length-append (own_text k) (all_text ks) in
    omega arith

pub length-records : (before : Before) (ks : List Kind) → length (records before ks) ≡ length ks
length-records before [] = refl
length-records before (k ∷ ks) = ap suc (length-records (past before k) ks)

pub records-append : (before : Before) (ks js : List Kind) → records before (ks ++ js) ≡ records before ks ++ records (past_all before ks) js
records-append before [] js = refl
records-append before (k ∷ ks) js =
    ap (λ rs. with_links (length (children k)) (before.nodes + length (nodes_of k)) (own before k) ∷ rs) (records-append (past before k) ks js)

pub places-append : (before : Before) (ks js : List Kind) → group_indices before (ks ++ js) ≡ group_indices before ks ++ group_indices (past_all before ks) js
places-append before [] js = refl
places-append before (k ∷ ks) js =
    ap (λ ns. own_index before k ++ ns) (places-append (past before k) ks js)
    ∙ sym (append_assoc (own_index before k) (group_indices (past before k) ks) (group_indices (past_all (past before k) ks) js))

pub text-append : (ks js : List Kind) → all_text (ks ++ js) ≡ all_text ks ++ all_text js
text-append ks js = flat_map-append own_text ks js
