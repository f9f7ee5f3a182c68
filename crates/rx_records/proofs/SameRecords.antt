-- Nodes with the same records and the same texts are the same.
use Rattle.std.proofs.Common.{◌≡◌, refl, ap, sym, ◌∙◌, ℕ, zero, suc, ◌+◌, ◌≤◌, le_refl, arith, nat_eq, cond, Option, Some, None, is_some, List, [], ◌∷◌, ◌++◌, append_assoc, append-nil, length, length-append, map}
use Rattle.std.proofs.lemmas.Str.{encode_same, len_utf8_bounds, length-encode}
use lib.Utf8.{encode, encodes}
use Rattle.rx_ast.specs.Kinds.{Kind, pattern, children}
use Rattle.rx_ast.specs.Tree.{Whole}
use Rattle.rx_records.specs.declared.node.Node.{Node}
use Rattle.rx_kinds.specs.Inner.{node_of}
use Rattle.rx_kinds.proofs.Inner.{node_is}
use Rattle.rx_records.specs.Law.{name_in, value_in}
use Rattle.rx_records.specs.Nodes.{Before, bytes_of, optional_range, own, own_index, own_text}
use Rattle.rx_records.specs.Records.{AreRecords, all_nodes, all_text, nodes_of, past, before_all, records, with_links}
use Rattle.rx_records.proofs.Nodes.{nodes_are, same_nodes}
use Rattle.rx_records.proofs.OwnRecords.{names, unplaced}
use Rattle.rx_records.proofs.Rows.{counts, past_all, records-append, text-append}
use Rattle.rx_records.proofs.SameKinds.{same_kind}

-- fronts of one list that are equally long are one, and so is what comes after them
pub fronts : (xs ys ts us : List ℕ) → length xs ≡ length ys → xs ++ ts ≡ ys ++ us → (xs ≡ ys) × (ts ≡ us)
fronts [] [] ts us long e = (refl, e)
fronts [] (y ∷ ys) ts us long e = absurd (omega arith)
fronts (x ∷ xs) [] ts us long e = absurd (omega arith)
fronts (x ∷ xs) (y ∷ ys) ts us long e =
    let first : x ≡ y = cc in
    let rest : xs ++ ts ≡ ys ++ us = cc in
    let shorter : length xs ≡ length ys = omega arith in
    let it = fronts xs ys ts us shorter rest in
    (ap (λ z. z ∷ xs) first ∙ ap (λ zs. y ∷ zs) it.0, it.1)

-- the same place is the same length
pub lengths : (at : ℕ) (a b : Option (List ℕ)) → is_some a ≡ is_some b → optional_range at a ≡ optional_range at b → length (bytes_of a) ≡ length (bytes_of b)
lengths at None None has e = refl
lengths at None (Some b) has e = cc
lengths at (Some a) None has e = cc
lengths at (Some a) (Some b) has e = let ends = ap (λ r. r.end) e in omega arith

-- Different texts have different bytes, whatever numbers stand in them.
same_bytes : (a b : List ℕ) → encodes a ≡ encodes b → a ≡ b
same_bytes [] [] e = refl
same_bytes [] (d ∷ ds) e =
    let size = ap length e ∙ length-append (encode d) (encodes ds) in
    let some = length-encode d in
    let bounds = len_utf8_bounds d in
    absurd (omega arith)
same_bytes (c ∷ cs) [] e =
    let size = ap length (sym e) ∙ length-append (encode c) (encodes cs) in
    let some = length-encode c in
    let bounds = len_utf8_bounds c in
    absurd (omega arith)
same_bytes (c ∷ cs) (d ∷ ds) e =
    let parts = encode_same c d (encodes cs) (encodes ds) e in
    ap (λ x. x ∷ cs) parts.0 ∙ ap (λ xs. d ∷ xs) (same_bytes cs ds parts.1)

pub same_text : (a b : Option (List ℕ)) → is_some a ≡ is_some b → bytes_of a ≡ bytes_of b → a ≡ b
same_text None None has e = refl
same_text None (Some b) has e = cc
same_text (Some a) None has e = cc
same_text (Some a) (Some b) has e = ap (λ text. Some text) (same_bytes a b e)

abbrev pub entry : Before → Kind → Node
entry before k = with_links (length (children k)) (before.nodes + length (nodes_of k)) (own before k)

-- what two nodes have in common whose records are the same
record SameFront (before : Before) (k l : Kind) (ts us : List ℕ) : Type 0 where
  pub told : unplaced (own before k) ≡ unplaced (own before l)
  pub name : name_in k ≡ name_in l
  pub value : value_in k ≡ value_in l
  pub count : length (children k) ≡ length (children l)
  pub after : past before k ≡ past before l
  pub rest : ts ≡ us

same_front : (before : Before) (k l : Kind) (ts us : List ℕ) → entry before k ≡ entry before l → own_text k ++ ts ≡ own_text l ++ us → SameFront before k l ts us
same_front before k l ts us e texts =
    let of_k = names before k in
    let of_l = names before l in
    let has_name = sym of_k.has_name ∙ ap (λ (r : Node). r.has_name) e ∙ of_l.has_name in
    let has_value = sym of_k.has_value ∙ ap (λ (r : Node). r.has_property_value) e ∙ of_l.has_value in
    let at_name = sym of_k.name ∙ ap (λ (r : Node). r.name) e ∙ of_l.name in
    let name_length = lengths before.bytes (name_in k) (name_in l) has_name at_name in
    let at_value =
    sym of_k.value ∙ ap (λ (r : Node). r.property_value) e ∙ of_l.value ∙ ap (λ n. optional_range (before.bytes + n) (value_in l)) (sym name_length) in
    let value_length = lengths (before.bytes + length (bytes_of (name_in k))) (value_in k) (value_in l) has_value at_value in
    let both = ap (λ t. t ++ ts) (sym of_k.text) ∙ texts ∙ ap (λ t. t ++ us) of_l.text in
    let first =
    fronts (bytes_of (name_in k)) (bytes_of (name_in l)) (bytes_of (value_in k) ++ ts) (bytes_of (value_in l) ++ us) name_length
    (sym (append_assoc (bytes_of (name_in k)) (bytes_of (value_in k)) ts) ∙ both ∙ append_assoc (bytes_of (name_in l)) (bytes_of (value_in l)) us) in
    let second = fronts (bytes_of (value_in k)) (bytes_of (value_in l)) ts us value_length first.1 in
    let place = of_k.place ∙ ap (λ (r : Node). cond (nat_eq r.node_type 6) (before.nodes ∷ []) []) e ∙ sym of_l.place in
    let k_text = ap length of_k.text ∙ length-append (bytes_of (name_in k)) (bytes_of (value_in k)) in
    let l_text = ap length of_l.text ∙ length-append (bytes_of (name_in l)) (bytes_of (value_in l)) in
    let text_length : length (own_text k) ≡ length (own_text l) = omega arith in
    record {
      told = ap unplaced e;
      name = same_text (name_in k) (name_in l) has_name first.0;
      value = same_text (value_in k) (value_in l) has_value second.0;
      count = ap (λ (r : Node). r.children) e;
      after = ap (λ ns. counts (before.nodes + 1) (before.groups + length ns) (before.bytes + length (own_text k))) place
          ∙ ap (λ n. counts (before.nodes + 1) (before.groups + length (own_index before l)) (before.bytes + n)) text_length;
      rest = second.1;
    }

-- nodes that are told by what comes first of some records and texts, and what comes after them
record Same (as' bs : List Kind) (xs ys : List Node) (ts us : List ℕ) : Type 0 where
  pub kinds : map node_of as' ≡ map node_of bs
  pub nodes : xs ≡ ys
  pub texts : ts ≡ us

all_in : (ks : List Kind) → all_nodes (map node_of ks) ≡ all_nodes ks
all_in [] = refl
all_in (k ∷ ks) = ap (λ js. js ++ all_nodes (map node_of ks)) (same_nodes k) ∙ ap (λ js. nodes_of k ++ js) (all_in ks)

pub opened : (a : Kind) (as' : List Kind) → all_nodes (a ∷ as') ≡ node_of a ∷ (all_nodes (children (node_of a)) ++ all_nodes as')
opened a as' = ap (λ ks. ks ++ all_nodes as') (sym (same_nodes a) ∙ nodes_are (node_of a) (node_is a))

-- The records and texts of some nodes, put as those of the nodes in the first of them and of the others.
regroup : (before : Before) (ks js : List Kind) (xs : List Node) → records before (ks ++ js) ++ xs ≡ records before ks ++ (records (past_all before ks) js ++ xs)
regroup before ks js xs = ap (λ rs. rs ++ xs) (records-append before ks js) ∙ append_assoc (records before ks) (records (past_all before ks) js) xs

regroup_text : (ks js : List Kind) (ts : List ℕ) → all_text (ks ++ js) ++ ts ≡ all_text ks ++ (all_text js ++ ts)
regroup_text ks js ts = ap (λ t. t ++ ts) (text-append ks js) ∙ append_assoc (all_text ks) (all_text js) ts

-- `most` is at least as many as there are nodes.
same_siblings : (most : ℕ) (before : Before) (as' bs : List Kind) (xs ys : List Node) (ts us : List ℕ) → length (all_nodes as') ≤ most → length as' ≡ length bs
    → records before (all_nodes as') ++ xs ≡ records before (all_nodes bs) ++ ys
    → all_text (all_nodes as') ++ ts ≡ all_text (all_nodes bs) ++ us → Same as' bs xs ys ts us
same_siblings most before [] [] xs ys ts us within long nodes texts = record { kinds = refl; nodes = nodes; texts = texts }
same_siblings most before [] (b ∷ bs) xs ys ts us within long nodes texts = absurd (omega arith)
same_siblings most before (a ∷ as') [] xs ys ts us within long nodes texts = absurd (omega arith)
same_siblings zero before (a ∷ as') (b ∷ bs) xs ys ts us within long nodes texts =
    let size = ap length (opened a as') in
    absurd (omega arith)
same_siblings (suc most) before (a ∷ as') (b ∷ bs) xs ys ts us within long nodes texts =
    let k = node_of a in
    let l = node_of b in
    let in_k = all_nodes (children k) in
    let in_l = all_nodes (children l) in
    let all_records : entry before k ∷ (records (past before k) (in_k ++ all_nodes as') ++ xs) ≡ entry before l ∷ (records (past before l) (in_l ++ all_nodes bs) ++ ys) =
    ap (λ ks. records before ks ++ xs) (sym (opened a as')) ∙ nodes ∙ ap (λ ks. records before ks ++ ys) (opened b bs) in
    let one : entry before k ≡ entry before l = cc in
    let others : records (past before k) (in_k ++ all_nodes as') ++ xs ≡ records (past before l) (in_l ++ all_nodes bs) ++ ys = cc in
    let all_texts =
    sym (append_assoc (own_text k) (all_text (in_k ++ all_nodes as')) ts) ∙ ap (λ ks. all_text ks ++ ts) (sym (opened a as')) ∙ texts ∙ ap (λ ks. all_text ks ++ us) (opened b bs)
    ∙ append_assoc (own_text l) (all_text (in_l ++ all_nodes bs)) us in
    let front = same_front before k l _ _ one all_texts in
    let size = ap length (opened a as') ∙ ap suc (length-append in_k (all_nodes as')) in
    let inner =
    same_siblings most (past before k) (children k) (children l) _ _ _ _ (omega arith) front.count
    (sym (regroup (past before k) in_k (all_nodes as') xs) ∙ others ∙ ap (λ p. records p (in_l ++ all_nodes bs) ++ ys) (sym front.after) ∙ regroup (past before k) in_l (all_nodes bs) ys)
    (sym (regroup_text in_k (all_nodes as') ts) ∙ front.rest ∙ regroup_text in_l (all_nodes bs) us) in
    let same_in : in_k ≡ in_l = sym (all_in (children k)) ∙ ap all_nodes inner.kinds ∙ all_in (children l) in
    let after =
    same_siblings most (past_all (past before k) in_k) as' bs xs ys ts us (omega arith) (omega arith)
    (inner.nodes ∙ ap (λ ks. records (past_all (past before k) ks) (all_nodes bs) ++ ys) (sym same_in)) inner.texts in
    record {
      kinds = ap (λ j. j ∷ map node_of as') (same_kind before k l (node_is a) (node_is b) front.told front.name front.value inner.kinds) ∙ ap (λ ks. l ∷ ks) after.kinds;
      nodes = after.nodes;
      texts = after.texts;
    }

abbrev whole_in : List Kind → Whole → Whole
whole_in (pattern p ∷ ks) other = p
whole_in _ other = other

pub same_trees : (p q : Whole) (nodes : List Node) (groups others texts : List ℕ) → AreRecords p nodes groups texts → AreRecords q nodes others texts → p ≡ q
same_trees p q nodes groups others texts of_p of_q =
    let alone = append-nil (nodes_of (pattern p)) in
    let other = append-nil (nodes_of (pattern q)) in
    let same =
    same_siblings _ before_all (pattern p ∷ []) (pattern q ∷ []) [] [] [] [] (le_refl (length (all_nodes (pattern p ∷ [])))) refl
    (ap (λ ks. records before_all ks ++ []) alone ∙ ap (λ rs. rs ++ []) (sym of_p.nodes_are ∙ of_q.nodes_are) ∙ ap (λ ks. records before_all ks ++ []) (sym other))
    (ap (λ ks. all_text ks ++ []) alone ∙ ap (λ t. t ++ []) (sym of_p.texts_are ∙ of_q.texts_are) ∙ ap (λ ks. all_text ks ++ []) (sym other)) in
    ap (λ ks. whole_in ks p) same.kinds
