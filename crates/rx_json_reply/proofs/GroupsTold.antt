-- The groups that are told of a pattern are those of its tree.
use Rattle.std.proofs.Common.{◌≡◌, refl, ap, ap₂, sym, ◌∙◌, ℕ, ◌+◌, Bool, true, false, Some, None, List, [], ◌∷◌, ◌++◌, append_assoc, length, length-append, map, arith}
use Rattle.std.specs.Prelude.{if◌then◌else◌}
use Rattle.rx_base.specs.Texts.{is_among}
use Rattle.rx_base.specs.declared.span.Span.{Span}
use Rattle.rx_ast.specs.declared.class.ClassString.{ClassString}
use Rattle.rx_ast.specs.declared.leaf.Character.{Character}
use Rattle.rx_ast.specs.declared.term.Pattern.{Pattern}
use Rattle.rx_ast.specs.ClassTree as in_class
use Rattle.rx_ast.specs.ClassTree.{Member, Members, Class, no_member, member}
use Rattle.rx_ast.specs.Kinds.{Kind, pattern, character, strings_order, member_order, members_order, class_order, node_order, nodes_order, alternatives_order, order}
use Rattle.rx_ast.specs.Tree as tree
use Rattle.rx_ast.specs.Tree.{Node, Nodes, Alternatives, leaf, quantified, group, no_node, node, no_alternative, alternative, mirror, mirror_disjunction}
use Rattle.rx_visit.specs.Names.{name_of}
use Rattle.rx_model.specs.Trees.Names as model
use Rattle.rx_model.specs.Trees.Names.{node_groups, nodes_groups, alternatives_groups, node_names, nodes_names, alternatives_names, groups, names}
use Rattle.rx_json.specs.Groups.{group_of, groups_of, names_of, number_after, once_after, one_name}
use Rattle.rx_json.specs.Values.{Field}

-- Of some nodes so many groups are told, whatever the number of the first, and these names.
record Told (ks : List Kind) (count : ℕ) (all : List (List ℕ)) : Type 0 where
  its_count : (place : Span → List Field) (n : ℕ) → length (groups_of place n ks) ≡ count
  its_names : names_of ks ≡ all

names_then : (ks js : List Kind) → names_of (ks ++ js) ≡ names_of ks ++ names_of js
names_then [] js = refl
names_then (k ∷ ks) js = ap (λ (ns : List (List ℕ)). one_name (name_of k) ++ ns) (names_then ks js) ∙ sym (append_assoc (one_name (name_of k)) (names_of ks) (names_of js))

count_then : (place : Span → List Field) (n : ℕ) (ks js : List Kind) (count : ℕ) → ((m : ℕ) → length (groups_of place m js) ≡ count)
    → length (groups_of place n (ks ++ js)) ≡ length (groups_of place n ks) + count
count_then place n [] js count others = omega (arith, others n)
count_then place n (k ∷ ks) js count others =
    omega (arith, length-append (group_of place n k) (groups_of place (number_after n k) (ks ++ js)), length-append (group_of place n k) (groups_of place (number_after n k) ks), count_then place (number_after n k) ks js count others)

told_then : (ks js : List Kind) (some more : ℕ) (ns ms : List (List ℕ)) → Told ks some ns → Told js more ms → Told (ks ++ js) (some + more) (ns ++ ms)
told_then ks js some more ns ms first second = record {
  its_count = λ place n. count_then place n ks js more (second.its_count place) ∙ ap (λ (k : ℕ). k + more) (first.its_count place n);
  its_names = names_then ks js ∙ ap₂ (λ (a b : List (List ℕ)). a ++ b) first.its_names second.its_names;
}

none_told : (ks js : List Kind) → Told ks 0 [] → Told js 0 [] → Told (ks ++ js) 0 []
none_told ks js first second = told_then ks js 0 0 [] [] first second

no_character : (cs : List Character) → Told (map character cs) 0 []
no_character [] = record { its_count = λ place n. refl; its_names = refl }
no_character (c ∷ cs) = let rest = no_character cs in record { its_count = λ place n. rest.its_count place n; its_names = rest.its_names }

no_string : (ss : List ClassString) → Told (strings_order ss) 0 []
no_string [] = record { its_count = λ place n. refl; its_names = refl }
no_string (s ∷ ss) =
    let rest = none_told (map character s.body) (strings_order ss) (no_character s.body) (no_string ss) in
    record { its_count = λ place n. rest.its_count place n; its_names = rest.its_names }

mutual
  no_member_told : (m : Member) → Told (member_order m) 0 []
  no_member_told (in_class.range r) = record { its_count = λ place n. refl; its_names = refl }
  no_member_told (in_class.escape e) = record { its_count = λ place n. refl; its_names = refl }
  no_member_told (in_class.property p) = record { its_count = λ place n. refl; its_names = refl }
  no_member_told (in_class.character c) = record { its_count = λ place n. refl; its_names = refl }
  no_member_told (in_class.nested c) = no_class_told c
  no_member_told (in_class.strings d) = let rest = no_string d.body in record { its_count = λ place n. rest.its_count place n; its_names = rest.its_names }

  no_members_told : (ms : Members) → Told (members_order ms) 0 []
  no_members_told no_member = record { its_count = λ place n. refl; its_names = refl }
  no_members_told (member m ms) =
      let rest = none_told (member_order m) (members_order ms) (no_member_told m) (no_members_told ms) in
      record { its_count = λ place n. rest.its_count place n; its_names = rest.its_names }

  no_class_told : (c : Class) → Told (class_order c) 0 []
  no_class_told (in_class.class s negative may_have_strings kind ms) = let rest = no_members_told ms in record { its_count = λ place n. rest.its_count place n; its_names = rest.its_names }

mutual
  in_node : (n : Node) → Told (node_order n) (node_groups n) (node_names n)
  in_node (leaf (tree.boundary b)) = record { its_count = λ place n. refl; its_names = refl }
  in_node (leaf (tree.character c)) = record { its_count = λ place n. refl; its_names = refl }
  in_node (leaf (tree.dot d)) = record { its_count = λ place n. refl; its_names = refl }
  in_node (leaf (tree.class_escape e)) = record { its_count = λ place n. refl; its_names = refl }
  in_node (leaf (tree.property p)) = record { its_count = λ place n. refl; its_names = refl }
  in_node (leaf (tree.class c)) = no_class_told c
  in_node (leaf (tree.indexed r)) = record { its_count = λ place n. refl; its_names = refl }
  in_node (leaf (tree.named r)) = record { its_count = λ place n. refl; its_names = refl }
  in_node (quantified s min max greedy body) = let rest = in_node body in record { its_count = λ place n. rest.its_count place n; its_names = rest.its_names }
  in_node (group s (tree.capturing None) d more) = let rest = in_each more in record { its_count = λ place n. omega (arith, rest.its_count place (n + 1)); its_names = rest.its_names }
  in_node (group s (tree.capturing (Some name)) d more) =
      let rest = in_each more in record { its_count = λ place n. omega (arith, rest.its_count place (n + 1)); its_names = ap (λ (ns : List (List ℕ)). name ∷ ns) rest.its_names }
  in_node (group s (tree.ignoring m) d more) = let rest = in_each more in record { its_count = λ place n. omega (arith, rest.its_count place n); its_names = rest.its_names }
  in_node (group s (tree.looking kind) d more) = let rest = in_each more in record { its_count = λ place n. omega (arith, rest.its_count place n); its_names = rest.its_names }

  in_nodes : (ns : Nodes) → Told (nodes_order ns) (nodes_groups ns) (nodes_names ns)
  in_nodes no_node = record { its_count = λ place n. refl; its_names = refl }
  in_nodes (node n ns) =
      let rest = told_then (node_order n) (nodes_order ns) (node_groups n) (nodes_groups ns) (node_names n) (nodes_names ns) (in_node n) (in_nodes ns) in
      record { its_count = λ place m. rest.its_count place m; its_names = rest.its_names }

  in_each : (more : Alternatives) → Told (alternatives_order more) (alternatives_groups more) (alternatives_names more)
  in_each no_alternative = record { its_count = λ place n. refl; its_names = refl }
  in_each (alternative s ns more) =
      let rest = told_then (nodes_order ns) (alternatives_order more) (nodes_groups ns) (alternatives_groups more) (nodes_names ns) (alternatives_names more) (in_nodes ns) (in_each more) in
      record { its_count = λ place m. rest.its_count place m; its_names = rest.its_names }

-- each name once, in the words of both
once_is : (seen ns : List (List ℕ)) → once_after seen ns ≡ model.once_after seen ns
once_is seen [] = refl
once_is seen (name ∷ ns) = by_test (is_among seen name) (once_is seen ns) (once_is (name ∷ seen) ns)
  where
    by_test : {xs ys zs ws : List (List ℕ)} (b : Bool) → xs ≡ zs → ys ≡ ws → (if b then xs else name ∷ ys) ≡ (if b then zs else name ∷ ws)
    by_test true old new = old
    by_test false old new = ap (λ (ns : List (List ℕ)). name ∷ ns) new

pub count_is : (place : Span → List Field) (p : Pattern) → length (groups_of place 1 (order (pattern (mirror p)))) ≡ groups p
unfolding order
count_is place p = (in_each (mirror_disjunction p.body).1).its_count place 1

pub names_are : (p : Pattern) → once_after [] (names_of (order (pattern (mirror p)))) ≡ names p
unfolding order
names_are p = ap (once_after []) (in_each (mirror_disjunction p.body).1).its_names ∙ once_is [] (alternatives_names (mirror_disjunction p.body).1)
