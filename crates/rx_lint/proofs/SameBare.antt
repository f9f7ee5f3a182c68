-- Nodes whose own numbers are equal, with those of all nodes in them, are equal but for spans and the kinds of characters.
use Rattle.std.proofs.Common.{◌≡◌, refl, ap, sym, ◌∙◌, ◌%◌, ℕ, nat_le, true, Option, Some, None, List, [], ◌∷◌, ◌++◌, map}
use Rattle.std.specs.Option.{option_map}
use Rattle.rx_base.specs.declared.span.Span.{Span}
use Rattle.rx_ast.specs.declared.leaf.Character.{Character}
use Rattle.rx_ast.specs.declared.leaf.Modifiers.{Modifiers}
use Rattle.rx_ast.specs.declared.leaf.UnicodePropertyEscape.{UnicodePropertyEscape}
use Rattle.rx_ast.specs.declared.class.ClassString.{ClassString}
use Rattle.rx_ast.specs.ClassTree as in_class
use Rattle.rx_ast.specs.ClassTree.{Member, Members, Class, no_member, member}
use Rattle.rx_ast.specs.Tree as ast
use Rattle.rx_ast.specs.Tree.{Leaf, Node, Nodes, Alternatives, leaf, quantified, group, no_node, node, no_alternative}
use Rattle.rx_ast.specs.Kinds as kinds
use Rattle.rx_ast.specs.Forest.{Forest, tree}
use Rattle.rx_ast.specs.Forget.{nowhere, three_bits, no_kind, forget_character, forget_string, forget_member, forget_members, forget_class, forget_leaf, forget_node, forget_nodes, forget_alternatives}
use Rattle.rx_kinds.specs.Codes.{boundary_code, class_escape_code, contents_code, look_code}
use Rattle.rx_kinds.proofs.SameCodes.{same_boundary, same_contents, same_escape, same_look}
use Rattle.rx_lint.specs.Nodes.{characters, strings, in_contents, contents, class, in_leaf, in_term, terms, alternatives, inside, trees}
use Rattle.rx_lint.specs.Numbers.{numbers, bit, max_numbers, name_numbers, optional_name_numbers, modifiers_numbers}
use Rattle.rx_lint.proofs.Bare.{bare_alternative, numbers_of_bare}
use Rattle.rx_lint.proofs.NumberRows.{rows, numbered, numbers_are_rows, one_forest, first, apart, same_bit, name_front, optional_name_front}

-- the first node of a forest, the nodes in it, and the nodes after it
label_of : (l m : List ℕ) (i j b c : Forest (List ℕ)) → tree l i b ≡ tree m j c → l ≡ m
label_of l m i j b c e = cc

inner_of : (l m : List ℕ) (i j b c : Forest (List ℕ)) → tree l i b ≡ tree m j c → i ≡ j
inner_of l m i j b c e = cc

after_of : (l m : List ℕ) (i j b c : Forest (List ℕ)) → tree l i b ≡ tree m j c → b ≡ c
after_of l m i j b c e = cc

same_name : (a b : List ℕ) → name_numbers a ≡ name_numbers b → a ≡ b
same_name a b e = (name_front a b [] [] (ap (λ ns. ns ++ []) e)).0

same_optional_name : (a b : Option (List ℕ)) → optional_name_numbers a ≡ optional_name_numbers b → a ≡ b
same_optional_name a b e = (optional_name_front a b [] [] (ap (λ ns. ns ++ []) e)).0

same_max : (a b : Option ℕ) → max_numbers a ≡ max_numbers b → a ≡ b
same_max None None e = refl
same_max None (Some b) e = cc
same_max (Some a) None e = cc
same_max (Some a) (Some b) e = let v : a ≡ b = cc in ap (λ n. Some n) v

same_modifiers : (a b : Option Modifiers) → modifiers_numbers a ≡ modifiers_numbers b → option_map three_bits a ≡ option_map three_bits b
same_modifiers None None e = refl
same_modifiers None (Some b) e = cc
same_modifiers (Some a) None e = cc
same_modifiers (Some a) (Some b) e =
    let v : a.enabling.0 % 8 ≡ b.enabling.0 % 8 = cc in
    let w : a.disabling.0 % 8 ≡ b.disabling.0 % 8 = cc in
    ap (λ n. Some (record { span = nowhere; enabling = record { 0 = n }; disabling = record { 0 = a.disabling.0 % 8 } })) v
    ∙ ap (λ n. Some (record { span = nowhere; enabling = record { 0 = b.enabling.0 % 8 }; disabling = record { 0 = n } })) w

same_character : (c d : Character) → c.value ≡ d.value → forget_character no_kind c ≡ forget_character no_kind d
same_character c d v = ap (λ v. record { span = nowhere; kind = no_kind c.kind; value = v }) v

same_characters : (cs ds : List Character) → numbered (characters cs) ≡ numbered (characters ds) → map (forget_character no_kind) cs ≡ map (forget_character no_kind) ds
same_characters [] [] e = refl
same_characters [] (d ∷ ds) e = cc
same_characters (c ∷ cs) [] e = cc
same_characters (c ∷ cs) (d ∷ ds) e =
    let l = label_of _ _ _ _ _ _ e in
    let v : c.value ≡ d.value = cc in
    ap (λ x. x ∷ map (forget_character no_kind) cs) (same_character c d v) ∙ ap (λ xs. forget_character no_kind d ∷ xs) (same_characters cs ds (after_of _ _ _ _ _ _ e))

same_strings : (ss ts : List ClassString) → numbered (strings ss) ≡ numbered (strings ts) → map (forget_string no_kind) ss ≡ map (forget_string no_kind) ts
same_strings [] [] e = refl
same_strings [] (t ∷ ts) e = cc
same_strings (s ∷ ss) [] e = cc
same_strings (s ∷ ss) (t ∷ ts) e =
    let l = label_of _ _ _ _ _ _ e in
    let v : bit s.strings ≡ bit t.strings = cc in
    let body = same_characters s.body t.body (inner_of _ _ _ _ _ _ e) in
    ap (λ v. record { span = nowhere; strings = v; body = map (forget_character no_kind) s.body } ∷ map (forget_string no_kind) ss) (same_bit _ _ v)
    ∙ ap (λ b. record { span = nowhere; strings = t.strings; body = b } ∷ map (forget_string no_kind) ss) body
    ∙ ap (λ xs. forget_string no_kind t ∷ xs) (same_strings ss ts (after_of _ _ _ _ _ _ e))

same_property : (p q : UnicodePropertyEscape) → bit p.negative ≡ bit q.negative → bit p.strings ≡ bit q.strings → name_numbers p.name ++ optional_name_numbers p.value ≡ name_numbers q.name ++ optional_name_numbers q.value →
    record p { span = nowhere } ≡ record q { span = nowhere }
same_property p q v w e =
    let name = name_front p.name q.name _ _ e in
    let value = same_optional_name p.value q.value name.1 in
    ap (λ v. record { span = nowhere; negative = v; strings = p.strings; name = p.name; value = p.value }) (same_bit _ _ v)
    ∙ ap (λ v. record { span = nowhere; negative = q.negative; strings = v; name = p.name; value = p.value }) (same_bit _ _ w)
    ∙ ap (λ v. record { span = nowhere; negative = q.negative; strings = q.strings; name = v; value = p.value }) name.0
    ∙ ap (λ v. record { span = nowhere; negative = q.negative; strings = q.strings; name = q.name; value = v }) value

mutual
  same_member : (m n : Member) → numbered (in_contents m) ≡ numbered (in_contents n) → forget_member no_kind m ≡ forget_member no_kind n
  same_member (in_class.range r) (in_class.range q) e =
      let i = inner_of _ _ _ _ _ _ e in
      let l = label_of _ _ _ _ _ _ i in
      let j = label_of _ _ _ _ _ _ (after_of _ _ _ _ _ _ i) in
      let v : r.min.value ≡ q.min.value = cc in
      let w : r.max.value ≡ q.max.value = cc in
      ap (λ c. in_class.range (record { span = nowhere; min = c; max = forget_character no_kind r.max })) (same_character r.min q.min v)
      ∙ ap (λ c. in_class.range (record { span = nowhere; min = forget_character no_kind q.min; max = c })) (same_character r.max q.max w)
  same_member (in_class.escape r) (in_class.escape q) e =
      let l = label_of _ _ _ _ _ _ e in
      let v : class_escape_code r.kind ≡ class_escape_code q.kind = cc in
      ap (λ v. in_class.escape (record { span = nowhere; kind = v })) (same_escape _ _ v)
  same_member (in_class.property r) (in_class.property q) e =
      let l = label_of _ _ _ _ _ _ e in
      let v : bit r.negative ≡ bit q.negative = cc in
      let w : bit r.strings ≡ bit q.strings = cc in
      let x : name_numbers r.name ++ optional_name_numbers r.value ≡ name_numbers q.name ++ optional_name_numbers q.value = cc in
      ap in_class.property (same_property r q v w x)
  same_member (in_class.character r) (in_class.character q) e =
      let l = label_of _ _ _ _ _ _ e in
      let v : r.value ≡ q.value = cc in
      ap in_class.character (same_character r q v)
  same_member (in_class.nested (in_class.class s negative may kind ms)) (in_class.nested (in_class.class t positive might sort ns)) e =
      ap in_class.nested (same_class (in_class.class s negative may kind ms) (in_class.class t positive might sort ns) e)
  same_member (in_class.strings r) (in_class.strings q) e =
      let l = label_of _ _ _ _ _ _ e in
      let v : bit r.strings ≡ bit q.strings = cc in
      let all = same_strings r.body q.body (inner_of _ _ _ _ _ _ e) in
      ap (λ v. in_class.strings (record { span = nowhere; strings = v; body = map (forget_string no_kind) r.body })) (same_bit _ _ v) ∙ ap (λ v. in_class.strings (record { span = nowhere; strings = q.strings; body = v })) all
  same_member (in_class.nested (in_class.class s negative may kind ms)) n e = absurd (apart _ _ refl (label_of _ _ _ _ _ _ e))
  same_member m (in_class.nested (in_class.class s negative may kind ms)) e = absurd (apart _ _ refl (label_of _ _ _ _ _ _ e))
  same_member m n e = absurd (apart _ _ refl (label_of _ _ _ _ _ _ e))

  same_members : (ms ns : Members) → numbered (contents ms) ≡ numbered (contents ns) → forget_members no_kind ms ≡ forget_members no_kind ns
  same_members no_member no_member e = refl
  same_members no_member (member n ns) e = cc
  same_members (member m ms) no_member e = cc
  same_members (member m ms) (member n ns) e =
      ap (λ x. member x (forget_members no_kind ms)) (same_member m n (inner_of _ _ _ _ _ _ e)) ∙ ap (member (forget_member no_kind n)) (same_members ms ns (after_of _ _ _ _ _ _ e))

  same_class : (c d : Class) → numbered (class c) ≡ numbered (class d) → forget_class no_kind c ≡ forget_class no_kind d
  same_class (in_class.class s negative may kind ms) (in_class.class t positive might sort ns) e =
      let l = label_of _ _ _ _ _ _ e in
      let v : bit negative ≡ bit positive = cc in
      let w : bit may ≡ bit might = cc in
      let x : contents_code kind ≡ contents_code sort = cc in
      let all = same_members ms ns (inner_of _ _ _ _ _ _ e) in
      ap (λ v. in_class.class nowhere v may kind (forget_members no_kind ms)) (same_bit _ _ v) ∙ ap (λ v. in_class.class nowhere positive v kind (forget_members no_kind ms)) (same_bit _ _ w)
      ∙ ap (λ v. in_class.class nowhere positive might v (forget_members no_kind ms)) (same_contents _ _ x) ∙ ap (λ v. in_class.class nowhere positive might sort v) all

same_leaf : (l m : Leaf) → numbered (in_leaf l) ≡ numbered (in_leaf m) → forget_leaf no_kind l ≡ forget_leaf no_kind m
same_leaf (ast.boundary r) (ast.boundary q) e =
    let l = label_of _ _ _ _ _ _ e in
    let v : boundary_code r.kind ≡ boundary_code q.kind = cc in
    ap (λ v. ast.boundary (record { span = nowhere; kind = v })) (same_boundary _ _ v)
same_leaf (ast.character r) (ast.character q) e =
    let l = label_of _ _ _ _ _ _ e in
    let v : r.value ≡ q.value = cc in
    ap ast.character (same_character r q v)
same_leaf (ast.dot r) (ast.dot q) e = refl
same_leaf (ast.class_escape r) (ast.class_escape q) e =
    let l = label_of _ _ _ _ _ _ e in
    let v : class_escape_code r.kind ≡ class_escape_code q.kind = cc in
    ap (λ v. ast.class_escape (record { span = nowhere; kind = v })) (same_escape _ _ v)
same_leaf (ast.property r) (ast.property q) e =
    let l = label_of _ _ _ _ _ _ e in
    let v : bit r.negative ≡ bit q.negative = cc in
    let w : bit r.strings ≡ bit q.strings = cc in
    let x : name_numbers r.name ++ optional_name_numbers r.value ≡ name_numbers q.name ++ optional_name_numbers q.value = cc in
    ap ast.property (same_property r q v w x)
same_leaf (ast.class c) (ast.class d) e = ap ast.class (same_class c d e)
same_leaf (ast.indexed r) (ast.indexed q) e =
    let l = label_of _ _ _ _ _ _ e in
    let v : r.index ≡ q.index = cc in
    ap (λ v. ast.indexed (record { span = nowhere; index = v })) v
same_leaf (ast.named r) (ast.named q) e =
    let l = label_of _ _ _ _ _ _ e in
    let v : name_numbers r.name ≡ name_numbers q.name = cc in
    ap (λ v. ast.named (record { span = nowhere; name = v })) (same_name _ _ v)
same_leaf (ast.class (in_class.class s negative may kind ms)) m e = absurd (apart _ _ refl (label_of _ _ _ _ _ _ e))
same_leaf l (ast.class (in_class.class s negative may kind ms)) e = absurd (apart _ _ refl (label_of _ _ _ _ _ _ e))
same_leaf l m e = absurd (apart _ _ refl (label_of _ _ _ _ _ _ e))

-- the first number of a term that holds no other is 8 or more, that of one that does less
leaf_first : (l : Leaf) (ns : List ℕ) (i b : Forest (List ℕ)) → numbered (in_leaf l) ≡ tree ns i b → nat_le 8 (first ns) ≡ true
leaf_first (ast.boundary r) ns i b e = ap (λ ns. nat_le 8 (first ns)) (sym (label_of _ _ _ _ _ _ e))
leaf_first (ast.character r) ns i b e = ap (λ ns. nat_le 8 (first ns)) (sym (label_of _ _ _ _ _ _ e))
leaf_first (ast.dot r) ns i b e = ap (λ ns. nat_le 8 (first ns)) (sym (label_of _ _ _ _ _ _ e))
leaf_first (ast.class_escape r) ns i b e = ap (λ ns. nat_le 8 (first ns)) (sym (label_of _ _ _ _ _ _ e))
leaf_first (ast.property r) ns i b e = ap (λ ns. nat_le 8 (first ns)) (sym (label_of _ _ _ _ _ _ e))
leaf_first (ast.class (in_class.class s negative may kind ms)) ns i b e = ap (λ ns. nat_le 8 (first ns)) (sym (label_of _ _ _ _ _ _ e))
leaf_first (ast.indexed r) ns i b e = ap (λ ns. nat_le 8 (first ns)) (sym (label_of _ _ _ _ _ _ e))
leaf_first (ast.named r) ns i b e = ap (λ ns. nat_le 8 (first ns)) (sym (label_of _ _ _ _ _ _ e))

mutual
  same_node : (m n : Node) → numbered (in_term m) ≡ numbered (in_term n) → forget_node no_kind m ≡ forget_node no_kind n
  same_node (leaf l) (leaf m) e = ap leaf (same_leaf l m e)
  same_node (quantified s min max greedy m) (quantified t least most eager n) e =
      let l = label_of _ _ _ _ _ _ e in
      let v : min ≡ least = cc in
      let w : max_numbers max ≡ max_numbers most = cc in
      let x : bit greedy ≡ bit eager = cc in
      let body = same_node m n (inner_of _ _ _ _ _ _ (inner_of _ _ _ _ _ _ e)) in
      ap (λ v. quantified nowhere v max greedy (forget_node no_kind m)) v ∙ ap (λ v. quantified nowhere least v greedy (forget_node no_kind m)) (same_max _ _ w)
      ∙ ap (λ v. quantified nowhere least most v (forget_node no_kind m)) (same_bit _ _ x) ∙ ap (λ v. quantified nowhere least most eager v) body
  same_node (group s (ast.capturing o) d more) (group t (ast.capturing p) f others) e =
      let l = label_of _ _ _ _ _ _ e in
      let v : optional_name_numbers o ≡ optional_name_numbers p = cc in
      let all = same_alternatives more others (inner_of _ _ _ _ _ _ (inner_of _ _ _ _ _ _ e)) in
      ap (λ o. group nowhere (ast.capturing o) nowhere (forget_alternatives no_kind more)) (same_optional_name _ _ v) ∙ ap (λ x. group nowhere (ast.capturing p) nowhere x) all
  same_node (group s (ast.ignoring o) d more) (group t (ast.ignoring p) f others) e =
      let l = label_of _ _ _ _ _ _ e in
      let v : modifiers_numbers o ≡ modifiers_numbers p = cc in
      let all = same_alternatives more others (inner_of _ _ _ _ _ _ (inner_of _ _ _ _ _ _ e)) in
      ap (λ o. group nowhere (ast.ignoring o) nowhere (forget_alternatives no_kind more)) (same_modifiers _ _ v) ∙ ap (λ x. group nowhere (ast.ignoring (option_map three_bits p)) nowhere x) all
  same_node (group s (ast.looking o) d more) (group t (ast.looking p) f others) e =
      let l = label_of _ _ _ _ _ _ e in
      let v : look_code o ≡ look_code p = cc in
      let all = same_alternatives more others (inner_of _ _ _ _ _ _ (inner_of _ _ _ _ _ _ e)) in
      ap (λ o. group nowhere (ast.looking o) nowhere (forget_alternatives no_kind more)) (same_look _ _ v) ∙ ap (λ x. group nowhere (ast.looking p) nowhere x) all
  same_node (leaf l) (quantified t least most eager n) e = let f = leaf_first l _ _ _ e in cc
  same_node (leaf l) (group t (ast.capturing p) f others) e = let f = leaf_first l _ _ _ e in cc
  same_node (leaf l) (group t (ast.ignoring p) f others) e = let f = leaf_first l _ _ _ e in cc
  same_node (leaf l) (group t (ast.looking p) f others) e = let f = leaf_first l _ _ _ e in cc
  same_node (quantified t least most eager n) (leaf l) e = let f = leaf_first l _ _ _ (sym e) in cc
  same_node (group t (ast.capturing p) f others) (leaf l) e = let f = leaf_first l _ _ _ (sym e) in cc
  same_node (group t (ast.ignoring p) f others) (leaf l) e = let f = leaf_first l _ _ _ (sym e) in cc
  same_node (group t (ast.looking p) f others) (leaf l) e = let f = leaf_first l _ _ _ (sym e) in cc
  same_node (group t (ast.capturing p) f others) (quantified s min max greedy n) e = absurd (apart _ _ refl (label_of _ _ _ _ _ _ e))
  same_node (group t (ast.ignoring p) f others) (quantified s min max greedy n) e = absurd (apart _ _ refl (label_of _ _ _ _ _ _ e))
  same_node (group t (ast.looking p) f others) (quantified s min max greedy n) e = absurd (apart _ _ refl (label_of _ _ _ _ _ _ e))
  same_node (quantified s min max greedy n) (group t (ast.capturing p) f others) e = absurd (apart _ _ refl (label_of _ _ _ _ _ _ e))
  same_node (quantified s min max greedy n) (group t (ast.ignoring p) f others) e = absurd (apart _ _ refl (label_of _ _ _ _ _ _ e))
  same_node (quantified s min max greedy n) (group t (ast.looking p) f others) e = absurd (apart _ _ refl (label_of _ _ _ _ _ _ e))
  same_node (group t (ast.capturing p) f others) (group s (ast.ignoring o) d more) e = absurd (apart _ _ refl (label_of _ _ _ _ _ _ e))
  same_node (group t (ast.capturing p) f others) (group s (ast.looking o) d more) e = absurd (apart _ _ refl (label_of _ _ _ _ _ _ e))
  same_node (group t (ast.ignoring p) f others) (group s (ast.capturing o) d more) e = absurd (apart _ _ refl (label_of _ _ _ _ _ _ e))
  same_node (group t (ast.ignoring p) f others) (group s (ast.looking o) d more) e = absurd (apart _ _ refl (label_of _ _ _ _ _ _ e))
  same_node (group t (ast.looking p) f others) (group s (ast.capturing o) d more) e = absurd (apart _ _ refl (label_of _ _ _ _ _ _ e))
  same_node (group t (ast.looking p) f others) (group s (ast.ignoring o) d more) e = absurd (apart _ _ refl (label_of _ _ _ _ _ _ e))

  same_nodes : (ms ns : Nodes) → numbered (terms ms) ≡ numbered (terms ns) → forget_nodes no_kind ms ≡ forget_nodes no_kind ns
  same_nodes no_node no_node e = refl
  same_nodes no_node (node n ns) e = cc
  same_nodes (node m ms) no_node e = cc
  same_nodes (node m ms) (node n ns) e =
      ap (λ x. node x (forget_nodes no_kind ms)) (same_node m n (inner_of _ _ _ _ _ _ e)) ∙ ap (node (forget_node no_kind n)) (same_nodes ms ns (after_of _ _ _ _ _ _ e))

  same_alternatives : (more others : Alternatives) → numbered (alternatives more) ≡ numbered (alternatives others) → forget_alternatives no_kind more ≡ forget_alternatives no_kind others
  same_alternatives no_alternative no_alternative e = refl
  same_alternatives no_alternative (ast.alternative s ns more) e = cc
  same_alternatives (ast.alternative s ns more) no_alternative e = cc
  same_alternatives (ast.alternative s ms more) (ast.alternative t ns others) e =
      ap (λ x. ast.alternative nowhere x (forget_alternatives no_kind more)) (same_nodes ms ns (inner_of _ _ _ _ _ _ e)) ∙ ap (ast.alternative nowhere (forget_nodes no_kind ns)) (same_alternatives more others (after_of _ _ _ _ _ _ e))

-- Alternatives of equal numbers have one `bare`, and the converse.
pub equal_bare : (ns ms : Nodes) → numbers (kinds.alternative (nowhere, ns)) ≡ numbers (kinds.alternative (nowhere, ms)) → forget_nodes no_kind ns ≡ forget_nodes no_kind ms
unfolding inside
equal_bare ns ms e = same_nodes ns ms (inner_of _ _ _ _ _ _ (one_forest (kinds.alternative (nowhere, ns)) (kinds.alternative (nowhere, ms)) e))

pub bare_numbers : (s : Span) (ns : Nodes) → numbers (kinds.alternative (s, ns)) ≡ numbers (kinds.alternative (nowhere, forget_nodes no_kind ns))
bare_numbers s ns = numbers_are_rows (kinds.alternative (s, ns)) ∙ ap rows (sym (numbers_of_bare (trees (kinds.alternative (s, ns) ∷ [])))) ∙ ap (λ f. rows (numbered f)) (sym (bare_alternative s ns)) ∙ sym (numbers_are_rows (kinds.alternative (nowhere, forget_nodes no_kind ns)))

pub equal_numbers : (s t : Span) (ns ms : Nodes) → forget_nodes no_kind ns ≡ forget_nodes no_kind ms → numbers (kinds.alternative (s, ns)) ≡ numbers (kinds.alternative (t, ms))
equal_numbers s t ns ms e = bare_numbers s ns ∙ ap (λ ns. numbers (kinds.alternative (nowhere, ns))) e ∙ sym (bare_numbers t ms)
