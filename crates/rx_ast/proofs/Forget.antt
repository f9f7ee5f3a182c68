-- Forgetting twice is forgetting once.
use Rattle.std.proofs.Common.{◌≡◌, refl, ap, sym, ◌∙◌, ℕ, ◌%◌, Some, None, List, [], ◌∷◌, map}
use Rattle.std.proofs.Math.Nat.{mod-mod}
use Rattle.rx_ast.specs.declared.leaf.Character.{Character}
use Rattle.rx_ast.specs.declared.leaf.CharacterKind.{CharacterKind}
use Rattle.rx_ast.specs.declared.leaf.Modifiers.{Modifiers}
use Rattle.rx_ast.specs.declared.class.ClassString.{ClassString}
use Rattle.rx_ast.specs.declared.class.ClassStringDisjunction.{ClassStringDisjunction}
use Rattle.rx_ast.specs.declared.term.Pattern.{Pattern}
use Rattle.rx_ast.specs.ClassTree as in_class
use Rattle.rx_ast.specs.ClassTree.{Member, Members, Class, no_member, member}
use Rattle.rx_ast.specs.Tree as tree
use Rattle.rx_ast.specs.Tree.{Leaf, Opener, Node, Nodes, Alternatives, leaf, quantified, group, no_node, node, no_alternative, alternative, mirror_disjunction}
use Rattle.rx_ast.specs.Forget.{nowhere, three_bits, forget_character, forget_string, forget_strings, forget_member, forget_members, forget_class, forget_leaf, forget_opener, forget_node, forget_nodes, forget_alternatives, same_kind, no_kind, without_spans, bare}

pub three_bits_twice : (m : Modifiers) → three_bits (three_bits m) ≡ three_bits m
three_bits_twice m =
    let bits : ℕ → ℕ → Modifiers = λ e d. record { span = nowhere; enabling = record { 0 = e }; disabling = record { 0 = d } } in
    ap (λ e. bits e (m.disabling.0 % 8 % 8)) (mod-mod m.enabling.0 8) ∙ ap (λ d. bits (m.enabling.0 % 8) d) (mod-mod m.disabling.0 8)

-- What is kept first by `f` and then by `g` is kept at once by both.
module _ (g f : CharacterKind → CharacterKind) where
  abbrev both : CharacterKind → CharacterKind
  both k = g (f k)

  forget_characters_twice : (cs : List Character) → map (forget_character g) (map (forget_character f) cs) ≡ map (forget_character both) cs
  forget_characters_twice [] = refl
  forget_characters_twice (c ∷ cs) = ap (λ rest. forget_character both c ∷ rest) (forget_characters_twice cs)

  pub forget_string_twice : (s : ClassString) → forget_string g (forget_string f s) ≡ forget_string both s
  forget_string_twice s = let with_body : List Character → ClassString = λ cs. record { span = nowhere; strings = s.strings; body = cs } in ap with_body (forget_characters_twice s.body)

  forget_each_string_twice : (ss : List ClassString) → map (forget_string g) (map (forget_string f) ss) ≡ map (forget_string both) ss
  forget_each_string_twice [] = refl
  forget_each_string_twice (s ∷ ss) = ap (λ t. t ∷ map (forget_string g) (map (forget_string f) ss)) (forget_string_twice s) ∙ ap (λ rest. forget_string both s ∷ rest) (forget_each_string_twice ss)

  pub forget_strings_twice : (d : ClassStringDisjunction) → forget_strings g (forget_strings f d) ≡ forget_strings both d
  forget_strings_twice d = let with_body : List ClassString → ClassStringDisjunction = λ ss. record { span = nowhere; strings = d.strings; body = ss } in ap with_body (forget_each_string_twice d.body)

  mutual
    pub forget_member_twice : (m : Member) → forget_member g (forget_member f m) ≡ forget_member both m
    forget_member_twice (in_class.range r) = refl
    forget_member_twice (in_class.escape e) = refl
    forget_member_twice (in_class.property p) = refl
    forget_member_twice (in_class.character c) = refl
    forget_member_twice (in_class.nested c) = ap (λ k. in_class.nested k) (forget_class_twice c)
    forget_member_twice (in_class.strings d) = ap (λ k. in_class.strings k) (forget_strings_twice d)

    pub forget_members_twice : (ms : Members) → forget_members g (forget_members f ms) ≡ forget_members both ms
    forget_members_twice no_member = refl
    forget_members_twice (member m ms) = ap (λ n. member n (forget_members g (forget_members f ms))) (forget_member_twice m) ∙ ap (λ rest. member (forget_member both m) rest) (forget_members_twice ms)

    pub forget_class_twice : (c : Class) → forget_class g (forget_class f c) ≡ forget_class both c
    forget_class_twice (in_class.class s negative strings kind ms) = ap (λ rest. in_class.class nowhere negative strings kind rest) (forget_members_twice ms)

  pub forget_leaf_twice : (l : Leaf) → forget_leaf g (forget_leaf f l) ≡ forget_leaf both l
  forget_leaf_twice (tree.boundary b) = refl
  forget_leaf_twice (tree.character c) = refl
  forget_leaf_twice (tree.dot d) = refl
  forget_leaf_twice (tree.class_escape e) = refl
  forget_leaf_twice (tree.property p) = refl
  forget_leaf_twice (tree.class c) = ap (λ k. tree.class k) (forget_class_twice c)
  forget_leaf_twice (tree.indexed r) = refl
  forget_leaf_twice (tree.named r) = refl

  pub forget_opener_twice : (o : Opener) → forget_opener g (forget_opener f o) ≡ forget_opener both o
  forget_opener_twice (tree.capturing name) = refl
  forget_opener_twice (tree.ignoring None) = refl
  forget_opener_twice (tree.ignoring (Some m)) = ap (λ k. tree.ignoring (Some k)) (three_bits_twice m)
  forget_opener_twice (tree.looking kind) = refl

  mutual
    pub forget_node_twice : (n : Node) → forget_node g (forget_node f n) ≡ forget_node both n
    forget_node_twice (leaf l) = ap (λ k. leaf k) (forget_leaf_twice l)
    forget_node_twice (quantified s min max greedy n) = ap (λ k. quantified nowhere min max greedy k) (forget_node_twice n)
    forget_node_twice (group s o d more) =
        ap (λ p. group nowhere p nowhere (forget_alternatives g (forget_alternatives f more))) (forget_opener_twice o)
        ∙ ap (λ rest. group nowhere (forget_opener both o) nowhere rest) (forget_alternatives_twice more)

    pub forget_nodes_twice : (ns : Nodes) → forget_nodes g (forget_nodes f ns) ≡ forget_nodes both ns
    forget_nodes_twice no_node = refl
    forget_nodes_twice (node n ns) = ap (λ m. node m (forget_nodes g (forget_nodes f ns))) (forget_node_twice n) ∙ ap (λ rest. node (forget_node both n) rest) (forget_nodes_twice ns)

    pub forget_alternatives_twice : (more : Alternatives) → forget_alternatives g (forget_alternatives f more) ≡ forget_alternatives both more
    forget_alternatives_twice no_alternative = refl
    forget_alternatives_twice (alternative s ns more) =
        ap (λ ms. alternative nowhere ms (forget_alternatives g (forget_alternatives f more))) (forget_nodes_twice ns)
        ∙ ap (λ rest. alternative nowhere (forget_nodes both ns) rest) (forget_alternatives_twice more)

-- The bare tree is all that is left once the kinds are forgotten too.
pub bare_of_unspanned : (p : Pattern) → bare p ≡ forget_alternatives no_kind (without_spans p)
bare_of_unspanned p = sym (forget_alternatives_twice no_kind same_kind (mirror_disjunction p.body).1)

pub unspanned_bare : (p q : Pattern) → without_spans p ≡ without_spans q → bare p ≡ bare q
unspanned_bare p q e = bare_of_unspanned p ∙ ap (forget_alternatives no_kind) e ∙ sym (bare_of_unspanned q)
