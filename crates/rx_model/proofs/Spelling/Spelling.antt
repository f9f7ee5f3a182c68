-- The spelling looks at no span, at no character kind, and at three bits of modifiers alone: it is that of the tree without them.
use Rattle.std.proofs.Common.{◌≡◌, refl, ap, ℕ, ◌%◌, arith, Bool, false, List, [], ◌∷◌, ◌++◌, map, Some, None, codes}
use Rattle.rx_ast.specs.declared.leaf.Character.{Character}
use Rattle.rx_ast.specs.declared.leaf.CharacterKind.{CharacterKind}
use Rattle.rx_ast.specs.declared.class.ClassString.{ClassString}
use Rattle.rx_ast.specs.declared.term.Pattern.{Pattern}
use Rattle.rx_ast.specs.ClassTree as in_class
use Rattle.rx_ast.specs.ClassTree.{Member, Members, Class, no_member, member}
use Rattle.rx_ast.specs.Tree as tree
use Rattle.rx_ast.specs.Tree.{Leaf, Opener, Node, Nodes, Alternatives, leaf, quantified, group, no_node, node, no_alternative, alternative, mirror_disjunction}
use Rattle.rx_ast.specs.Forget.{forget_character, forget_string, forget_member, forget_members, forget_class, forget_leaf, forget_opener, forget_node, forget_nodes, forget_alternatives, no_kind, bare}
use Rattle.rx_model.specs.declared.mode.Mode.{Mode}
use Rattle.rx_ast.specs.Texts.{class_opener, operator_text, letters, dash, three_letters, opener_text, quantifier_text}
use Rattle.rx_model.specs.Spelling.ClassText.{characters_text, strings_text, barred_strings_text, in_class_text, member_text, class_text, members_text, more_members_text}
use Rattle.rx_model.specs.Spelling.Spelling.{leaf_text, refers, node_text, nodes_text, alternatives_text, barred_text, spelling}

three_bits_once : (n : ℕ) → n % 8 % 8 ≡ n % 8
three_bits_once n = omega arith

pub letters_forget : (n : ℕ) → letters (n % 8) ≡ letters n
unfolding letters
letters_forget n = ap three_letters (three_bits_once n)

pub dash_forget : (n : ℕ) → dash (n % 8) ≡ dash n
dash_forget n = rw three_bits_once refl

module _ (kept : CharacterKind → CharacterKind) (mode : Mode) where
  pub characters_text_forget : (cs : List Character) → characters_text mode (map (forget_character kept) cs) ≡ characters_text mode cs
  characters_text_forget [] = refl
  characters_text_forget (c ∷ cs) = ap (λ text. in_class_text mode c ++ text) (characters_text_forget cs)

  pub barred_strings_text_forget : (ss : List ClassString) → barred_strings_text mode (map (forget_string kept) ss) ≡ barred_strings_text mode ss
  barred_strings_text_forget [] = refl
  barred_strings_text_forget (s ∷ ss) = rw (characters_text_forget s.body, barred_strings_text_forget ss) refl

  pub strings_text_forget : (ss : List ClassString) → strings_text mode (map (forget_string kept) ss) ≡ strings_text mode ss
  strings_text_forget [] = refl
  strings_text_forget (s ∷ ss) = rw (characters_text_forget s.body, barred_strings_text_forget ss) refl

  mutual
    pub member_text_forget : (m : Member) → member_text mode (forget_member kept m) ≡ member_text mode m
    member_text_forget (in_class.range r) = refl
    member_text_forget (in_class.escape e) = refl
    member_text_forget (in_class.property p) = refl
    member_text_forget (in_class.character c) = refl
    member_text_forget (in_class.nested c) = class_text_forget c
    member_text_forget (in_class.strings d) = ap (λ text. codes "\\q{" ++ (text ++ codes "}")) (strings_text_forget d.body)

    pub class_text_forget : (c : Class) → class_text mode (forget_class kept c) ≡ class_text mode c
    class_text_forget (in_class.class s negative may kind ms) =
        ap (λ text. class_opener negative ++ (text ++ codes "]")) (members_text_forget (operator_text kind) ms)

    pub members_text_forget : (operator : List ℕ) (ms : Members) → members_text mode operator (forget_members kept ms) ≡ members_text mode operator ms
    members_text_forget operator no_member = refl
    members_text_forget operator (member m ms) = rw (member_text_forget m, more_members_text_forget operator ms) refl

    pub more_members_text_forget : (operator : List ℕ) (ms : Members) → more_members_text mode operator (forget_members kept ms) ≡ more_members_text mode operator ms
    more_members_text_forget operator no_member = refl
    more_members_text_forget operator (member m ms) = rw (member_text_forget m, more_members_text_forget operator ms) refl

  pub leaf_text_forget : (after_reference : Bool) (l : Leaf) → leaf_text mode after_reference (forget_leaf kept l) ≡ leaf_text mode after_reference l
  leaf_text_forget after_reference (tree.boundary b) = refl
  leaf_text_forget after_reference (tree.character c) = refl
  leaf_text_forget after_reference (tree.dot d) = refl
  leaf_text_forget after_reference (tree.class_escape e) = refl
  leaf_text_forget after_reference (tree.property p) = refl
  leaf_text_forget after_reference (tree.class c) = class_text_forget c
  leaf_text_forget after_reference m = refl

  pub opener_text_forget : (o : Opener) → opener_text (forget_opener kept o) ≡ opener_text o
  opener_text_forget (tree.capturing name) = refl
  opener_text_forget (tree.ignoring None) = refl
  opener_text_forget (tree.ignoring (Some m)) = rw (letters_forget m.enabling.0, letters_forget m.disabling.0, dash_forget m.disabling.0) refl
  opener_text_forget (tree.looking kind) = refl

  pub refers_forget : (n : Node) → refers (forget_node kept n) ≡ refers n
  refers_forget (leaf (tree.boundary b)) = refl
  refers_forget (leaf (tree.character c)) = refl
  refers_forget (leaf (tree.dot d)) = refl
  refers_forget (leaf (tree.class_escape e)) = refl
  refers_forget (leaf (tree.property p)) = refl
  refers_forget (leaf (tree.class c)) = refl
  refers_forget (leaf (tree.indexed r)) = refl
  refers_forget (leaf (tree.named r)) = refl
  refers_forget (quantified s min max greedy n) = refl
  refers_forget (group s o d more) = refl

  mutual
    pub node_text_forget : (after_reference : Bool) (n : Node) → node_text mode after_reference (forget_node kept n) ≡ node_text mode after_reference n
    node_text_forget after_reference (leaf l) = leaf_text_forget after_reference l
    node_text_forget after_reference (quantified s min max greedy n) = ap (λ text. text ++ quantifier_text min max greedy) (node_text_forget after_reference n)
    node_text_forget after_reference (group s o d more) = rw (opener_text_forget o, alternatives_text_forget more) refl

    pub nodes_text_forget : (after_reference : Bool) (ns : Nodes) → nodes_text mode after_reference (forget_nodes kept ns) ≡ nodes_text mode after_reference ns
    nodes_text_forget after_reference no_node = refl
    nodes_text_forget after_reference (node n ns) = rw (node_text_forget after_reference n, refers_forget n, nodes_text_forget (refers n) ns) refl

    pub alternatives_text_forget : (more : Alternatives) → alternatives_text mode (forget_alternatives kept more) ≡ alternatives_text mode more
    alternatives_text_forget no_alternative = refl
    alternatives_text_forget (alternative s ns more) = rw (nodes_text_forget false ns, barred_text_forget more) refl

    pub barred_text_forget : (more : Alternatives) → barred_text mode (forget_alternatives kept more) ≡ barred_text mode more
    barred_text_forget no_alternative = refl
    barred_text_forget (alternative s ns more) = rw (nodes_text_forget false ns, barred_text_forget more) refl

-- the spelling of a pattern is that of its mirror
pub spelling_bare : (p : Pattern) (mode : Mode) → spelling (bare p) mode ≡ alternatives_text mode (mirror_disjunction p.body).1
spelling_bare p mode = alternatives_text_forget no_kind mode (mirror_disjunction p.body).1
