-- The bare tree has the nodes of the tree, each but for spans and the kinds of characters.
use Rattle.std.proofs.Common.{◌≡◌, refl, ap, ◌∙◌, ◌%◌, arith, Option, Some, None, List, [], ◌∷◌, map}
use Rattle.std.specs.Option.{option_map}
use Rattle.rx_base.specs.declared.span.Span.{Span}
use Rattle.rx_ast.specs.declared.leaf.Character.{Character}
use Rattle.rx_ast.specs.declared.leaf.Modifiers.{Modifiers}
use Rattle.rx_ast.specs.declared.class.ClassString.{ClassString}
use Rattle.rx_ast.specs.ClassTree as in_class
use Rattle.rx_ast.specs.ClassTree.{Member, Members, Class, no_member, member}
use Rattle.rx_ast.specs.Tree as ast
use Rattle.rx_ast.specs.Tree.{Leaf, Node, Nodes, Alternatives, SpannedAlternatives, Whole, leaf, quantified, group, no_node, node, no_alternative}
use Rattle.rx_ast.specs.Kinds as kinds
use Rattle.rx_ast.specs.Kinds.{Kind}
use Rattle.rx_ast.specs.Forest.{Forest, nothing, tree, relabel}
use Rattle.rx_ast.specs.Forget.{nowhere, three_bits, no_kind, forget_character, forget_range, forget_string, forget_strings, forget_member, forget_members, forget_class, forget_leaf, forget_node, forget_nodes, forget_alternatives}
use Rattle.rx_lint.specs.Nodes.{characters, strings, in_contents, contents, class, in_leaf, in_term, terms, alternatives, inside, trees}
use Rattle.rx_lint.specs.Numbers.{own_numbers, modifiers_numbers}

abbrev pub bare_disjunction : SpannedAlternatives → SpannedAlternatives
bare_disjunction d = (nowhere, forget_alternatives no_kind d.1)

abbrev pub bare_whole : Whole → Whole
bare_whole p = (nowhere, bare_disjunction p.1)

-- a node but for spans and the kinds of characters
abbrev pub bare_kind : Kind → Kind
bare_kind (kinds.pattern p) = kinds.pattern (bare_whole p)
bare_kind (kinds.disjunction d) = kinds.disjunction (bare_disjunction d)
bare_kind (kinds.alternative a) = kinds.alternative (nowhere, forget_nodes no_kind a.1)
bare_kind (kinds.term n) = kinds.term (forget_node no_kind n)
bare_kind (kinds.look_around s kind d) = kinds.look_around nowhere kind (bare_disjunction d)
bare_kind (kinds.quantifier s min max greedy n) = kinds.quantifier nowhere min max greedy (forget_node no_kind n)
bare_kind (kinds.capturing_group s name d) = kinds.capturing_group nowhere name (bare_disjunction d)
bare_kind (kinds.ignore_group s modifiers d) = kinds.ignore_group nowhere (option_map three_bits modifiers) (bare_disjunction d)
bare_kind (kinds.boundary_assertion b) = kinds.boundary_assertion (record b { span = nowhere })
bare_kind (kinds.character c) = kinds.character (forget_character no_kind c)
bare_kind (kinds.dot d) = kinds.dot (record { span = nowhere })
bare_kind (kinds.class_escape e) = kinds.class_escape (record e { span = nowhere })
bare_kind (kinds.property_escape p) = kinds.property_escape (record p { span = nowhere })
bare_kind (kinds.class c) = kinds.class (forget_class no_kind c)
bare_kind (kinds.class_contents m) = kinds.class_contents (forget_member no_kind m)
bare_kind (kinds.class_range r) = kinds.class_range (forget_range no_kind r)
bare_kind (kinds.string_disjunction d) = kinds.string_disjunction (forget_strings no_kind d)
bare_kind (kinds.class_string s) = kinds.class_string (forget_string no_kind s)
bare_kind (kinds.indexed_reference r) = kinds.indexed_reference (record r { span = nowhere })
bare_kind (kinds.named_reference r) = kinds.named_reference (record r { span = nowhere })

abbrev pub bared : Forest Kind → Forest Kind
bared f = relabel bare_kind f

-- What stands in a bare node are the bare nodes of what stands in the node.
bare_characters : (cs : List Character) → characters (map (forget_character no_kind) cs) ≡ bared (characters cs)
bare_characters [] = refl
bare_characters (c ∷ cs) = ap (tree (kinds.character (forget_character no_kind c)) nothing) (bare_characters cs)

bare_strings : (ss : List ClassString) → strings (map (forget_string no_kind) ss) ≡ bared (strings ss)
bare_strings [] = refl
bare_strings (s ∷ ss) =
    ap (λ f. tree (kinds.class_string (forget_string no_kind s)) f (strings (map (forget_string no_kind) ss))) (bare_characters s.body) ∙ ap (tree (kinds.class_string (forget_string no_kind s)) (bared (characters s.body))) (bare_strings ss)

mutual
  bare_in_contents : (m : Member) → in_contents (forget_member no_kind m) ≡ bared (in_contents m)
  bare_in_contents (in_class.range r) = refl
  bare_in_contents (in_class.escape r) = refl
  bare_in_contents (in_class.property r) = refl
  bare_in_contents (in_class.character r) = refl
  bare_in_contents (in_class.nested c) = bare_class c
  bare_in_contents (in_class.strings d) = ap (λ f. tree (kinds.string_disjunction (forget_strings no_kind d)) f nothing) (bare_strings d.body)

  bare_contents : (ms : Members) → contents (forget_members no_kind ms) ≡ bared (contents ms)
  bare_contents no_member = refl
  bare_contents (member m ms) =
      ap (λ f. tree (kinds.class_contents (forget_member no_kind m)) f (contents (forget_members no_kind ms))) (bare_in_contents m) ∙ ap (tree (kinds.class_contents (forget_member no_kind m)) (bared (in_contents m))) (bare_contents ms)

  bare_class : (c : Class) → class (forget_class no_kind c) ≡ bared (class c)
  bare_class (in_class.class s negative strings kind ms) = ap (λ f. tree (kinds.class (in_class.class nowhere negative strings kind (forget_members no_kind ms))) f nothing) (bare_contents ms)

bare_leaf : (l : Leaf) → in_leaf (forget_leaf no_kind l) ≡ bared (in_leaf l)
bare_leaf (ast.boundary b) = refl
bare_leaf (ast.character b) = refl
bare_leaf (ast.dot b) = refl
bare_leaf (ast.class_escape b) = refl
bare_leaf (ast.property b) = refl
bare_leaf (ast.class c) = bare_class c
bare_leaf (ast.indexed b) = refl
bare_leaf (ast.named b) = refl

-- a node with a disjunction in it
abbrev around : Kind → SpannedAlternatives → Forest Kind → Forest Kind
around k d f = tree k (tree (kinds.disjunction (bare_disjunction d)) f nothing) nothing

mutual
  bare_in_term : (n : Node) → in_term (forget_node no_kind n) ≡ bared (in_term n)
  bare_in_term (leaf l) = bare_leaf l
  bare_in_term (quantified s min max greedy n) = ap (λ f. tree (kinds.quantifier nowhere min max greedy (forget_node no_kind n)) (tree (kinds.term (forget_node no_kind n)) f nothing) nothing) (bare_in_term n)
  bare_in_term (group s (ast.capturing name) d more) = ap (around (kinds.capturing_group nowhere name (bare_disjunction (d, more))) (d, more)) (bare_alternatives more)
  bare_in_term (group s (ast.ignoring modifiers) d more) = ap (around (kinds.ignore_group nowhere (option_map three_bits modifiers) (bare_disjunction (d, more))) (d, more)) (bare_alternatives more)
  bare_in_term (group s (ast.looking kind) d more) = ap (around (kinds.look_around nowhere kind (bare_disjunction (d, more))) (d, more)) (bare_alternatives more)

  bare_terms : (ns : Nodes) → terms (forget_nodes no_kind ns) ≡ bared (terms ns)
  bare_terms no_node = refl
  bare_terms (node n ns) =
      ap (λ f. tree (kinds.term (forget_node no_kind n)) f (terms (forget_nodes no_kind ns))) (bare_in_term n) ∙ ap (tree (kinds.term (forget_node no_kind n)) (bared (in_term n))) (bare_terms ns)

  bare_alternatives : (more : Alternatives) → alternatives (forget_alternatives no_kind more) ≡ bared (alternatives more)
  bare_alternatives no_alternative = refl
  bare_alternatives (ast.alternative s ns more) =
      ap (λ f. tree (kinds.alternative (nowhere, forget_nodes no_kind ns)) f (alternatives (forget_alternatives no_kind more))) (bare_terms ns)
      ∙ ap (tree (kinds.alternative (nowhere, forget_nodes no_kind ns)) (bared (terms ns))) (bare_alternatives more)

pub bare_pattern : (p : Whole) → trees (kinds.pattern (bare_whole p) ∷ []) ≡ bared (trees (kinds.pattern p ∷ []))
unfolding inside
bare_pattern p = ap (λ f. tree (kinds.pattern (bare_whole p)) (tree (kinds.disjunction (bare_disjunction p.1)) f nothing) nothing) (bare_alternatives p.1.1)

pub bare_alternative : (s : Span) (ns : Nodes) → trees (kinds.alternative (nowhere, forget_nodes no_kind ns) ∷ []) ≡ bared (trees (kinds.alternative (s, ns) ∷ []))
unfolding inside
bare_alternative s ns = ap (λ f. tree (kinds.alternative (nowhere, forget_nodes no_kind ns)) f nothing) (bare_terms ns)

-- The numbers of a node are those of the bare node.
bare_modifiers : (m : Option Modifiers) → modifiers_numbers (option_map three_bits m) ≡ modifiers_numbers m
bare_modifiers None = refl
bare_modifiers (Some m) =
    let a : (m.enabling.0 % 8) % 8 ≡ m.enabling.0 % 8 = omega arith in
    let b : (m.disabling.0 % 8) % 8 ≡ m.disabling.0 % 8 = omega arith in
    ap (λ x. 1 ∷ x ∷ ((m.disabling.0 % 8) % 8) ∷ []) a ∙ ap (λ x. 1 ∷ (m.enabling.0 % 8) ∷ x ∷ []) b

own_of_bare : (k : Kind) → own_numbers (bare_kind k) ≡ own_numbers k
own_of_bare (kinds.ignore_group s modifiers d) = ap (λ ns. 7 ∷ ns) (bare_modifiers modifiers)
own_of_bare (kinds.class (in_class.class s negative strings kind ms)) = refl
own_of_bare _ = refl

pub numbers_of_bare : (f : Forest Kind) → relabel own_numbers (bared f) ≡ relabel own_numbers f
numbers_of_bare nothing = refl
numbers_of_bare (tree k inner after) =
    ap (λ ns. tree ns (relabel own_numbers (bared inner)) (relabel own_numbers (bared after))) (own_of_bare k) ∙ ap (λ f. tree (own_numbers k) f (relabel own_numbers (bared after))) (numbers_of_bare inner)
    ∙ ap (tree (own_numbers k) (relabel own_numbers inner)) (numbers_of_bare after)
