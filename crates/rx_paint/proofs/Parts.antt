-- A node of the forest is itself with its children in it.
use Rattle.std.proofs.Common.{◌≡◌, refl, ap, sym, ◌∙◌, Option, Some, None, List, [], ◌∷◌, ◌++◌, append_assoc, map}
use Rattle.rx_ast.specs.declared.leaf.Character.{Character}
use Rattle.rx_ast.specs.declared.class.ClassString.{ClassString}
use Rattle.rx_ast.specs.ClassTree as in_class
use Rattle.rx_ast.specs.ClassTree.{Members, no_member, member}
use Rattle.rx_ast.specs.Tree as ast
use Rattle.rx_ast.specs.Tree.{Nodes, Alternatives, leaf, quantified, group, no_node, node, no_alternative}
use Rattle.rx_ast.specs.Kinds as kinds
use Rattle.rx_ast.specs.Kinds.{kind_span, children, each_term, each_alternative, each_contents}
use Rattle.rx_paint.specs.declared.token.Kind.{Kind}
use Rattle.rx_paint.specs.declared.token.Kind.TheVariants as paints
use Rattle.rx_paint.specs.declared.token.Token.{Token}
use Rattle.rx_ast.specs.Forest.{Forest, nothing, tree}
use Rattle.rx_ast.specs.Parts.{characters_forest, strings_forest, members_forest, modifiers_forest, nodes_forest, alternatives_forest, forest, modifiers_in}
use Rattle.rx_paint.specs.Paints.{token_of, own_paint, part_token, token_forest, token_forest_of_all}
use Rattle.rx_paint.specs.Edges.{edges}

abbrev pub node_forest_as : kinds.Kind → Option Kind → Forest Token → Forest Token
node_forest_as k None after = token_forest_of_all (children k) after
node_forest_as k (Some c) after = tree (token_of (kind_span k) c) (modifiers_forest part_token (modifiers_in k) (token_forest_of_all (children k) nothing)) after

characters : (cs : List Character) → characters_forest part_token cs ≡ token_forest_of_all (map kinds.character cs) nothing
unfolding forest
characters [] = refl
characters (c ∷ cs) = ap (token_forest (kinds.character c)) (characters cs)

strings : (ss : List ClassString) → strings_forest part_token ss ≡ token_forest_of_all (map kinds.class_string ss) nothing
unfolding forest
strings [] = refl
strings (s ∷ ss) = ap (token_forest (kinds.class_string s)) (strings ss)

contents : (ms : Members) → members_forest part_token ms ≡ token_forest_of_all (each_contents ms) nothing
unfolding forest
contents no_member = refl
contents (member m ms) = ap (token_forest (kinds.class_contents m)) (contents ms)

terms : (ns : Nodes) → nodes_forest part_token ns ≡ token_forest_of_all (each_term ns) nothing
unfolding forest
terms no_node = refl
terms (node n ns) = ap (token_forest (kinds.term n)) (terms ns)

all_alternatives : (more : Alternatives) → alternatives_forest part_token more ≡ token_forest_of_all (each_alternative more) nothing
unfolding forest
all_alternatives no_alternative = refl
all_alternatives (ast.alternative s ns more) = ap (token_forest (kinds.alternative (s, ns))) (all_alternatives more)

pub forest_is : (k : kinds.Kind) (after : Forest Token) → token_forest k after ≡ node_forest_as k (own_paint k) after
unfolding forest
forest_is (kinds.pattern p) after = refl
forest_is (kinds.disjunction d) after = ap (λ f. tree (token_of d.0 paints.Bar) f after) (all_alternatives d.1)
forest_is (kinds.alternative a) after = ap (λ f. tree (token_of a.0 paints.Other) f after) (terms a.1)
forest_is (kinds.term (leaf (ast.boundary b))) after = refl
forest_is (kinds.term (leaf (ast.character b))) after = refl
forest_is (kinds.term (leaf (ast.dot b))) after = refl
forest_is (kinds.term (leaf (ast.class_escape b))) after = refl
forest_is (kinds.term (leaf (ast.property b))) after = refl
forest_is (kinds.term (leaf (ast.class b))) after = refl
forest_is (kinds.term (leaf (ast.indexed b))) after = refl
forest_is (kinds.term (leaf (ast.named b))) after = refl
forest_is (kinds.term (quantified s min max greedy n)) after = refl
forest_is (kinds.term (group s (ast.capturing name) d more)) after = refl
forest_is (kinds.term (group s (ast.ignoring modifiers) d more)) after = refl
forest_is (kinds.term (group s (ast.looking kind) d more)) after = refl
forest_is (kinds.look_around s kind d) after = refl
forest_is (kinds.quantifier s min max greedy n) after = refl
forest_is (kinds.capturing_group s name d) after = refl
forest_is (kinds.ignore_group s modifiers d) after = refl
forest_is (kinds.boundary_assertion b) after = refl
forest_is (kinds.character c) after = refl
forest_is (kinds.dot d) after = refl
forest_is (kinds.class_escape e) after = refl
forest_is (kinds.property_escape p) after = refl
forest_is (kinds.class (in_class.class s negative may_have_strings kind ms)) after = ap (λ f. tree (token_of s paints.Class) f after) (contents ms)
forest_is (kinds.class_contents (in_class.range r)) after = refl
forest_is (kinds.class_contents (in_class.escape r)) after = refl
forest_is (kinds.class_contents (in_class.property r)) after = refl
forest_is (kinds.class_contents (in_class.character r)) after = refl
forest_is (kinds.class_contents (in_class.nested r)) after = refl
forest_is (kinds.class_contents (in_class.strings r)) after = refl
forest_is (kinds.class_range r) after = refl
forest_is (kinds.string_disjunction d) after = ap (λ f. tree (token_of d.span paints.Class) f after) (strings d.body)
forest_is (kinds.class_string s) after = ap (λ f. tree (token_of s.span paints.Class) f after) (characters s.body)
forest_is (kinds.indexed_reference r) after = refl
forest_is (kinds.named_reference r) after = refl

pub edges_tree : (t : Token) (inner after : Forest Token) (parent : Token) → edges parent (tree t inner after) ≡ edges parent (tree t inner nothing) ++ edges parent after
edges_tree t inner after parent = ap (λ es. (t.span.start, t) ∷ es) (sym (append_assoc (edges t inner) ((t.span.end, parent) ∷ []) (edges parent after)))

-- each node is one tree
abbrev IsOne : kinds.Kind → Type 0
IsOne k = (t : Token) × ((inner : Forest Token) × ((after : Forest Token) → token_forest k after ≡ tree t inner after))

one : (k : kinds.Kind) (c : Kind) → own_paint k ≡ Some c → IsOne k
one k c is = (token_of (kind_span k) c, (modifiers_forest part_token (modifiers_in k) (token_forest_of_all (children k) nothing), λ after. forest_is k after ∙ ap (λ o. node_forest_as k o after) is))

one_in_term : (n : ast.Node) → IsOne (kinds.in_term n)
one_in_term (leaf (ast.boundary b)) = one _ _ refl
one_in_term (leaf (ast.character b)) = one _ _ refl
one_in_term (leaf (ast.dot b)) = one _ _ refl
one_in_term (leaf (ast.class_escape b)) = one _ _ refl
one_in_term (leaf (ast.property b)) = one _ _ refl
one_in_term (leaf (ast.class b)) = one _ _ refl
one_in_term (leaf (ast.indexed b)) = one _ _ refl
one_in_term (leaf (ast.named b)) = one _ _ refl
one_in_term (quantified s min max greedy n) = one _ _ refl
one_in_term (group s (ast.capturing name) d more) = one _ _ refl
one_in_term (group s (ast.ignoring modifiers) d more) = one _ _ refl
one_in_term (group s (ast.looking kind) d more) = one _ _ refl

one_in_contents : (m : in_class.Member) → IsOne (kinds.in_contents m)
one_in_contents (in_class.range r) = one _ _ refl
one_in_contents (in_class.escape r) = one _ _ refl
one_in_contents (in_class.property r) = one _ _ refl
one_in_contents (in_class.character r) = one _ _ refl
one_in_contents (in_class.nested r) = one _ _ refl
one_in_contents (in_class.strings r) = one _ _ refl

within : (k child : kinds.Kind) → own_paint k ≡ None → children k ≡ child ∷ [] → IsOne child → IsOne k
within k child clear alone is = (is.0, (is.1.0, λ after. forest_is k after ∙ ap (λ o. node_forest_as k o after) clear ∙ ap (λ ks. token_forest_of_all ks after) alone ∙ is.1.1 after))

is_one : (k : kinds.Kind) → IsOne k
is_one (kinds.term n) = within (kinds.term n) (kinds.in_term n) refl refl (one_in_term n)
is_one (kinds.class_contents m) = within (kinds.class_contents m) (kinds.in_contents m) refl refl (one_in_contents m)
is_one (kinds.pattern p) = one _ _ refl
is_one (kinds.disjunction d) = one _ _ refl
is_one (kinds.alternative a) = one _ _ refl
is_one (kinds.look_around s kind d) = one _ _ refl
is_one (kinds.quantifier s min max greedy n) = one _ _ refl
is_one (kinds.capturing_group s name d) = one _ _ refl
is_one (kinds.ignore_group s modifiers d) = one _ _ refl
is_one (kinds.boundary_assertion b) = one _ _ refl
is_one (kinds.character c) = one _ _ refl
is_one (kinds.dot d) = one _ _ refl
is_one (kinds.class_escape e) = one _ _ refl
is_one (kinds.property_escape p) = one _ _ refl
is_one (kinds.class c) = one _ _ refl
is_one (kinds.class_range r) = one _ _ refl
is_one (kinds.string_disjunction d) = one _ _ refl
is_one (kinds.class_string s) = one _ _ refl
is_one (kinds.indexed_reference r) = one _ _ refl
is_one (kinds.named_reference r) = one _ _ refl

edges_first : (k : kinds.Kind) (after : Forest Token) (parent : Token) → edges parent (token_forest k after) ≡ edges parent (token_forest k nothing) ++ edges parent after
edges_first k after parent =
    let o = is_one k in
    ap (edges parent) (o.1.1 after) ∙ edges_tree o.0 o.1.0 after parent ∙ ap (λ f. edges parent f ++ edges parent after) (sym (o.1.1 nothing))

-- nodes one after the other have their edges so
pub edges_all : (ks : List kinds.Kind) (after : Forest Token) (parent : Token) → edges parent (token_forest_of_all ks after) ≡ edges parent (token_forest_of_all ks nothing) ++ edges parent after
edges_all [] after parent = refl
edges_all (k ∷ ks) after parent =
    edges_first k (token_forest_of_all ks after) parent ∙ ap (λ es. edges parent (token_forest k nothing) ++ es) (edges_all ks after parent) ∙ sym (append_assoc (edges parent (token_forest k nothing)) (edges parent (token_forest_of_all ks nothing)) (edges parent after)) ∙ ap (λ es. es ++ edges parent after) (sym (edges_first k (token_forest_of_all ks nothing) parent))
