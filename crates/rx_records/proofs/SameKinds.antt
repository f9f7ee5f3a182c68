-- Nodes with the same record, the same names and the same nodes in them are the same.
use Rattle.std.proofs.Common.{◌≡◌, refl, ap, sym, ◌∙◌, ℕ, Bool, true, Option, Some, None, is_some, List, [], ◌∷◌, map}
use Rattle.std.specs.Prelude.{unwrap_or}
use Rattle.rx_base.specs.declared.span.Span.{Span}
use Rattle.rx_ast.specs.declared.leaf.BoundaryAssertionKind.{BoundaryAssertionKind}
use Rattle.rx_ast.specs.declared.leaf.CharacterKind.{CharacterKind}
use Rattle.rx_ast.specs.declared.leaf.CharacterClassEscapeKind.{CharacterClassEscapeKind}
use Rattle.rx_ast.specs.declared.leaf.BoundaryAssertion.{BoundaryAssertion}
use Rattle.rx_ast.specs.declared.leaf.Character.{Character}
use Rattle.rx_ast.specs.declared.leaf.CharacterClassEscape.{CharacterClassEscape}
use Rattle.rx_ast.specs.declared.leaf.Dot.{Dot}
use Rattle.rx_ast.specs.declared.leaf.IndexedReference.{IndexedReference}
use Rattle.rx_ast.specs.declared.leaf.NamedReference.{NamedReference}
use Rattle.rx_ast.specs.declared.leaf.UnicodePropertyEscape.{UnicodePropertyEscape}
use Rattle.rx_ast.specs.declared.leaf.Modifiers.{Modifiers}
use Rattle.rx_ast.specs.declared.class.CharacterClassRange.{CharacterClassRange}
use Rattle.rx_ast.specs.declared.class.ClassString.{ClassString}
use Rattle.rx_ast.specs.declared.class.ClassStringDisjunction.{ClassStringDisjunction}
use Rattle.rx_ast.specs.ClassTree as in_class
use Rattle.rx_ast.specs.ClassTree.{Member, Members, no_member, member}
use Rattle.rx_ast.specs.Tree as tree
use Rattle.rx_ast.specs.Tree.{Node, Nodes, Alternatives, SpannedAlternatives, leaf, quantified, group, no_node, node, no_alternative}
use Rattle.rx_ast.specs.Kinds.{Kind, pattern, disjunction, alternative, look_around, quantifier, capturing_group, ignore_group, boundary_assertion, character, dot, class_escape, property_escape, class, class_range, string_disjunction, class_string, indexed_reference, named_reference, children, each_alternative, each_contents, each_term, in_contents, in_term}
use Rattle.rx_records.specs.declared.node.Node.{Node as Record}
use Rattle.rx_records.specs.declared.node.Range.{Range}
use Rattle.rx_kinds.specs.Inner.{is_node, node_of}
use Rattle.rx_kinds.proofs.SameCodes.{same_boundary, same_character, same_contents, same_escape, same_look}
use Rattle.rx_records.specs.Law.{name_in, value_in}
use Rattle.rx_records.specs.Nodes.{Before, disabled, enabled, modifiers_range, own}
use Rattle.rx_records.specs.Ranges.{range_of}
use Rattle.rx_records.proofs.OwnRecords.{unplaced}

abbrev span_of : Range → Span
span_of range = record { start = range.start; end = range.end }

pub same_span : (a b : Span) → range_of a ≡ range_of b → a ≡ b
same_span a b e = ap span_of e

-- the term that is this node, and the item of a class that is this node
abbrev term_of : Kind → Node → Node
term_of (boundary_assertion b) other = leaf (tree.boundary b)
term_of (character c) other = leaf (tree.character c)
term_of (dot d) other = leaf (tree.dot d)
term_of (class_escape e) other = leaf (tree.class_escape e)
term_of (property_escape p) other = leaf (tree.property p)
term_of (class c) other = leaf (tree.class c)
term_of (indexed_reference r) other = leaf (tree.indexed r)
term_of (named_reference r) other = leaf (tree.named r)
term_of (quantifier s min max greedy n) other = quantified s min max greedy n
term_of (capturing_group s name d) other = group s (tree.capturing name) d.0 d.1
term_of (ignore_group s modifiers d) other = group s (tree.ignoring modifiers) d.0 d.1
term_of (look_around s kind d) other = group s (tree.looking kind) d.0 d.1
term_of _ other = other

abbrev item_of : Kind → Member → Member
item_of (class_range r) other = in_class.range r
item_of (class_escape e) other = in_class.escape e
item_of (property_escape p) other = in_class.property p
item_of (character c) other = in_class.character c
item_of (class c) other = in_class.nested c
item_of (string_disjunction d) other = in_class.strings d
item_of _ other = other

term_again : (n other : Node) → term_of (in_term n) other ≡ n
term_again (leaf (tree.boundary b)) other = refl
term_again (leaf (tree.character c)) other = refl
term_again (leaf (tree.dot d)) other = refl
term_again (leaf (tree.class_escape e)) other = refl
term_again (leaf (tree.property p)) other = refl
term_again (leaf (tree.class c)) other = refl
term_again (leaf (tree.indexed r)) other = refl
term_again (leaf (tree.named r)) other = refl
term_again (quantified s min max greedy n) other = refl
term_again (group s (tree.capturing name) d more) other = refl
term_again (group s (tree.ignoring modifiers) d more) other = refl
term_again (group s (tree.looking kind) d more) other = refl

item_again : (m other : Member) → item_of (in_contents m) other ≡ m
item_again (in_class.range r) other = refl
item_again (in_class.escape e) other = refl
item_again (in_class.property p) other = refl
item_again (in_class.character c) other = refl
item_again (in_class.nested c) other = refl
item_again (in_class.strings d) other = refl

pub same_term : (n m : Node) → in_term n ≡ in_term m → n ≡ m
same_term n m e = sym (term_again n n) ∙ ap (λ k. term_of k n) e ∙ term_again m n

pub same_item : (n m : Member) → in_contents n ≡ in_contents m → n ≡ m
same_item n m e = sym (item_again n n) ∙ ap (λ k. item_of k n) e ∙ item_again m n

pub same_terms : (ns ms : Nodes) → map node_of (each_term ns) ≡ map node_of (each_term ms) → ns ≡ ms
same_terms no_node no_node e = refl
same_terms no_node (node m ms) e = cc
same_terms (node n ns) no_node e = cc
same_terms (node n ns) (node m ms) e =
    let first : in_term n ≡ in_term m = cc in
    let rest : map node_of (each_term ns) ≡ map node_of (each_term ms) = cc in
    ap (λ x. node x ns) (same_term n m first) ∙ ap (node m) (same_terms ns ms rest)

pub same_items : (ns ms : Members) → map node_of (each_contents ns) ≡ map node_of (each_contents ms) → ns ≡ ms
same_items no_member no_member e = refl
same_items no_member (member m ms) e = cc
same_items (member n ns) no_member e = cc
same_items (member n ns) (member m ms) e =
    let first : in_contents n ≡ in_contents m = cc in
    let rest : map node_of (each_contents ns) ≡ map node_of (each_contents ms) = cc in
    ap (λ x. member x ns) (same_item n m first) ∙ ap (member m) (same_items ns ms rest)

-- parts of an alternative
abbrev span_in : Kind → Span → Span
span_in (alternative a) other = a.0
span_in _ other = other

abbrev terms_in : Kind → Nodes → Nodes
terms_in (alternative a) other = a.1
terms_in _ other = other

pub same_alternatives : (as' bs : Alternatives) → map node_of (each_alternative as') ≡ map node_of (each_alternative bs) → as' ≡ bs
same_alternatives no_alternative no_alternative e = refl
same_alternatives no_alternative (tree.alternative t ms bs) e = cc
same_alternatives (tree.alternative s ns as') no_alternative e = cc
same_alternatives (tree.alternative s ns as') (tree.alternative t ms bs) e =
    let first : alternative (s, ns) ≡ alternative (t, ms) = cc in
    let rest : map node_of (each_alternative as') ≡ map node_of (each_alternative bs) = cc in
    ap (λ x. tree.alternative x ns as') (ap (λ k. span_in k s) first) ∙ ap (λ x. tree.alternative t x as') (ap (λ k. terms_in k ns) first) ∙ ap (tree.alternative t ms) (same_alternatives as' bs rest)

pub same_characters : (as' bs : List Character) → map node_of (map character as') ≡ map node_of (map character bs) → as' ≡ bs
same_characters [] [] e = refl
same_characters [] (b ∷ bs) e = cc
same_characters (a ∷ as') [] e = cc
same_characters (a ∷ as') (b ∷ bs) e =
    let first : a ≡ b = cc in
    let rest : map node_of (map character as') ≡ map node_of (map character bs) = cc in
    ap (λ c. c ∷ as') first ∙ ap (λ cs. b ∷ cs) (same_characters as' bs rest)

pub same_strings : (as' bs : List ClassString) → map node_of (map class_string as') ≡ map node_of (map class_string bs) → as' ≡ bs
same_strings [] [] e = refl
same_strings [] (b ∷ bs) e = cc
same_strings (a ∷ as') [] e = cc
same_strings (a ∷ as') (b ∷ bs) e =
    let first : a ≡ b = cc in
    let rest : map node_of (map class_string as') ≡ map node_of (map class_string bs) = cc in
    ap (λ s. s ∷ as') first ∙ ap (λ ss. b ∷ ss) (same_strings as' bs rest)

-- the disjunction in a node that holds one
abbrev held : List Kind → SpannedAlternatives → SpannedAlternatives
held (disjunction d ∷ ks) other = d
held _ other = other

pub same_max : (a b : Option ℕ) → is_some a ≡ is_some b → unwrap_or a 0 ≡ unwrap_or b 0 → a ≡ b
same_max None None has e = refl
same_max None (Some b) has e = cc
same_max (Some a) None has e = cc
same_max (Some a) (Some b) has e = ap (λ n. Some n) e

-- nodes by their fields
abbrev modifiers_of : Span → ℕ → ℕ → Modifiers
modifiers_of span enabling disabling = record { span = span; enabling = record { 0 = enabling }; disabling = record { 0 = disabling } }

abbrev boundary_of : Span → BoundaryAssertionKind → BoundaryAssertion
boundary_of span kind = record { span = span; kind = kind }

abbrev character_of : Span → CharacterKind → ℕ → Character
character_of span kind value = record { span = span; kind = kind; value = value }

abbrev dot_of : Span → Dot
dot_of span = record { span = span }

abbrev escape_of : Span → CharacterClassEscapeKind → CharacterClassEscape
escape_of span kind = record { span = span; kind = kind }

abbrev property_of : Span → Bool → Bool → List ℕ → Option (List ℕ) → UnicodePropertyEscape
property_of span negative strings name value = record { span = span; negative = negative; strings = strings; name = name; value = value }

abbrev range_with : Span → Character → Character → CharacterClassRange
range_with span min max = record { span = span; min = min; max = max }

abbrev disjunction_with : Span → Bool → List ClassString → ClassStringDisjunction
disjunction_with span strings body = record { span = span; strings = strings; body = body }

abbrev string_with : Span → Bool → List Character → ClassString
string_with span strings body = record { span = span; strings = strings; body = body }

abbrev indexed_of : Span → ℕ → IndexedReference
indexed_of span index = record { span = span; index = index }

abbrev named_of : Span → List ℕ → NamedReference
named_of span name = record { span = span; name = name }

pub same_modifiers : (a b : Option Modifiers) → is_some a ≡ is_some b → enabled a ≡ enabled b → disabled a ≡ disabled b → modifiers_range a ≡ modifiers_range b → a ≡ b
same_modifiers None None has on off place = refl
same_modifiers None (Some b) has on off place = cc
same_modifiers (Some a) None has on off place = cc
same_modifiers (Some a) (Some b) has on off place =
    ap (λ s. Some (modifiers_of s a.enabling.0 a.disabling.0)) (same_span a.span b.span place)
    ∙ ap (λ n. Some (modifiers_of b.span n a.disabling.0)) on ∙ ap (λ n. Some (modifiers_of b.span b.enabling.0 n)) off

-- A node is told by its own record, its names and the nodes in it.
pub same_kind : (before : Before) (k l : Kind) → is_node k ≡ true → is_node l ≡ true → unplaced (own before k) ≡ unplaced (own before l)
    → name_in k ≡ name_in l → value_in k ≡ value_in l → map node_of (children k) ≡ map node_of (children l) → k ≡ l
same_kind before (pattern p) (pattern q) is_k is_l e name value inner =
    ap (λ s. pattern (s, p.1)) (same_span p.0 q.0 (ap (λ (r : Record). r.span) e)) ∙ ap (λ d. pattern (q.0, d)) (ap (λ ks. held ks p.1) inner)
same_kind before (disjunction d) (disjunction f) is_k is_l e name value inner =
    ap (λ s. disjunction (s, d.1)) (same_span d.0 f.0 (ap (λ (r : Record). r.span) e)) ∙ ap (λ as'. disjunction (f.0, as')) (same_alternatives d.1 f.1 inner)
same_kind before (alternative a) (alternative b) is_k is_l e name value inner =
    ap (λ s. alternative (s, a.1)) (same_span a.0 b.0 (ap (λ (r : Record). r.span) e)) ∙ ap (λ ns. alternative (b.0, ns)) (same_terms a.1 b.1 inner)
same_kind before (look_around s kind d) (look_around t kind' f) is_k is_l e name value inner =
    ap (λ x. look_around x kind d) (same_span s t (ap (λ (r : Record). r.span) e)) ∙ ap (λ x. look_around t x d) (same_look kind kind' (ap (λ (r : Record). r.kind) e))
    ∙ ap (λ x. look_around t kind' x) (ap (λ ks. held ks d) inner)
same_kind before (quantifier s min max greedy n) (quantifier t min' max' greedy' m) is_k is_l e name value inner =
    let body : in_term n ≡ in_term m = cc in
    ap (λ x. quantifier x min max greedy n) (same_span s t (ap (λ (r : Record). r.span) e)) ∙ ap (λ x. quantifier t x max greedy n) (ap (λ (r : Record). r.min) e)
    ∙ ap (λ x. quantifier t min' x greedy n) (same_max max max' (ap (λ (r : Record). r.has_max) e) (ap (λ (r : Record). r.max) e))
    ∙ ap (λ x. quantifier t min' max' x n) (ap (λ (r : Record). r.greedy) e) ∙ ap (λ x. quantifier t min' max' greedy' x) (same_term n m body)
same_kind before (capturing_group s name d) (capturing_group t name' f) is_k is_l e same_name value inner =
    ap (λ x. capturing_group x name d) (same_span s t (ap (λ (r : Record). r.span) e)) ∙ ap (λ x. capturing_group t x d) same_name ∙ ap (λ x. capturing_group t name' x) (ap (λ ks. held ks d) inner)
same_kind before (ignore_group s modifiers d) (ignore_group t modifiers' f) is_k is_l e name value inner =
    ap (λ x. ignore_group x modifiers d) (same_span s t (ap (λ (r : Record). r.span) e))
    ∙ ap (λ x. ignore_group t x d) (same_modifiers modifiers modifiers' (ap (λ (r : Record). r.has_modifiers) e) (ap (λ (r : Record). r.enabling) e) (ap (λ (r : Record). r.disabling) e) (ap (λ (r : Record). r.modifiers) e))
    ∙ ap (λ x. ignore_group t modifiers' x) (ap (λ ks. held ks d) inner)
same_kind before (boundary_assertion a) (boundary_assertion b) is_k is_l e name value inner =
    ap (λ s. boundary_assertion (boundary_of s a.kind)) (same_span a.span b.span (ap (λ (r : Record). r.span) e))
    ∙ ap (λ x. boundary_assertion (boundary_of b.span x)) (same_boundary a.kind b.kind (ap (λ (r : Record). r.kind) e))
same_kind before (character a) (character b) is_k is_l e name value inner =
    ap (λ s. character (character_of s a.kind a.value)) (same_span a.span b.span (ap (λ (r : Record). r.span) e))
    ∙ ap (λ x. character (character_of b.span x a.value)) (same_character a.kind b.kind (ap (λ (r : Record). r.kind) e))
    ∙ ap (λ x. character (character_of b.span b.kind x)) (ap (λ (r : Record). r.number) e)
same_kind before (dot a) (dot b) is_k is_l e name value inner = ap (λ s. dot (dot_of s)) (same_span a.span b.span (ap (λ (r : Record). r.span) e))
same_kind before (class_escape a) (class_escape b) is_k is_l e name value inner =
    ap (λ s. class_escape (escape_of s a.kind)) (same_span a.span b.span (ap (λ (r : Record). r.span) e))
    ∙ ap (λ x. class_escape (escape_of b.span x)) (same_escape a.kind b.kind (ap (λ (r : Record). r.kind) e))
same_kind before (property_escape p) (property_escape q) is_k is_l e name value inner =
    let named : p.name ≡ q.name = cc in
    ap (λ s. property_escape (property_of s p.negative p.strings p.name p.value)) (same_span p.span q.span (ap (λ (r : Record). r.span) e))
    ∙ ap (λ x. property_escape (property_of q.span x p.strings p.name p.value)) (ap (λ (r : Record). r.negative) e)
    ∙ ap (λ x. property_escape (property_of q.span q.negative x p.name p.value)) (ap (λ (r : Record). r.strings) e)
    ∙ ap (λ x. property_escape (property_of q.span q.negative q.strings x p.value)) named ∙ ap (λ x. property_escape (property_of q.span q.negative q.strings q.name x)) value
same_kind before (class (in_class.class s negative strings kind ms)) (class (in_class.class t negative' strings' kind' ms')) is_k is_l e name value inner =
    ap (λ x. class (in_class.class x negative strings kind ms)) (same_span s t (ap (λ (r : Record). r.span) e))
    ∙ ap (λ x. class (in_class.class t x strings kind ms)) (ap (λ (r : Record). r.negative) e) ∙ ap (λ x. class (in_class.class t negative' x kind ms)) (ap (λ (r : Record). r.strings) e)
    ∙ ap (λ x. class (in_class.class t negative' strings' x ms)) (same_contents kind kind' (ap (λ (r : Record). r.kind) e)) ∙ ap (λ x. class (in_class.class t negative' strings' kind' x)) (same_items ms ms' inner)
same_kind before (class_range a) (class_range b) is_k is_l e name value inner =
    let min : a.min ≡ b.min = cc in
    let max : a.max ≡ b.max = cc in
    ap (λ s. class_range (range_with s a.min a.max)) (same_span a.span b.span (ap (λ (r : Record). r.span) e))
    ∙ ap (λ x. class_range (range_with b.span x a.max)) min ∙ ap (λ x. class_range (range_with b.span b.min x)) max
same_kind before (string_disjunction a) (string_disjunction b) is_k is_l e name value inner =
    ap (λ s. string_disjunction (disjunction_with s a.strings a.body)) (same_span a.span b.span (ap (λ (r : Record). r.span) e))
    ∙ ap (λ x. string_disjunction (disjunction_with b.span x a.body)) (ap (λ (r : Record). r.strings) e)
    ∙ ap (λ x. string_disjunction (disjunction_with b.span b.strings x)) (same_strings a.body b.body inner)
same_kind before (class_string a) (class_string b) is_k is_l e name value inner =
    ap (λ s. class_string (string_with s a.strings a.body)) (same_span a.span b.span (ap (λ (r : Record). r.span) e))
    ∙ ap (λ x. class_string (string_with b.span x a.body)) (ap (λ (r : Record). r.strings) e) ∙ ap (λ x. class_string (string_with b.span b.strings x)) (same_characters a.body b.body inner)
same_kind before (indexed_reference a) (indexed_reference b) is_k is_l e name value inner =
    ap (λ s. indexed_reference (indexed_of s a.index)) (same_span a.span b.span (ap (λ (r : Record). r.span) e)) ∙ ap (λ x. indexed_reference (indexed_of b.span x)) (ap (λ (r : Record). r.number) e)
same_kind before (named_reference a) (named_reference b) is_k is_l e name value inner =
    let named : a.name ≡ b.name = cc in
    ap (λ s. named_reference (named_of s a.name)) (same_span a.span b.span (ap (λ (r : Record). r.span) e)) ∙ ap (λ x. named_reference (named_of b.span x)) named
same_kind before (class (in_class.class s negative strings kind ms)) l is_k is_l e name value inner = let types = ap (λ (r : Record). r.node_type) e in cc
same_kind before k (class (in_class.class s negative strings kind ms)) is_k is_l e name value inner = let types = ap (λ (r : Record). r.node_type) e in cc
same_kind before k l is_k is_l e name value inner = let types = ap (λ (r : Record). r.node_type) e in cc
