-- Numbers in a row tell the nodes that they are of.
use Rattle.std.proofs.Common.{◌≡◌, refl, ap, sym, ◌∙◌, ℕ, suc, nat_eq, arith, Bool, true, false, Option, Some, None, List, [], ◌∷◌, ◌++◌, append_assoc, length}
use Rattle.std.specs.List.{flat_map}
use Rattle.std.proofs.lemmas.Bool.Decides.{nat_tests}
use Rattle.std.proofs.lemmas.Grind.{flat_map-append}
use Rattle.rx_ast.specs.declared.leaf.Modifiers.{Modifiers}
use Rattle.rx_ast.specs.ClassTree as in_class
use Rattle.rx_ast.specs.Kinds.{Kind, pattern, disjunction, alternative, term, look_around, quantifier, capturing_group, ignore_group, boundary_assertion, character, dot, class_escape, property_escape, class, class_contents, class_range, string_disjunction, class_string, indexed_reference, named_reference, children}
use Rattle.rx_ast.specs.Forest.{Forest, nothing, tree, roots, relabel}
use Rattle.rx_lint.specs.Nodes.{trees}
use Rattle.rx_lint.specs.Numbers.{bit, max_numbers, name_numbers, optional_name_numbers, modifiers_numbers, own_numbers, node_numbers, numbers}
use Rattle.rx_lint.proofs.Nodes.{labels, HaveChildren, grown}

pub same_bit : (a b : Bool) → bit a ≡ bit b → a ≡ b
same_bit true true e = refl
same_bit false false e = refl
same_bit _ _ e = cc

-- Two fronts of one list are one, and so is what comes after them.
pub name_front : (a b us vs : List ℕ) → name_numbers a ++ us ≡ name_numbers b ++ vs → (a ≡ b) × (us ≡ vs)
name_front [] [] us vs e = (refl, cc)
name_front [] (d ∷ ds) us vs e = cc
name_front (c ∷ cs) [] us vs e = cc
name_front (c ∷ cs) (d ∷ ds) us vs e =
    let head : c ≡ d = cc in
    let rest : name_numbers cs ++ us ≡ name_numbers ds ++ vs = cc in
    let it = name_front cs ds us vs rest in
    (ap (λ c. c ∷ cs) head ∙ ap (λ cs. d ∷ cs) it.0, it.1)

pub optional_name_front : (a b : Option (List ℕ)) (us vs : List ℕ) → optional_name_numbers a ++ us ≡ optional_name_numbers b ++ vs → (a ≡ b) × (us ≡ vs)
optional_name_front None None us vs e = (refl, cc)
optional_name_front None (Some b) us vs e = cc
optional_name_front (Some a) None us vs e = cc
optional_name_front (Some a) (Some b) us vs e =
    let rest : name_numbers a ++ us ≡ name_numbers b ++ vs = cc in
    let it = name_front a b us vs rest in
    (ap (λ name. Some name) it.0, it.1)

max_front : (a b : Option ℕ) (us vs : List ℕ) → max_numbers a ++ us ≡ max_numbers b ++ vs → (max_numbers a ≡ max_numbers b) × (us ≡ vs)
max_front None None us vs e = (refl, cc)
max_front None (Some b) us vs e = cc
max_front (Some a) None us vs e = cc
max_front (Some a) (Some b) us vs e = (cc, cc)

modifiers_front : (a b : Option Modifiers) (us vs : List ℕ) → modifiers_numbers a ++ us ≡ modifiers_numbers b ++ vs → (modifiers_numbers a ≡ modifiers_numbers b) × (us ≡ vs)
modifiers_front None None us vs e = (refl, cc)
modifiers_front None (Some b) us vs e = cc
modifiers_front (Some a) None us vs e = cc
modifiers_front (Some a) (Some b) us vs e = (cc, cc)

-- Lists that begin with two numbers are two.
abbrev pub first : List ℕ → ℕ
first [] = 0
first (n ∷ ns) = n

same_number : (n : ℕ) → nat_eq n n ≡ true
same_number n = grind (arith, nat_tests)

pub apart : (ns ms : List ℕ) → nat_eq (first ns) (first ms) ≡ false → ns ≡ ms → ⊥
apart ns ms other e =
    let same : nat_eq (first ns) (first ms) ≡ true = ap (λ ls. nat_eq (first ns) (first ls)) (sym e) ∙ same_number (first ns) in
    let no : false ≡ true = sym other ∙ same in
    absurd cc

pub own_front : (k l : Kind) (us vs : List ℕ) → own_numbers k ++ us ≡ own_numbers l ++ vs → (own_numbers k ≡ own_numbers l) × (us ≡ vs)
own_front (pattern p) (pattern q) us vs e = (refl, cc)
own_front (disjunction p) (disjunction q) us vs e = (refl, cc)
own_front (alternative p) (alternative q) us vs e = (refl, cc)
own_front (term p) (term q) us vs e = (refl, cc)
own_front (look_around s kind d) (look_around t kind' d') us vs e = (cc, cc)
own_front (quantifier s min max greedy n) (quantifier t min' max' greedy' n') us vs e =
    let rest : max_numbers max ++ us ≡ max_numbers max' ++ vs = cc in
    let it = max_front max max' us vs rest in
    let low : min ≡ min' = cc in
    let way : bit greedy ≡ bit greedy' = cc in
    let most = it.0 in
    (cc, it.1)
own_front (capturing_group s name d) (capturing_group t name' d') us vs e =
    let rest : optional_name_numbers name ++ us ≡ optional_name_numbers name' ++ vs = cc in
    let it = optional_name_front name name' us vs rest in
    (ap (λ n. 6 ∷ optional_name_numbers n) it.0, it.1)
own_front (ignore_group s modifiers d) (ignore_group t modifiers' d') us vs e =
    let rest : modifiers_numbers modifiers ++ us ≡ modifiers_numbers modifiers' ++ vs = cc in
    let it = modifiers_front modifiers modifiers' us vs rest in
    (ap (λ ns. 7 ∷ ns) it.0, it.1)
own_front (boundary_assertion b) (boundary_assertion b') us vs e = (cc, cc)
own_front (character b) (character b') us vs e = (cc, cc)
own_front (dot b) (dot b') us vs e = (refl, cc)
own_front (class_escape b) (class_escape b') us vs e = (cc, cc)
own_front (property_escape p) (property_escape q) us vs e =
    let rest : (name_numbers p.name ++ optional_name_numbers p.value) ++ us ≡ (name_numbers q.name ++ optional_name_numbers q.value) ++ vs = cc in
    let first = name_front p.name q.name _ _ (sym (append_assoc (name_numbers p.name) _ us) ∙ rest ∙ append_assoc (name_numbers q.name) _ vs) in
    let second = optional_name_front p.value q.value us vs first.1 in
    let negative : bit p.negative ≡ bit q.negative = cc in
    let may_have_strings : bit p.strings ≡ bit q.strings = cc in
    let name = first.0 in
    let value = second.0 in
    (cc, second.1)
own_front (class (in_class.class s negative may kind ms)) (class (in_class.class s' negative' may' kind' ms')) us vs e = (cc, cc)
own_front (class_contents b) (class_contents b') us vs e = (refl, cc)
own_front (class_range b) (class_range b') us vs e = (refl, cc)
own_front (string_disjunction b) (string_disjunction b') us vs e = (cc, cc)
own_front (class_string b) (class_string b') us vs e = (cc, cc)
own_front (indexed_reference b) (indexed_reference b') us vs e = (cc, cc)
own_front (named_reference b) (named_reference b') us vs e =
    let rest : name_numbers b.name ++ us ≡ name_numbers b'.name ++ vs = cc in
    let it = name_front b.name b'.name us vs rest in
    (ap (λ n. 19 ∷ name_numbers n) it.0, it.1)
own_front (class (in_class.class s negative may kind ms)) l us vs e = absurd (apart _ (own_numbers l ++ vs) refl e)
own_front k (class (in_class.class s negative may kind ms)) us vs e = absurd (apart (own_numbers k ++ us) _ refl e)
own_front k l us vs e = absurd (apart (own_numbers k ++ us) (own_numbers l ++ vs) refl e)

-- The numbers of a forest whose labels are the nodes' own numbers.
abbrev pub rows : Forest (List ℕ) → List ℕ
rows nothing = []
rows (tree ns inner after) = length (roots inner) ∷ (ns ++ (rows inner ++ rows after))

-- the nodes with their own numbers for labels
abbrev pub numbered : Forest Kind → Forest (List ℕ)
numbered f = relabel own_numbers f

same_count : (f : Forest Kind) → length (roots (numbered f)) ≡ length (roots f)
same_count nothing = refl
same_count (tree k inner after) = ap suc (same_count after)

rows_of_nodes : (f : Forest Kind) → HaveChildren f → flat_map node_numbers (labels f) ≡ rows (numbered f)
rows_of_nodes nothing have = refl
rows_of_nodes (tree k inner after) have =
    let count : length (children k) ≡ length (roots (numbered inner)) = ap length (sym have.0) ∙ sym (same_count inner) in
    ap (λ ns. length (children k) ∷ (own_numbers k ++ ns)) (flat_map-append node_numbers (labels inner) (labels after) ∙ ap (λ ns. ns ++ flat_map node_numbers (labels after)) (rows_of_nodes inner have.1) ∙ ap (λ ns. rows (numbered inner) ++ ns) (rows_of_nodes after have.2))
    ∙ ap (λ n. n ∷ (own_numbers k ++ (rows (numbered inner) ++ rows (numbered after)))) count

-- The numbers of a node are those of its forest.
pub numbers_are_rows : (k : Kind) → numbers k ≡ rows (numbered (trees (k ∷ [])))
numbers_are_rows k = ap (flat_map node_numbers) (sym (grown k).in_order) ∙ rows_of_nodes (trees (k ∷ [])) (grown k).children

-- Forests of as many roots whose numbers are fronts of one list are one.
front : (f g : Forest Kind) (us vs : List ℕ) → length (roots (numbered f)) ≡ length (roots (numbered g)) → rows (numbered f) ++ us ≡ rows (numbered g) ++ vs → (numbered f ≡ numbered g) × (us ≡ vs)
front nothing nothing us vs counts e = (refl, e)
front nothing (tree l j b) us vs counts e = cc
front (tree k i a) nothing us vs counts e = cc
front (tree k i a) (tree l j b) us vs counts e =
    let inner_counts : length (roots (numbered i)) ≡ length (roots (numbered j)) = cc in
    let after_counts : length (roots (numbered a)) ≡ length (roots (numbered b)) = cc in
    let rest : (own_numbers k ++ (rows (numbered i) ++ rows (numbered a))) ++ us ≡ (own_numbers l ++ (rows (numbered j) ++ rows (numbered b))) ++ vs = cc in
    let own = own_front k l _ _ (sym (append_assoc (own_numbers k) _ us) ∙ rest ∙ append_assoc (own_numbers l) _ vs) in
    let inner = front i j _ _ inner_counts (sym (append_assoc (rows (numbered i)) _ us) ∙ own.1 ∙ append_assoc (rows (numbered j)) _ vs) in
    let after = front a b us vs after_counts inner.1 in
    (ap (λ ns. tree ns (numbered i) (numbered a)) own.0 ∙ ap (λ f. tree (own_numbers l) f (numbered a)) inner.0 ∙ ap (tree (own_numbers l) (numbered j)) after.0, after.1)

-- Nodes of equal numbers are equal but for spans and the kinds of characters.
pub one_forest : (k l : Kind) → numbers k ≡ numbers l → numbered (trees (k ∷ [])) ≡ numbered (trees (l ∷ []))
one_forest k l e =
    (front (trees (k ∷ [])) (trees (l ∷ [])) [] [] refl (ap (λ ns. ns ++ []) (sym (numbers_are_rows k) ∙ e ∙ numbers_are_rows l))).0
