-- The rules that hold in a tree are those that hold in its bare tree.
use Rattle.std.proofs.Common.{◌≡◌, refl, ap, sym, ◌∙◌, ℕ, ◌&&◌, ◌||◌, not, Bool, Option, Some, None, List, [], ◌∷◌, ◌++◌, map, filter}
use Rattle.std.specs.Option.{option_map}
use Rattle.std.specs.List.{flat_map, list_any}
use Rattle.std.specs.Str.{bytes_eq}
use Rattle.std.proofs.lemmas.List.{map-append}
use Rattle.std.proofs.lemmas.List.Elements.{filter_agree}
use Rattle.rx_ast.specs.declared.class.CharacterClassContentsKind.TheVariants.{Union, Intersection, Subtraction}
use Rattle.rx_ast.specs.ClassTree as item
use Rattle.rx_ast.specs.ClassTree.{Member, no_member, member}
use Rattle.rx_ast.specs.Forest.{Forest, nothing, tree}
use Rattle.rx_ast.specs.Forget.{nowhere, no_kind, forget_member, forget_nodes, bare}
use Rattle.rx_ast.specs.Kinds as kinds
use Rattle.rx_ast.specs.Kinds.{Kind, order, pattern}
use Rattle.rx_ast.specs.Tree as ast
use Rattle.rx_ast.specs.Tree.{Alternatives, Nodes, Whole, mirror, no_node, node, no_alternative}
use Rattle.rx_ast.specs.declared.term.Pattern.{Pattern}
use Rattle.rx_lint.specs.declared.finding.Finding.{Finding}
use Rattle.rx_lint.specs.declared.finding.Rule.{Rule}
use Rattle.rx_lint.specs.declared.finding.Rule.TheVariants.{EmptyClass, RepeatedMember, EmptyAlternative, RepeatedAlternative, UnusedName, UselessQuantifier}
use Rattle.rx_lint.specs.Findings.{findings, findings_at, finding, rules}
use Rattle.rx_lint.specs.Nodes.{trees}
use Rattle.rx_lint.specs.Numbers.{numbers, are_equal_bare}
use Rattle.rx_lint.specs.Places.{Place, places_in, places}
use Rattle.rx_lint.specs.Rules.{holds, is_empty_class, is_union, makes_useless, is_useless_after, has_two_or_more, is_empty_alternative, is_equal_to, refers_to, is_unused, is_once}
use Rattle.rx_lint.proofs.Bare.{bare_kind, bare_whole, bared, bare_pattern}
use Rattle.rx_lint.proofs.Nodes.{labels, grown}
use Rattle.rx_lint.proofs.SameBare.{bare_numbers}

-- the place of a bare node in the bare tree
abbrev bare_place : Place → Place
bare_place at = record { node = bare_kind at.node; parent = option_map bare_kind at.parent; before = map bare_kind at.before }

bare_places : (parent : Option Kind) (before : List Kind) (f : Forest Kind) → places_in (option_map bare_kind parent) (map bare_kind before) (bared f) ≡ map bare_place (places_in parent before f)
bare_places parent before nothing = refl
bare_places parent before (tree k inner after) =
    let here = bare_place (record { node = k; parent = parent; before = before }) in
    ap (λ ps. here ∷ (ps ++ places_in (option_map bare_kind parent) (map bare_kind before ++ (bare_kind k ∷ [])) (bared after))) (bare_places (Some k) [] inner)
    ∙ ap (λ ks. here ∷ (map bare_place (places_in (Some k) [] inner) ++ places_in (option_map bare_kind parent) ks (bared after))) (sym (map-append bare_kind before (k ∷ [])))
    ∙ ap (λ ps. here ∷ (map bare_place (places_in (Some k) [] inner) ++ ps)) (bare_places parent (before ++ (k ∷ [])) after)
    ∙ ap (λ ps. here ∷ ps) (sym (map-append bare_place (places_in (Some k) [] inner) (places_in parent (before ++ (k ∷ [])) after)))

labels_of_bare : (f : Forest Kind) → labels (bared f) ≡ map bare_kind (labels f)
labels_of_bare nothing = refl
labels_of_bare (tree k inner after) =
    ap (λ ks. bare_kind k ∷ (ks ++ labels (bared after))) (labels_of_bare inner) ∙ ap (λ ks. bare_kind k ∷ (map bare_kind (labels inner) ++ ks)) (labels_of_bare after) ∙ ap (λ ks. bare_kind k ∷ ks) (sym (map-append bare_kind (labels inner) (labels after)))

order_of_bare : (p : Whole) → order (pattern (bare_whole p)) ≡ map bare_kind (order (pattern p))
order_of_bare p = sym (grown (pattern (bare_whole p))).in_order ∙ ap labels (bare_pattern p) ∙ labels_of_bare (trees (pattern p ∷ [])) ∙ ap (map bare_kind) (grown (pattern p)).in_order

any_mapped : (p q : Kind → Bool) → ((k : Kind) → q (bare_kind k) ≡ p k) → (ks : List Kind) → list_any q (map bare_kind ks) ≡ list_any p ks
any_mapped p q same [] = refl
any_mapped p q same (k ∷ ks) = ap (λ b. b || list_any q (map bare_kind ks)) (same k) ∙ ap (λ b. p k || b) (any_mapped p q same ks)

-- Each test is of what a bare node keeps.
bare_empty_class : (k : Kind) → is_empty_class (bare_kind k) ≡ is_empty_class k
bare_empty_class (kinds.class (item.class s negative strings kind no_member)) = refl
bare_empty_class (kinds.class (item.class s negative strings kind (member m ms))) = refl
bare_empty_class _ = refl

bare_union : (parent : Option Kind) → is_union (option_map bare_kind parent) ≡ is_union parent
bare_union None = refl
bare_union (Some (kinds.class (item.class s negative strings Union ms))) = refl
bare_union (Some (kinds.class (item.class s negative strings Intersection ms))) = refl
bare_union (Some (kinds.class (item.class s negative strings Subtraction ms))) = refl
bare_union (Some _) = refl

bare_useless : (m n : Member) → makes_useless (forget_member no_kind m) (forget_member no_kind n) ≡ makes_useless m n
bare_useless (item.range r) (item.range q) = refl
bare_useless (item.range r) (item.character q) = refl
bare_useless (item.character r) (item.character q) = refl
bare_useless (item.escape r) (item.escape q) = refl
bare_useless _ _ = refl

bare_useless_after : (k j : Kind) → is_useless_after (bare_kind k) (bare_kind j) ≡ is_useless_after k j
bare_useless_after (kinds.class_contents m) (kinds.class_contents n) = bare_useless n m
bare_useless_after (kinds.class_contents m) _ = refl
bare_useless_after _ j = refl

bare_two : (parent : Option Kind) → has_two_or_more (option_map bare_kind parent) ≡ has_two_or_more parent
bare_two None = refl
bare_two (Some (kinds.disjunction (s, no_alternative))) = refl
bare_two (Some (kinds.disjunction (s, ast.alternative t ns no_alternative))) = refl
bare_two (Some (kinds.disjunction (s, ast.alternative t ns (ast.alternative u ms more)))) = refl
bare_two (Some _) = refl

bare_empty_alternative : (k : Kind) → is_empty_alternative (bare_kind k) ≡ is_empty_alternative k
bare_empty_alternative (kinds.alternative (s, no_node)) = refl
bare_empty_alternative (kinds.alternative (s, node n ns)) = refl
bare_empty_alternative _ = refl

bare_equal : (ns ms : Nodes) → are_equal_bare (forget_nodes no_kind ns) (forget_nodes no_kind ms) ≡ are_equal_bare ns ms
bare_equal ns ms = ap (λ xs. bytes_eq xs (numbers (kinds.alternative (nowhere, forget_nodes no_kind ms)))) (sym (bare_numbers nowhere ns)) ∙ ap (bytes_eq (numbers (kinds.alternative (nowhere, ns)))) (sym (bare_numbers nowhere ms))

bare_equal_to : (k j : Kind) → is_equal_to (bare_kind k) (bare_kind j) ≡ is_equal_to k j
bare_equal_to (kinds.alternative (s, ns)) (kinds.alternative (t, ms)) = bare_equal ms ns
bare_equal_to (kinds.alternative (s, ns)) _ = refl
bare_equal_to _ j = refl

bare_refers_to : (name : List ℕ) (k : Kind) → refers_to name (bare_kind k) ≡ refers_to name k
bare_refers_to name (kinds.named_reference r) = refl
bare_refers_to name _ = refl

bare_unused : (p : Whole) (k : Kind) → is_unused (bare_whole p) (bare_kind k) ≡ is_unused p k
bare_unused p (kinds.capturing_group s (Some name) d) = ap (λ ks. not (list_any (refers_to name) ks)) (order_of_bare p) ∙ ap not (any_mapped (refers_to name) (refers_to name) (bare_refers_to name) (order (pattern p)))
bare_unused p (kinds.capturing_group s None d) = refl
bare_unused p _ = refl

bare_once : (k : Kind) → is_once (bare_kind k) ≡ is_once k
bare_once (kinds.quantifier s min None greedy n) = refl
bare_once (kinds.quantifier s min (Some max) greedy n) = refl
bare_once _ = refl

bare_holds : (p : Whole) (at : Place) (r : Rule) → holds (bare_whole p) (bare_place at) r ≡ holds p at r
bare_holds p at EmptyClass = bare_empty_class at.node
bare_holds p at RepeatedMember =
    ap (λ b. b && list_any (is_useless_after (bare_kind at.node)) (map bare_kind at.before)) (bare_union at.parent) ∙ ap (λ b. is_union at.parent && b) (any_mapped (is_useless_after at.node) (is_useless_after (bare_kind at.node)) (bare_useless_after at.node) at.before)
bare_holds p at EmptyAlternative = ap (λ b. b && has_two_or_more (option_map bare_kind at.parent)) (bare_empty_alternative at.node) ∙ ap (λ b. is_empty_alternative at.node && b) (bare_two at.parent)
bare_holds p at RepeatedAlternative = any_mapped (is_equal_to at.node) (is_equal_to (bare_kind at.node)) (bare_equal_to at.node) at.before
bare_holds p at UnusedName = bare_unused p at.node
bare_holds p at UselessQuantifier = bare_once at.node

-- the rules that hold at a place
abbrev rules_at : Whole → Place → List Rule
rules_at p at = map (λ (found : Finding). found.rule) (findings_at p at)

rules_of_findings : (at : Place) (rs : List Rule) → map (λ (found : Finding). found.rule) (map (finding at) rs) ≡ rs
rules_of_findings at [] = refl
rules_of_findings at (r ∷ rs) = ap (λ rs. r ∷ rs) (rules_of_findings at rs)

bare_rules_at : (p : Whole) (at : Place) → rules_at (bare_whole p) (bare_place at) ≡ rules_at p at
bare_rules_at p at = rules_of_findings (bare_place at) (filter (holds (bare_whole p) (bare_place at)) rules) ∙ filter_agree (holds (bare_whole p) (bare_place at)) (holds p at) (bare_holds p at) rules ∙ sym (rules_of_findings at (filter (holds p at) rules))

all_rules : (p : Whole) (ats : List Place) → map (λ (found : Finding). found.rule) (flat_map (findings_at (bare_whole p)) (map bare_place ats)) ≡ map (λ (found : Finding). found.rule) (flat_map (findings_at p) ats)
all_rules p [] = refl
all_rules p (at ∷ ats) =
    let rule : Finding → Rule = λ found. found.rule in
    map-append rule (findings_at (bare_whole p) (bare_place at)) (flat_map (findings_at (bare_whole p)) (map bare_place ats))
    ∙ ap (λ rs. rs ++ map rule (flat_map (findings_at (bare_whole p)) (map bare_place ats))) (bare_rules_at p at) ∙ ap (λ rs. rules_at p at ++ rs) (all_rules p ats) ∙ sym (map-append rule (findings_at p at) (flat_map (findings_at p) ats))

rules_of_bare : (p : Whole) → map (λ (found : Finding). found.rule) (findings (bare_whole p)) ≡ map (λ (found : Finding). found.rule) (findings p)
rules_of_bare p =
    ap (λ f. map (λ (found : Finding). found.rule) (flat_map (findings_at (bare_whole p)) (places_in None [] f))) (bare_pattern p) ∙ ap (λ ps. map (λ (found : Finding). found.rule) (flat_map (findings_at (bare_whole p)) ps)) (bare_places None [] (trees (pattern p ∷ []))) ∙ all_rules p (places p)

-- Trees of one bare tree have one list of rules.
pub equal_rules : (a b : Pattern) → bare a ≡ bare b → map (λ (found : Finding). found.rule) (findings (mirror a)) ≡ map (λ (found : Finding). found.rule) (findings (mirror b))
equal_rules a b same =
    sym (rules_of_bare (mirror a)) ∙ ap (λ (more : Alternatives). map (λ (found : Finding). found.rule) (findings (nowhere, (nowhere, more)))) same ∙ rules_of_bare (mirror b)
