-- The rules: what each of them holds of.
use Rattle.std.specs.Prelude.{ℕ, Bool, true, false, ◌&&◌, not, nat_eq, nat_le, Option, Some, List}
use Rattle.std.specs.List.{list_any}
use Rattle.std.specs.Str.{bytes_eq}
use Rattle.rx_ast.specs.declared.leaf.CharacterClassEscapeKind.{CharacterClassEscapeKind}
use Rattle.rx_ast.specs.declared.leaf.CharacterClassEscapeKind.TheVariants.{D, NegativeD, S, NegativeS, W, NegativeW}
use Rattle.rx_ast.specs.declared.class.CharacterClassContentsKind.TheVariants.{Union}
use Rattle.rx_ast.specs.declared.class.CharacterClassRange.{CharacterClassRange}
use Rattle.rx_ast.specs.ClassTree as item
use Rattle.rx_ast.specs.ClassTree.{Member, no_member}
use Rattle.rx_ast.specs.Tree as ast
use Rattle.rx_ast.specs.Tree.{Whole, no_node}
use Rattle.rx_ast.specs.Kinds.{Kind, pattern, disjunction, alternative, quantifier, capturing_group, class, class_contents, named_reference, order}
use Rattle.rx_lint.specs.declared.finding.Rule.{Rule}
use Rattle.rx_lint.specs.declared.finding.Rule.TheVariants.{EmptyClass, RepeatedMember, EmptyAlternative, RepeatedAlternative, UnusedName, UselessQuantifier}
use Rattle.rx_lint.specs.Numbers.{are_equal_bare}
use Rattle.rx_lint.specs.Places.{Place}

-- a class, outer or nested, that is not negative and has no items
abbrev pub is_empty_class : Kind → Bool
is_empty_class (class (item.class s negative may_have_strings kind no_member)) = not negative
is_empty_class _ = false

-- a class that matches what any of its items does: ClassUnion of 22.2.1, and each class without `v`
abbrev pub is_union : Option Kind → Bool
is_union (Some (class (item.class s negative may_have_strings Union ms))) = true
is_union _ = false

-- A range covers a value where its min is at most the value, and its max at least the value.
abbrev pub covers : CharacterClassRange → ℕ → Bool
covers r v = nat_le r.min.value v && nat_le v r.max.value

abbrev pub is_same_escape : CharacterClassEscapeKind → CharacterClassEscapeKind → Bool
is_same_escape D D = true
is_same_escape NegativeD NegativeD = true
is_same_escape S S = true
is_same_escape NegativeS NegativeS = true
is_same_escape W W = true
is_same_escape NegativeW NegativeW = true
is_same_escape _ _ = false

-- An earlier item of a class makes a later one useless: a character one of its value; a range a character that it covers, and a range that it covers
-- at both ends; a class escape one of its kind.
abbrev pub makes_useless : Member → Member → Bool
makes_useless (item.character earlier) (item.character later) = nat_eq earlier.value later.value
makes_useless (item.range earlier) (item.character later) = covers earlier later.value
makes_useless (item.range earlier) (item.range later) = covers earlier later.min.value && covers earlier later.max.value
makes_useless (item.escape earlier) (item.escape later) = is_same_escape earlier.kind later.kind
makes_useless _ _ = false

-- a node that is an item of a class, and an earlier one that makes it useless
abbrev pub is_useless_after : Kind → Kind → Bool
is_useless_after (class_contents later) (class_contents earlier) = makes_useless earlier later
is_useless_after _ _ = false

-- a disjunction of two or more alternatives
abbrev pub has_two_or_more : Option Kind → Bool
has_two_or_more (Some (disjunction (s, ast.alternative t ns (ast.alternative u ms more)))) = true
has_two_or_more _ = false

-- an alternative without terms
abbrev pub is_empty_alternative : Kind → Bool
is_empty_alternative (alternative (s, no_node)) = true
is_empty_alternative _ = false

-- a node that is an alternative, and an earlier one of the same `bare`
abbrev pub is_equal_to : Kind → Kind → Bool
is_equal_to (alternative later) (alternative earlier) = are_equal_bare earlier.1 later.1
is_equal_to _ _ = false

-- a named reference of this name
abbrev pub refers_to : List ℕ → Kind → Bool
refers_to name (named_reference r) = bytes_eq r.name name
refers_to name _ = false

-- a group whose name no named reference of the pattern has
abbrev pub is_unused : Whole → Kind → Bool
is_unused p (capturing_group s (Some name) d) = not (list_any (refers_to name) (order (pattern p)))
is_unused p _ = false

-- a quantifier whose min and max are both 1
abbrev pub is_once : Kind → Bool
is_once (quantifier s min (Some max) greedy n) = nat_eq min 1 && nat_eq max 1
is_once _ = false

-- whether a rule holds of the node at a place of a pattern
abbrev pub holds : Whole → Place → Rule → Bool
holds p at EmptyClass = is_empty_class at.node
holds p at RepeatedMember = is_union at.parent && list_any (is_useless_after at.node) at.before
holds p at EmptyAlternative = is_empty_alternative at.node && has_two_or_more at.parent
holds p at RepeatedAlternative = list_any (is_equal_to at.node) at.before
holds p at UnusedName = is_unused p at.node
holds p at UselessQuantifier = is_once at.node
