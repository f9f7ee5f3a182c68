-- Which rows of tokens are patterns.
use Rattle.std.specs.Prelude.{◌≡◌, Bool, true, false, Option, Some, None, List, [], ◌∷◌}
use Rattle.rx_ast.specs.declared.leaf.LookAroundAssertionKind.{LookAroundAssertionKind}
use Rattle.rx_ast.specs.declared.leaf.LookAroundAssertionKind.TheVariants.{Lookahead, NegativeLookahead, Lookbehind, NegativeLookbehind}
use Rattle.rx_ast.specs.declared.term.Pattern.{Pattern}
use Rattle.rx_ast.specs.Tree as tree
use Rattle.rx_ast.specs.Tree.{Leaf, Node, Nodes, Alternatives, leaf, quantified, group, no_node, node, no_alternative, alternative, mirror_disjunction}
use Rattle.rx_model.specs.declared.mode.Mode.{Mode}
use Rattle.rx_model.specs.declared.mode.Mode.TheVariants.{Legacy, Unicode, Sets}
use Rattle.rx_model.specs.Trees.Token.{Token, Opener, boundary, character, dot, class_escape, property, class, indexed, named, opener, closer, bar, quantifier, capturing, ignoring, looking, opener_of}

-- whether a quantifier may follow a look-around: with neither `u` nor `v` a lookahead (QuantifiableAssertion, B.1.2)
abbrev pub look_takes : Mode → LookAroundAssertionKind → Bool
look_takes Unicode kind = false
look_takes Sets kind = false
look_takes Legacy Lookahead = true
look_takes Legacy NegativeLookahead = true
look_takes Legacy Lookbehind = false
look_takes Legacy NegativeLookbehind = false

-- whether a quantifier may follow a group (Term, 22.2.1: an Atom, and no Assertion)
abbrev pub group_takes : Mode → Opener → Bool
group_takes mode (capturing name) = true
group_takes mode (ignoring bits) = true
group_takes mode (looking kind) = look_takes mode kind

-- The open groups, the innermost first, and whether a quantifier may follow, after these tokens; or none, where one may not stand where it does.
abbrev pub run : Mode → List Token → List Opener → Bool → Option (List Opener × Bool)
run mode [] open_groups ready = Some (open_groups, ready)
run mode (closer ∷ ts) [] ready = None
run mode (closer ∷ ts) (o ∷ open_groups) ready = run mode ts open_groups (group_takes mode o)
run mode ((opener o) ∷ ts) open_groups ready = run mode ts (o ∷ open_groups) false
run mode (bar ∷ ts) open_groups ready = run mode ts open_groups false
run mode ((quantifier min max greedy) ∷ ts) open_groups true = run mode ts open_groups false
run mode ((quantifier min max greedy) ∷ ts) open_groups false = None
run mode ((boundary kind) ∷ ts) open_groups ready = run mode ts open_groups false
run mode (dot ∷ ts) open_groups ready = run mode ts open_groups true
run mode ((character kind value) ∷ ts) open_groups ready = run mode ts open_groups true
run mode ((class_escape kind) ∷ ts) open_groups ready = run mode ts open_groups true
run mode ((property negative strings name value) ∷ ts) open_groups ready = run mode ts open_groups true
run mode ((class c) ∷ ts) open_groups ready = run mode ts open_groups true
run mode ((indexed n) ∷ ts) open_groups ready = run mode ts open_groups true
run mode ((named name) ∷ ts) open_groups ready = run mode ts open_groups true

-- whether a node may be a quantifier's body
abbrev pub leaf_takes : Leaf → Bool
leaf_takes (tree.boundary b) = false
leaf_takes (tree.character c) = true
leaf_takes (tree.dot d) = true
leaf_takes (tree.class_escape e) = true
leaf_takes (tree.property p) = true
leaf_takes (tree.class c) = true
leaf_takes (tree.indexed r) = true
leaf_takes (tree.named r) = true

abbrev pub takes : Mode → Node → Bool
takes mode (leaf l) = leaf_takes l
takes mode (quantified s min max greedy n) = false
takes mode (group s o d more) = group_takes mode (opener_of o)

-- Each quantifier's body may have one, and each disjunction has an alternative. No other condition on the shape is needed: no token but a
-- quantifier can begin with `*`, `+`, `?` or a braced quantifier, so an atom that is no quantifier's body stands before none (Bodies, and the law
-- `quantifiers_stand`).
abbrev mutual
  pub IsNode : Mode → Node → Type 0
  IsNode mode (leaf l) = Unit {0}
  IsNode mode (quantified s min max greedy n) = (takes mode n ≡ true) × IsNode mode n
  IsNode mode (group s o d more) = HasAlternatives mode more

  pub AreNodes : Mode → Nodes → Type 0
  AreNodes mode no_node = Unit {0}
  AreNodes mode (node n ns) = IsNode mode n × AreNodes mode ns

  pub HasAlternatives : Mode → Alternatives → Type 0
  HasAlternatives mode no_alternative = ⊥
  HasAlternatives mode (alternative s ns more) = AreNodes mode ns × AreAlternatives mode more

  pub AreAlternatives : Mode → Alternatives → Type 0
  AreAlternatives mode no_alternative = Unit {0}
  AreAlternatives mode (alternative s ns more) = AreNodes mode ns × AreAlternatives mode more

abbrev pub IsWellMade : Mode → Pattern → Type 0
IsWellMade mode p = HasAlternatives mode (mirror_disjunction p.body).1
