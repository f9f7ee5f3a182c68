-- The equations of the mirror, node by node.
use Rattle.std.proofs.Common.{◌≡◌, refl, ap, sym, ◌∙◌, ℕ, List, [], ◌∷◌, ◌++◌, map}
use Rattle.std.specs.declared.boxed.Box.{Box}
use Rattle.std.specs.declared.alloc.Global.{Global}
use Rattle.rx_ast.specs.declared.leaf.Dot.{Dot}
use Rattle.rx_ast.specs.declared.leaf.BoundaryAssertion.{BoundaryAssertion}
use Rattle.rx_ast.specs.declared.leaf.Character.{Character}
use Rattle.rx_ast.specs.declared.leaf.CharacterClassEscape.{CharacterClassEscape}
use Rattle.rx_ast.specs.declared.leaf.UnicodePropertyEscape.{UnicodePropertyEscape}
use Rattle.rx_ast.specs.declared.leaf.IndexedReference.{IndexedReference}
use Rattle.rx_ast.specs.declared.leaf.NamedReference.{NamedReference}
use Rattle.rx_ast.specs.declared.class.CharacterClass.{CharacterClass}
use Rattle.rx_ast.specs.declared.term.Term.{Term, roll-Term}
use Rattle.std.proofs.lemmas.List.{take_all}
use Rattle.rx_ast.specs.declared.term.Alternative.{Alternative, roll-Alternative}
use Rattle.rx_ast.specs.declared.term.Disjunction.{Disjunction, out-Disjunction, roll-Disjunction, out-roll-Disjunction}
use Rattle.rx_ast.specs.declared.term.Quantifier.{Quantifier}
use Rattle.rx_ast.specs.declared.term.CapturingGroup.{CapturingGroup, out-CapturingGroup, roll-CapturingGroup, out-roll-CapturingGroup}
use Rattle.rx_ast.specs.declared.term.IgnoreGroup.{IgnoreGroup, out-IgnoreGroup, roll-IgnoreGroup, out-roll-IgnoreGroup}
use Rattle.rx_ast.specs.declared.term.LookAroundAssertion.{LookAroundAssertion, out-LookAroundAssertion, roll-LookAroundAssertion, out-roll-LookAroundAssertion}
use Rattle.rx_ast.specs.declared.term.Term.TheVariants as term
use Rattle.rx_ast.specs.declared.term.Term.TheViews as views
use Rattle.rx_ast.specs.declared.term.Term.TheOpen as layer
use Rattle.rx_ast.specs.declared.term.Term.TheOpen.{Term-F, Alternative-F, CapturingGroup-F, Disjunction-F, IgnoreGroup-F, LookAroundAssertion-F}
use Rattle.rx_ast.specs.declared.term.Term.TheFolds.{fold-roll-Term, fold_out-Alternative, fold_out-Quantifier, fold_out-Disjunction, fold_out-CapturingGroup, fold_out-IgnoreGroup, fold_out-LookAroundAssertion, map-Term}
use Rattle.rx_ast.specs.ClassTree.{mirror_class}
use Rattle.rx_ast.specs.Tree as tree
use Rattle.rx_ast.specs.Tree.{Node, SpannedNodes, SpannedAlternatives, leaf, quantified, nodes, alternatives, term_step, alternative_step, capturing_step, disjunction_step, ignore_step, look_step, quantifier_step, mirror_term, mirror_alternative, mirror_capturing, mirror_disjunction, mirror_ignore, mirror_look, mirror_quantifier}

-- one level of a term
abbrev Layer : Type 0
Layer = Term-F Term Alternative CapturingGroup Disjunction IgnoreGroup LookAroundAssertion Quantifier

pub roll_is : (x : Layer) → mirror_term (roll-Term x) ≡ term_step (map-Term _ _ _ _ _ _ _ Node SpannedNodes Node SpannedAlternatives Node Node Node mirror_term mirror_alternative mirror_capturing mirror_disjunction mirror_ignore mirror_look mirror_quantifier x)
unfolding mirror_term mirror_alternative mirror_capturing mirror_disjunction mirror_ignore mirror_look mirror_quantifier
roll_is x = fold-roll-Term Node SpannedNodes Node SpannedAlternatives Node Node Node term_step alternative_step capturing_step disjunction_step ignore_step look_step quantifier_step x

pub alternative_is : (a : Alternative) → mirror_alternative a ≡ (a.span, nodes (map mirror_term a.body))
unfolding mirror_term mirror_alternative
alternative_is a = fold_out-Alternative Node SpannedNodes Node SpannedAlternatives Node Node Node term_step alternative_step capturing_step disjunction_step ignore_step look_step quantifier_step a

pub disjunction_is : (d : Disjunction) → mirror_disjunction d ≡ ((out-Disjunction d).span, alternatives (map mirror_alternative (out-Disjunction d).body))
unfolding mirror_disjunction mirror_alternative
disjunction_is d = fold_out-Disjunction Node SpannedNodes Node SpannedAlternatives Node Node Node term_step alternative_step capturing_step disjunction_step ignore_step look_step quantifier_step d

pub quantifier_is : (q : Quantifier) → mirror_quantifier q ≡ quantified q.span q.min q.max q.greedy (mirror_term q.body)
unfolding mirror_quantifier mirror_term
quantifier_is q = fold_out-Quantifier Node SpannedNodes Node SpannedAlternatives Node Node Node term_step alternative_step capturing_step disjunction_step ignore_step look_step quantifier_step q

pub capturing_is : (g : CapturingGroup) → mirror_capturing g ≡ tree.group (out-CapturingGroup g).span (tree.capturing (out-CapturingGroup g).name) (mirror_disjunction (out-CapturingGroup g).body).0 (mirror_disjunction (out-CapturingGroup g).body).1
unfolding mirror_capturing mirror_disjunction
capturing_is g = fold_out-CapturingGroup Node SpannedNodes Node SpannedAlternatives Node Node Node term_step alternative_step capturing_step disjunction_step ignore_step look_step quantifier_step g

pub ignore_is : (g : IgnoreGroup) → mirror_ignore g ≡ tree.group (out-IgnoreGroup g).span (tree.ignoring (out-IgnoreGroup g).modifiers) (mirror_disjunction (out-IgnoreGroup g).body).0 (mirror_disjunction (out-IgnoreGroup g).body).1
unfolding mirror_ignore mirror_disjunction
ignore_is g = fold_out-IgnoreGroup Node SpannedNodes Node SpannedAlternatives Node Node Node term_step alternative_step capturing_step disjunction_step ignore_step look_step quantifier_step g

pub look_is : (g : LookAroundAssertion) → mirror_look g ≡ tree.group (out-LookAroundAssertion g).span (tree.looking (out-LookAroundAssertion g).kind) (mirror_disjunction (out-LookAroundAssertion g).body).0 (mirror_disjunction (out-LookAroundAssertion g).body).1
unfolding mirror_look mirror_disjunction
look_is g = fold_out-LookAroundAssertion Node SpannedNodes Node SpannedAlternatives Node Node Node term_step alternative_step capturing_step disjunction_step ignore_step look_step quantifier_step g

pub boundary_is : (b : BoundaryAssertion) → mirror_term (term.BoundaryAssertion b) ≡ leaf (tree.boundary b)
boundary_is b = ap mirror_term (sym (views.rolls-BoundaryAssertion b)) ∙ roll_is (layer.BoundaryAssertion b)

pub look_term_is : (b : Box LookAroundAssertion Global) → mirror_term (term.LookAroundAssertion b) ≡ mirror_look b.value
look_term_is b = ap mirror_term (sym (views.rolls-LookAroundAssertion b)) ∙ roll_is (layer.LookAroundAssertion b)

pub quantifier_term_is : (b : Box Quantifier Global) → mirror_term (term.Quantifier b) ≡ mirror_quantifier b.value
quantifier_term_is b = ap mirror_term (sym (views.rolls-Quantifier b)) ∙ roll_is (layer.Quantifier b)

pub character_is : (b : Character) → mirror_term (term.Character b) ≡ leaf (tree.character b)
character_is b = ap mirror_term (sym (views.rolls-Character b)) ∙ roll_is (layer.Character b)

pub escape_is : (b : CharacterClassEscape) → mirror_term (term.CharacterClassEscape b) ≡ leaf (tree.class_escape b)
escape_is b = ap mirror_term (sym (views.rolls-CharacterClassEscape b)) ∙ roll_is (layer.CharacterClassEscape b)

pub property_is : (b : Box UnicodePropertyEscape Global) → mirror_term (term.UnicodePropertyEscape b) ≡ leaf (tree.property b.value)
property_is b = ap mirror_term (sym (views.rolls-UnicodePropertyEscape b)) ∙ roll_is (layer.UnicodePropertyEscape b)

pub class_is : (b : Box CharacterClass Global) → mirror_term (term.CharacterClass b) ≡ leaf (tree.class (mirror_class b.value))
class_is b = ap mirror_term (sym (views.rolls-CharacterClass b)) ∙ roll_is (layer.CharacterClass b)

pub capturing_term_is : (b : Box CapturingGroup Global) → mirror_term (term.CapturingGroup b) ≡ mirror_capturing b.value
capturing_term_is b = ap mirror_term (sym (views.rolls-CapturingGroup b)) ∙ roll_is (layer.CapturingGroup b)

pub ignore_term_is : (b : Box IgnoreGroup Global) → mirror_term (term.IgnoreGroup b) ≡ mirror_ignore b.value
ignore_term_is b = ap mirror_term (sym (views.rolls-IgnoreGroup b)) ∙ roll_is (layer.IgnoreGroup b)

pub indexed_is : (b : IndexedReference) → mirror_term (term.IndexedReference b) ≡ leaf (tree.indexed b)
indexed_is b = ap mirror_term (sym (views.rolls-IndexedReference b)) ∙ roll_is (layer.IndexedReference b)

pub named_is : (b : Box NamedReference Global) → mirror_term (term.NamedReference b) ≡ leaf (tree.named b.value)
named_is b = ap mirror_term (sym (views.rolls-NamedReference b)) ∙ roll_is (layer.NamedReference b)

pub dot_is : (d : Dot) → mirror_term (term.Dot d) ≡ leaf (tree.dot d)
dot_is d = ap mirror_term (sym (views.rolls-Dot d)) ∙ roll_is (layer.Dot d)

-- the same at a struct that the code makes
pub alternative_roll : (x : Alternative-F Term Alternative CapturingGroup Disjunction IgnoreGroup LookAroundAssertion Quantifier) → mirror_alternative (roll-Alternative x) ≡ (x.span, nodes (map mirror_term x.body))
alternative_roll x = alternative_is (roll-Alternative x)

pub disjunction_roll : (x : Disjunction-F Term Alternative CapturingGroup Disjunction IgnoreGroup LookAroundAssertion Quantifier) → mirror_disjunction (roll-Disjunction x) ≡ (x.span, alternatives (map mirror_alternative x.body))
disjunction_roll x = disjunction_is (roll-Disjunction x) ∙ ap (λ y. (y.span, alternatives (map mirror_alternative y.body))) (out-roll-Disjunction x)

pub capturing_roll : (x : CapturingGroup-F Term Alternative CapturingGroup Disjunction IgnoreGroup LookAroundAssertion Quantifier) → mirror_capturing (roll-CapturingGroup x) ≡ tree.group x.span (tree.capturing x.name) (mirror_disjunction x.body).0 (mirror_disjunction x.body).1
capturing_roll x = capturing_is (roll-CapturingGroup x) ∙ ap (λ y. tree.group y.span (tree.capturing y.name) (mirror_disjunction y.body).0 (mirror_disjunction y.body).1) (out-roll-CapturingGroup x)

pub ignore_roll : (x : IgnoreGroup-F Term Alternative CapturingGroup Disjunction IgnoreGroup LookAroundAssertion Quantifier) → mirror_ignore (roll-IgnoreGroup x) ≡ tree.group x.span (tree.ignoring x.modifiers) (mirror_disjunction x.body).0 (mirror_disjunction x.body).1
ignore_roll x = ignore_is (roll-IgnoreGroup x) ∙ ap (λ y. tree.group y.span (tree.ignoring y.modifiers) (mirror_disjunction y.body).0 (mirror_disjunction y.body).1) (out-roll-IgnoreGroup x)

pub look_roll : (x : LookAroundAssertion-F Term Alternative CapturingGroup Disjunction IgnoreGroup LookAroundAssertion Quantifier) → mirror_look (roll-LookAroundAssertion x) ≡ tree.group x.span (tree.looking x.kind) (mirror_disjunction x.body).0 (mirror_disjunction x.body).1
look_roll x = look_is (roll-LookAroundAssertion x) ∙ ap (λ y. tree.group y.span (tree.looking y.kind) (mirror_disjunction y.body).0 (mirror_disjunction y.body).1) (out-roll-LookAroundAssertion x)

pub ruleset mirrors = (alternative_is, disjunction_is, quantifier_is, capturing_is, ignore_is, look_is, dot_is, boundary_is, look_term_is, quantifier_term_is, character_is, escape_is, property_is, class_is, capturing_term_is, ignore_term_is, indexed_is, named_is, alternative_roll, disjunction_roll, capturing_roll, ignore_roll, look_roll, take_all)

pub tree_of_quantifier : (q : Box Quantifier Global) → mirror_term (term.Quantifier q) ≡ quantified q.value.span q.value.min q.value.max q.value.greedy (mirror_term q.value.body)
tree_of_quantifier q = quantifier_term_is q ∙ quantifier_is q.value

pub tree_of_capturing : (g : Box CapturingGroup Global) → let h = out-CapturingGroup g.value in let c = mirror_disjunction h.body in mirror_term (term.CapturingGroup g) ≡ tree.group h.span (tree.capturing h.name) c.0 c.1
tree_of_capturing g = capturing_term_is g ∙ capturing_is g.value

pub tree_of_ignore : (g : Box IgnoreGroup Global) → let h = out-IgnoreGroup g.value in let c = mirror_disjunction h.body in mirror_term (term.IgnoreGroup g) ≡ tree.group h.span (tree.ignoring h.modifiers) c.0 c.1
tree_of_ignore g = ignore_term_is g ∙ ignore_is g.value

pub tree_of_look : (g : Box LookAroundAssertion Global) → let h = out-LookAroundAssertion g.value in let c = mirror_disjunction h.body in mirror_term (term.LookAroundAssertion g) ≡ tree.group h.span (tree.looking h.kind) c.0 c.1
tree_of_look g = look_term_is g ∙ look_is g.value
