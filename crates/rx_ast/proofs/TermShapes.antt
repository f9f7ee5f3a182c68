-- Which variant a term is, by its mirror, and what it holds.
use Rattle.std.proofs.Common.{◌≡◌, ap, sym, ◌∙◌, subst, ℕ, List, Option}
use Rattle.std.specs.declared.alloc.Global.{Global}
use Rattle.std.specs.declared.boxed.Box.{Box}
use Rattle.rx_ast.specs.declared.leaf.BoundaryAssertion.{BoundaryAssertion}
use Rattle.rx_ast.specs.declared.leaf.Character.{Character}
use Rattle.rx_ast.specs.declared.class.CharacterClass.{CharacterClass}
use Rattle.rx_ast.specs.declared.leaf.CharacterClassEscape.{CharacterClassEscape}
use Rattle.rx_ast.specs.declared.leaf.Dot.{Dot}
use Rattle.rx_ast.specs.declared.leaf.IndexedReference.{IndexedReference}
use Rattle.rx_ast.specs.declared.leaf.LookAroundAssertionKind.{LookAroundAssertionKind}
use Rattle.rx_ast.specs.declared.leaf.Modifiers.{Modifiers}
use Rattle.rx_ast.specs.declared.leaf.NamedReference.{NamedReference}
use Rattle.rx_ast.specs.declared.leaf.UnicodePropertyEscape.{UnicodePropertyEscape}
use Rattle.rx_ast.specs.declared.term.Alternative.{Alternative}
use Rattle.rx_ast.specs.declared.term.CapturingGroup.{CapturingGroup}
use Rattle.rx_ast.specs.declared.term.Disjunction.{Disjunction}
use Rattle.rx_ast.specs.declared.term.IgnoreGroup.{IgnoreGroup}
use Rattle.rx_ast.specs.declared.term.LookAroundAssertion.{LookAroundAssertion}
use Rattle.rx_ast.specs.declared.term.Quantifier.{Quantifier}
use Rattle.rx_ast.specs.declared.term.Term.{Term, out-Term, roll-Term, roll-out-Term}
use Rattle.rx_ast.specs.declared.term.Term.TheVariants as term
use Rattle.rx_ast.specs.declared.term.Term.TheViews as views
use Rattle.rx_ast.specs.declared.term.Term.TheOpen as layer
use Rattle.rx_ast.specs.declared.term.Term.TheOpen.{Term-F}
use Rattle.rx_ast.specs.ClassTree.{Class}
use Rattle.rx_ast.specs.Tree as tree
use Rattle.rx_ast.specs.Tree.{Node, Opener, leaf, quantified, group, mirror_term}
use Rattle.rx_ast.specs.Forget.{forget_node, same_kind}
use Rattle.rx_ast.proofs.Equations.{roll_is, quantifier_is, capturing_is, ignore_is, look_is}
use Rattle.rx_ast.proofs.TermContentEq.{node_of}

-- it is of the variant that this is the mirror of
abbrev pub IsOfVariant : Node → Term → Type 0
IsOfVariant (leaf (tree.boundary x)) t = (b : BoundaryAssertion) × (t ≡ term.BoundaryAssertion b)
IsOfVariant (group s (tree.looking kind) d more) t = (b : Box LookAroundAssertion Global) × (t ≡ term.LookAroundAssertion b)
IsOfVariant (quantified s min max greedy n) t = (b : Box Quantifier Global) × (t ≡ term.Quantifier b)
IsOfVariant (leaf (tree.character x)) t = (b : Character) × (t ≡ term.Character b)
IsOfVariant (leaf (tree.dot x)) t = (b : Dot) × (t ≡ term.Dot b)
IsOfVariant (leaf (tree.class_escape x)) t = (b : CharacterClassEscape) × (t ≡ term.CharacterClassEscape b)
IsOfVariant (leaf (tree.property x)) t = (b : Box UnicodePropertyEscape Global) × (t ≡ term.UnicodePropertyEscape b)
IsOfVariant (leaf (tree.class x)) t = (b : Box CharacterClass Global) × (t ≡ term.CharacterClass b)
IsOfVariant (group s (tree.capturing name) d more) t = (b : Box CapturingGroup Global) × (t ≡ term.CapturingGroup b)
IsOfVariant (group s (tree.ignoring modifiers) d more) t = (b : Box IgnoreGroup Global) × (t ≡ term.IgnoreGroup b)
IsOfVariant (leaf (tree.indexed x)) t = (b : IndexedReference) × (t ≡ term.IndexedReference b)
IsOfVariant (leaf (tree.named x)) t = (b : Box NamedReference Global) × (t ≡ term.NamedReference b)

of_layer : (x : Term-F Term Alternative CapturingGroup Disjunction IgnoreGroup LookAroundAssertion Quantifier) → IsOfVariant (mirror_term (roll-Term x)) (roll-Term x)
of_layer (layer.BoundaryAssertion b) = let x = layer.BoundaryAssertion b in subst (λ n. IsOfVariant n (roll-Term x)) (sym (roll_is x)) (b, views.rolls-BoundaryAssertion b)
of_layer (layer.LookAroundAssertion b) = let x = layer.LookAroundAssertion b in subst (λ n. IsOfVariant n (roll-Term x)) (sym (roll_is x ∙ look_is b.value)) (b, views.rolls-LookAroundAssertion b)
of_layer (layer.Quantifier b) = let x = layer.Quantifier b in subst (λ n. IsOfVariant n (roll-Term x)) (sym (roll_is x ∙ quantifier_is b.value)) (b, views.rolls-Quantifier b)
of_layer (layer.Character b) = let x = layer.Character b in subst (λ n. IsOfVariant n (roll-Term x)) (sym (roll_is x)) (b, views.rolls-Character b)
of_layer (layer.Dot b) = let x = layer.Dot b in subst (λ n. IsOfVariant n (roll-Term x)) (sym (roll_is x)) (b, views.rolls-Dot b)
of_layer (layer.CharacterClassEscape b) = let x = layer.CharacterClassEscape b in subst (λ n. IsOfVariant n (roll-Term x)) (sym (roll_is x)) (b, views.rolls-CharacterClassEscape b)
of_layer (layer.UnicodePropertyEscape b) = let x = layer.UnicodePropertyEscape b in subst (λ n. IsOfVariant n (roll-Term x)) (sym (roll_is x)) (b, views.rolls-UnicodePropertyEscape b)
of_layer (layer.CharacterClass b) = let x = layer.CharacterClass b in subst (λ n. IsOfVariant n (roll-Term x)) (sym (roll_is x)) (b, views.rolls-CharacterClass b)
of_layer (layer.CapturingGroup b) = let x = layer.CapturingGroup b in subst (λ n. IsOfVariant n (roll-Term x)) (sym (roll_is x ∙ capturing_is b.value)) (b, views.rolls-CapturingGroup b)
of_layer (layer.IgnoreGroup b) = let x = layer.IgnoreGroup b in subst (λ n. IsOfVariant n (roll-Term x)) (sym (roll_is x ∙ ignore_is b.value)) (b, views.rolls-IgnoreGroup b)
of_layer (layer.IndexedReference b) = let x = layer.IndexedReference b in subst (λ n. IsOfVariant n (roll-Term x)) (sym (roll_is x)) (b, views.rolls-IndexedReference b)
of_layer (layer.NamedReference b) = let x = layer.NamedReference b in subst (λ n. IsOfVariant n (roll-Term x)) (sym (roll_is x)) (b, views.rolls-NamedReference b)

forgotten : (n : Node) (t : Term) → IsOfVariant n t → IsOfVariant (forget_node same_kind n) t
forgotten (leaf (tree.boundary x)) t h = h
forgotten (group s (tree.looking kind) d more) t h = h
forgotten (quantified s min max greedy n) t h = h
forgotten (leaf (tree.character x)) t h = h
forgotten (leaf (tree.dot x)) t h = h
forgotten (leaf (tree.class_escape x)) t h = h
forgotten (leaf (tree.property x)) t h = h
forgotten (leaf (tree.class x)) t h = h
forgotten (group s (tree.capturing name) d more) t h = h
forgotten (group s (tree.ignoring modifiers) d more) t h = h
forgotten (leaf (tree.indexed x)) t h = h
forgotten (leaf (tree.named x)) t h = h

variant_is : (t : Term) → IsOfVariant (node_of t) t
variant_is t = forgotten (mirror_term t) t (subst (λ u. IsOfVariant (mirror_term u) u) (roll-out-Term t) (of_layer (out-Term t)))

-- Two of the same content are of one variant.
pub one_variant : (t u : Term) (n : Node) → mirror_term t ≡ n → node_of t ≡ node_of u → IsOfVariant (forget_node same_kind n) u
one_variant t u n is same = subst (λ m. IsOfVariant m u) (sym same ∙ ap (forget_node same_kind) is) (variant_is u)

abbrev pub boundary_or : BoundaryAssertion → Node → BoundaryAssertion
boundary_or default (leaf (tree.boundary x)) = x
boundary_or default n = default

abbrev pub character_or : Character → Node → Character
character_or default (leaf (tree.character x)) = x
character_or default n = default

abbrev pub dot_or : Dot → Node → Dot
dot_or default (leaf (tree.dot x)) = x
dot_or default n = default

abbrev pub escape_or : CharacterClassEscape → Node → CharacterClassEscape
escape_or default (leaf (tree.class_escape x)) = x
escape_or default n = default

abbrev pub property_or : UnicodePropertyEscape → Node → UnicodePropertyEscape
property_or default (leaf (tree.property x)) = x
property_or default n = default

abbrev pub class_or : Class → Node → Class
class_or default (leaf (tree.class x)) = x
class_or default n = default

abbrev pub indexed_or : IndexedReference → Node → IndexedReference
indexed_or default (leaf (tree.indexed x)) = x
indexed_or default n = default

abbrev pub named_or : NamedReference → Node → NamedReference
named_or default (leaf (tree.named x)) = x
named_or default n = default

abbrev pub name_or : Option (List ℕ) → Opener → Option (List ℕ)
name_or default (tree.capturing name) = name
name_or default o = default

abbrev pub modifiers_or : Option Modifiers → Opener → Option Modifiers
modifiers_or default (tree.ignoring modifiers) = modifiers
modifiers_or default o = default

abbrev pub look_or : LookAroundAssertionKind → Opener → LookAroundAssertionKind
look_or default (tree.looking kind) = kind
look_or default o = default
