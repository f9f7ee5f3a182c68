use Rattle.std.proofs.Common.{◌∙◌, [], ◌∷◌, ap, map, sym}
use Rattle.rx_ast.specs.Kinds.{character, children, class_string}
use Rattle.rx_ast.specs.MirrorKinds.{mirror_kind}
use Rattle.rx_visit.proofs.Children.{in_alternative, in_class, in_disjunction}
use Rattle.rx_visit.proofs.siblings.children_of.Goals as goal

pub returns-in-Disjunction : goal.returns-in-Disjunction
returns-in-Disjunction c = sym (ap (λ k. children (mirror_kind k)) c.in-Disjunction.is ∙ in_disjunction c.in-Disjunction.it.now _ c.as_slice.ensures)

pub returns-in-Alternative : goal.returns-in-Alternative
returns-in-Alternative c = sym (ap (λ k. children (mirror_kind k)) c.in-Alternative.is ∙ in_alternative c.in-Alternative.it.now _ c.as_slice-in-Alternative.ensures)

pub returns-in-CharacterClass : goal.returns-in-CharacterClass
returns-in-CharacterClass c = sym (ap (λ k. children (mirror_kind k)) c.in-CharacterClass.is ∙ in_class c.in-CharacterClass.it.now _ c.as_slice-in-CharacterClass.ensures)

pub returns-in-Pattern : goal.returns-in-Pattern
returns-in-Pattern c = sym (ap (λ k. children (mirror_kind k)) c.in-Pattern.is)

pub returns-in-LookAroundAssertion : goal.returns-in-LookAroundAssertion
returns-in-LookAroundAssertion c = sym (ap (λ k. children (mirror_kind k)) c.in-LookAroundAssertion.is)

pub returns-in-Quantifier : goal.returns-in-Quantifier
returns-in-Quantifier c = sym (ap (λ k. children (mirror_kind k)) c.in-Quantifier.is)

pub returns-in-CapturingGroup : goal.returns-in-CapturingGroup
returns-in-CapturingGroup c = sym (ap (λ k. children (mirror_kind k)) c.in-CapturingGroup.is)

pub returns-in-IgnoreGroup : goal.returns-in-IgnoreGroup
returns-in-IgnoreGroup c = sym (ap (λ k. children (mirror_kind k)) c.in-IgnoreGroup.is)

pub returns-in-BoundaryAssertion : goal.returns-in-BoundaryAssertion
returns-in-BoundaryAssertion c = sym (ap (λ k. children (mirror_kind k)) c.in-BoundaryAssertion.is)

pub returns-in-Character : goal.returns-in-Character
returns-in-Character c = sym (ap (λ k. children (mirror_kind k)) c.in-Character.is)

pub returns-in-Dot : goal.returns-in-Dot
returns-in-Dot c = sym (ap (λ k. children (mirror_kind k)) c.in-Dot.is)

pub returns-in-CharacterClassEscape : goal.returns-in-CharacterClassEscape
returns-in-CharacterClassEscape c = sym (ap (λ k. children (mirror_kind k)) c.in-CharacterClassEscape.is)

pub returns-in-UnicodePropertyEscape : goal.returns-in-UnicodePropertyEscape
returns-in-UnicodePropertyEscape c = sym (ap (λ k. children (mirror_kind k)) c.in-UnicodePropertyEscape.is)

pub returns-in-CharacterClassRange : goal.returns-in-CharacterClassRange
returns-in-CharacterClassRange c = sym (ap (λ k. children (mirror_kind k)) c.in-CharacterClassRange.is)

pub returns-in-IndexedReference : goal.returns-in-IndexedReference
returns-in-IndexedReference c = sym (ap (λ k. children (mirror_kind k)) c.in-IndexedReference.is)

pub returns-in-NamedReference : goal.returns-in-NamedReference
returns-in-NamedReference c = sym (ap (λ k. children (mirror_kind k)) c.in-NamedReference.is)

pub returns-in-Term : goal.returns-in-Term
returns-in-Term c = sym (ap (λ k. children (mirror_kind k)) c.in-Term.is ∙ ap (λ k. k ∷ []) (sym c.node_of_term.ensures))

pub returns-in-CharacterClassContents : goal.returns-in-CharacterClassContents
returns-in-CharacterClassContents c = sym (ap (λ k. children (mirror_kind k)) c.in-CharacterClassContents.is ∙ ap (λ k. k ∷ []) (sym c.node_of_contents.ensures))

pub returns-in-CharacterClassStringDisjunction : goal.returns-in-CharacterClassStringDisjunction
returns-in-CharacterClassStringDisjunction c = sym (ap (λ k. children (mirror_kind k)) c.in-CharacterClassStringDisjunction.is ∙ ap (map class_string) (sym c.as_slice-in-CharacterClassStringDisjunction.ensures))

pub returns-in-CharacterClassString : goal.returns-in-CharacterClassString
returns-in-CharacterClassString c = sym (ap (λ k. children (mirror_kind k)) c.in-CharacterClassString.is ∙ ap (map character) (sym c.as_slice-in-CharacterClassString.ensures))
