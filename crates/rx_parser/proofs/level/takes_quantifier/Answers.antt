use Rattle.std.proofs.Common.{◌∙◌, ap, sym}
use Rattle.rx_parser.proofs.Common.{mirror_term, takes}
use Rattle.rx_ast.proofs.Equations as mirror
use Rattle.rx_parser.proofs.level.takes_quantifier.Goals as goal

pub returns-in-BoundaryAssertion : goal.returns-in-BoundaryAssertion
returns-in-BoundaryAssertion c = sym (ap (takes c.args.mode) (ap mirror_term c.in-BoundaryAssertion.is ∙ mirror.boundary_is _))

pub returns-in-Quantifier : goal.returns-in-Quantifier
returns-in-Quantifier c = sym (ap (takes c.args.mode) (ap mirror_term c.in-Quantifier.is ∙ mirror.tree_of_quantifier _))

pub returns-in-Character : goal.returns-in-Character
returns-in-Character c = sym (ap (takes c.args.mode) (ap mirror_term c.in-Character.is ∙ mirror.character_is _))

pub returns-in-Dot : goal.returns-in-Dot
returns-in-Dot c = sym (ap (takes c.args.mode) (ap mirror_term c.in-Dot.is ∙ mirror.dot_is _))

pub returns-in-CharacterClassEscape : goal.returns-in-CharacterClassEscape
returns-in-CharacterClassEscape c = sym (ap (takes c.args.mode) (ap mirror_term c.in-CharacterClassEscape.is ∙ mirror.escape_is _))

pub returns-in-UnicodePropertyEscape : goal.returns-in-UnicodePropertyEscape
returns-in-UnicodePropertyEscape c = sym (ap (takes c.args.mode) (ap mirror_term c.in-UnicodePropertyEscape.is ∙ mirror.property_is _))

pub returns-in-CharacterClass : goal.returns-in-CharacterClass
returns-in-CharacterClass c = sym (ap (takes c.args.mode) (ap mirror_term c.in-CharacterClass.is ∙ mirror.class_is _))

pub returns-in-CapturingGroup : goal.returns-in-CapturingGroup
returns-in-CapturingGroup c = sym (ap (takes c.args.mode) (ap mirror_term c.in-CapturingGroup.is ∙ mirror.tree_of_capturing _))

pub returns-in-IgnoreGroup : goal.returns-in-IgnoreGroup
returns-in-IgnoreGroup c = sym (ap (takes c.args.mode) (ap mirror_term c.in-IgnoreGroup.is ∙ mirror.tree_of_ignore _))

pub returns-in-IndexedReference : goal.returns-in-IndexedReference
returns-in-IndexedReference c = sym (ap (takes c.args.mode) (ap mirror_term c.in-IndexedReference.is ∙ mirror.indexed_is _))

pub returns-in-NamedReference : goal.returns-in-NamedReference
returns-in-NamedReference c = sym (ap (takes c.args.mode) (ap mirror_term c.in-NamedReference.is ∙ mirror.named_is _))
