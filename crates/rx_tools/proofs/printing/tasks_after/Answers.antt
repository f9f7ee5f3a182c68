use Rattle.std.proofs.Common.{arith}
use Rattle.rx_ast.proofs.Equations.{boundary_is, character_is, class_is, dot_is, escape_is, indexed_is, named_is, property_is}
use Rattle.rx_ast.proofs.Sizes.{term_positive}
use Rattle.rx_tools.specs.Tasks.{body_text}
use Rattle.rx_tools.proofs.Tasks.{capturing_cut, ignore_cut, leaf_cut, look_cut, quantifier_cut}
use Rattle.rx_tools.proofs.printing.tasks_after.Goals as goal

pub returns-in-Quantifier-clause-text : goal.returns-in-Quantifier-clause-text
returns-in-Quantifier-clause-text c =
    rw (c.in-Quantifier.is, c.before_suffix.ensures.text, c.deref.ensures) (quantifier_cut c.args.after.mode c.args.after_reference (body_text c.args.after) c.in-Quantifier.it)

pub returns-in-LookAroundAssertion-clause-text : goal.returns-in-LookAroundAssertion-clause-text
returns-in-LookAroundAssertion-clause-text c =
    rw (c.in-LookAroundAssertion.is, c.before_closer.ensures.text, c.deref-in-LookAroundAssertion.ensures) (look_cut c.args.after.mode c.args.after_reference (body_text c.args.after) c.in-LookAroundAssertion.it)

pub returns-in-CapturingGroup-clause-text : goal.returns-in-CapturingGroup-clause-text
returns-in-CapturingGroup-clause-text c =
    rw (c.in-CapturingGroup.is, c.before_closer-in-CapturingGroup.ensures.text, c.deref-in-CapturingGroup.ensures) (capturing_cut c.args.after.mode c.args.after_reference (body_text c.args.after) c.in-CapturingGroup.it)

pub returns-in-IgnoreGroup-clause-text : goal.returns-in-IgnoreGroup-clause-text
returns-in-IgnoreGroup-clause-text c =
    rw (c.in-IgnoreGroup.is, c.before_closer-in-IgnoreGroup.ensures.text, c.deref-in-IgnoreGroup.ensures) (ignore_cut c.args.after.mode c.args.after_reference (body_text c.args.after) c.in-IgnoreGroup.it)

pub returns-in-BoundaryAssertion-clause-text : goal.returns-in-BoundaryAssertion-clause-text
returns-in-BoundaryAssertion-clause-text c = leaf_cut c.args.after.mode c.args.after_reference (body_text c.args.after) c.in-BoundaryAssertion.is (boundary_is c.in-BoundaryAssertion.field-0) c.new.ensures.text

pub returns-in-BoundaryAssertion-clause-lighter : goal.returns-in-BoundaryAssertion-clause-lighter
returns-in-BoundaryAssertion-clause-lighter c = omega (arith, c.new.ensures.weight, term_positive c.args.term.now)

pub returns-in-Character-clause-text : goal.returns-in-Character-clause-text
returns-in-Character-clause-text c = leaf_cut c.args.after.mode c.args.after_reference (body_text c.args.after) c.in-Character.is (character_is c.in-Character.field-0) c.new-in-Character.ensures.text

pub returns-in-Character-clause-lighter : goal.returns-in-Character-clause-lighter
returns-in-Character-clause-lighter c = omega (arith, c.new-in-Character.ensures.weight, term_positive c.args.term.now)

pub returns-in-Dot-clause-text : goal.returns-in-Dot-clause-text
returns-in-Dot-clause-text c = leaf_cut c.args.after.mode c.args.after_reference (body_text c.args.after) c.in-Dot.is (dot_is c.in-Dot.field-0) c.new-in-Dot.ensures.text

pub returns-in-Dot-clause-lighter : goal.returns-in-Dot-clause-lighter
returns-in-Dot-clause-lighter c = omega (arith, c.new-in-Dot.ensures.weight, term_positive c.args.term.now)

pub returns-in-CharacterClassEscape-clause-text : goal.returns-in-CharacterClassEscape-clause-text
returns-in-CharacterClassEscape-clause-text c = leaf_cut c.args.after.mode c.args.after_reference (body_text c.args.after) c.in-CharacterClassEscape.is (escape_is c.in-CharacterClassEscape.field-0) c.new-in-CharacterClassEscape.ensures.text

pub returns-in-CharacterClassEscape-clause-lighter : goal.returns-in-CharacterClassEscape-clause-lighter
returns-in-CharacterClassEscape-clause-lighter c = omega (arith, c.new-in-CharacterClassEscape.ensures.weight, term_positive c.args.term.now)

pub returns-in-CharacterClass-clause-text : goal.returns-in-CharacterClass-clause-text
returns-in-CharacterClass-clause-text c = leaf_cut c.args.after.mode c.args.after_reference (body_text c.args.after) c.in-CharacterClass.is (class_is c.in-CharacterClass.field-0) c.new-in-CharacterClass.ensures.text

pub returns-in-CharacterClass-clause-lighter : goal.returns-in-CharacterClass-clause-lighter
returns-in-CharacterClass-clause-lighter c = omega (arith, c.new-in-CharacterClass.ensures.weight, term_positive c.args.term.now)

pub returns-in-UnicodePropertyEscape-clause-text : goal.returns-in-UnicodePropertyEscape-clause-text
returns-in-UnicodePropertyEscape-clause-text c = leaf_cut c.args.after.mode c.args.after_reference (body_text c.args.after) c.in-UnicodePropertyEscape.is (property_is c.in-UnicodePropertyEscape.field-0) c.new-in-UnicodePropertyEscape.ensures.text

pub returns-in-UnicodePropertyEscape-clause-lighter : goal.returns-in-UnicodePropertyEscape-clause-lighter
returns-in-UnicodePropertyEscape-clause-lighter c = omega (arith, c.new-in-UnicodePropertyEscape.ensures.weight, term_positive c.args.term.now)

pub returns-in-IndexedReference-clause-text : goal.returns-in-IndexedReference-clause-text
returns-in-IndexedReference-clause-text c = leaf_cut c.args.after.mode c.args.after_reference (body_text c.args.after) c.in-IndexedReference.is (indexed_is c.in-IndexedReference.field-0) c.new-in-IndexedReference.ensures.text

pub returns-in-IndexedReference-clause-lighter : goal.returns-in-IndexedReference-clause-lighter
returns-in-IndexedReference-clause-lighter c = omega (arith, c.new-in-IndexedReference.ensures.weight, term_positive c.args.term.now)

pub returns-in-NamedReference-clause-text : goal.returns-in-NamedReference-clause-text
returns-in-NamedReference-clause-text c = leaf_cut c.args.after.mode c.args.after_reference (body_text c.args.after) c.in-NamedReference.is (named_is c.in-NamedReference.field-0) c.new-in-NamedReference.ensures.text

pub returns-in-NamedReference-clause-lighter : goal.returns-in-NamedReference-clause-lighter
returns-in-NamedReference-clause-lighter c = omega (arith, c.new-in-NamedReference.ensures.weight, term_positive c.args.term.now)
