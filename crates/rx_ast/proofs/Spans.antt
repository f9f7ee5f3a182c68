-- Spans by the mirror.
use Rattle.std.proofs.Common.{◌≡◌, refl, ap}
use Rattle.rx_ast.specs.declared.class.CharacterClass.{CharacterClass}
use Rattle.rx_ast.specs.declared.class.CharacterClassContents.{CharacterClassContents}
use Rattle.rx_ast.specs.declared.term.Term.{Term}
use Rattle.rx_ast.specs.contracts.class.CharacterClassContentsGetSpan.TheImpl as of_contents
use Rattle.rx_ast.specs.contracts.term.TermGetSpan.TheImpl as of_term
use Rattle.rx_ast.specs.ClassTree.{mirror_class, mirror_contents}
use Rattle.rx_ast.specs.Spans.{class_span, member_span, node_span}
use Rattle.rx_ast.specs.Tree.{mirror_term}
use Rattle.rx_ast.proofs.ClassEquations.{class_is}
use Rattle.rx_ast.proofs.Equations.{mirrors}

pub place_of_term : (t : Term) → of_term.ghosts.place t ≡ node_span (mirror_term t)
place_of_term t = refl

pub place_of_contents : (c : CharacterClassContents) → of_contents.ghosts.place c ≡ member_span (mirror_contents c)
place_of_contents c = refl

pub span_of_class : (c : CharacterClass) → class_span (mirror_class c) ≡ c.span
span_of_class c = ap class_span (class_is c)

pub ruleset spans = (span_of_class, mirrors)
