use Rattle.std.proofs.Common.{false, ap, ◌∙◌}
use Rattle.rx_class.proofs.Common.{contents}
use Rattle.rx_ast.specs.ClassTree.{class}
use Rattle.rx_ast.specs.declared.class.CharacterClassContentsKind.TheVariants.{Union}
use Rattle.rx_ast.proofs.ClassEquations.{class_roll}
use Rattle.rx_class.proofs.Readings.{span_on}
use Rattle.rx_class.proofs.reading.Reading.closed_class.Goals as goal

pub span_from-span-requires : goal.span_from-span-requires
span_from-span-requires g c = rw c.advance.ensures.on.spans c.requires.start

pub returns-clause-gives : goal.returns-clause-gives
returns-clause-gives g c =
    (span_on c.advance.ensures.on _ c.span_from-span.ensures, class_roll _ ∙ ap (λ body. class c.span_from-span.result c.args.negative false Union (contents body)) c.in_ok-body.ensures)
