use Rattle.rx_base.specs.declared.span.Span.{Span}
use Rattle.rx_ast.specs.Parts.{in_pattern, part_span}
use Rattle.rx_ast.proofs.Siblings.{siblings}
use Rattle.rx_paint.proofs.laws.nested_by_siblings.Goals as goal

pub returns : goal.returns
returns c p = siblings (λ (s : Span). s) p.0 (in_pattern part_span p)
