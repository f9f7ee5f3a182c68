use Rattle.std.proofs.Common.{reverse}
use Rattle.rx_ast.specs.ClassTree.{mirror_class}
use Rattle.rx_program.specs.RowParts.{part_weights}
use Rattle.rx_program.proofs.RowMaking.{MakesClass}
use Rattle.rx_program.proofs.row_builder.class_row.Given as goal

abbrev pub invariant-loop-part : goal.invariant-loop-part
invariant-loop-part l = MakesClass l.builder (mirror_class l.class)

abbrev pub decreases-loop-part : goal.decreases-loop-part
decreases-loop-part l = part_weights (reverse l.builder.parts)
