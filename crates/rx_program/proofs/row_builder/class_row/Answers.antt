use Rattle.std.proofs.Common.{ap, ◌∙◌, ◌+◌}
use Rattle.rx_ast.specs.ClassTree.{mirror_class}
use Rattle.rx_program.specs.Checks.{answer}
use Rattle.rx_program.proofs.RowMaking.{class_first, can_first, row_popped, class_on, class_fewer, class_made}
use Rattle.rx_program.proofs.Tables.{row_is}
use Rattle.rx_program.proofs.row_builder.class_row.Goals as goal

pub class-requires : goal.class-requires
class-requires c = can_first _ c.new-2.ensures

pub loop-part-init : goal.loop-part-init
loop-part-init c = class_first _ c.class.new.self (mirror_class c.args.class.now) _ c.new.ensures c.new-2.ensures c.in_ok-class.ensures

pub make-requires : goal.make-requires
make-requires c = row_popped c.loop-part.builder c.pop.new.self c.in-Some.part (mirror_class c.args.class.now) c.in-Some.ensures c.loop-part.invariant

pub loop-part-preserved : goal.loop-part-preserved
loop-part-preserved c = class_on c.loop-part.builder c.make.new.self c.pop.new.self c.in-Some.part (mirror_class c.args.class.now) c.in-Some.ensures c.loop-part.invariant c.in_ok-make.ensures

pub loop-part-smaller : goal.loop-part-smaller
loop-part-smaller c = class_fewer c.loop-part.builder c.make.new.self c.pop.new.self c.in-Some.part c.in-Some.ensures c.in_ok-make.ensures

pub returns : goal.returns
returns c =
    let b = c.loop-part.builder in
    λ u. row_is (record { low = c.answers_from-low.result; high = c.answers_from-high.result; checks = b.checks; first = b.target })
    (λ k h. c.answers_from-low.ensures k h ∙ ap (λ l. answer l b.target (0 + k)) c.as_slice.ensures)
    (λ k h. c.answers_from-high.ensures k h ∙ ap (λ l. answer l b.target (64 + k)) c.as_slice-2.ensures) u
    ∙ class_made b (mirror_class c.args.class.now) c.in_default.ensures.0 c.loop-part.invariant u
