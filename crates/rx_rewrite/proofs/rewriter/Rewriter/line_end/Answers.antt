use Rattle.std.proofs.Common.{ap, ◌∙◌}
use Rattle.std.proofs.lemmas.Result.{IfOk-weaker}
use Rattle.rx_ast.specs.Tree as tree
use Rattle.rx_ast.specs.Tree.{leaf}
use Rattle.rx_rewrite.specs.Rewriting.{any_unit, look_for, no_line_terminator}
use Rattle.rx_rewrite.proofs.rewriter.Rewriter.line_end.Goals as goal

pub returns-in-Keep : goal.returns-in-Keep
returns-in-Keep c =
    let b = c.args.it.now in
    c.boundary_term.ensures ∙ c.in-Keep.ensures (leaf (tree.boundary b)) (look_for b.span c.args.kind (no_line_terminator b.span)) (look_for b.span c.args.kind (any_unit b.span))

pub returns-in_ok-class-in-On : goal.returns-in_ok-class-in-On
returns-in_ok-class-in-On c =
    let b = c.args.it.now in
    IfOk-weaker c.look_for.result _ _
    (λ made is. is ∙ ap (look_for b.span c.args.kind) c.in_ok-class-in-On.ensures
    ∙ c.in-On.ensures (leaf (tree.boundary b)) (look_for b.span c.args.kind (no_line_terminator b.span)) (look_for b.span c.args.kind (any_unit b.span)))
    c.look_for.ensures

pub returns-in-Off : goal.returns-in-Off
returns-in-Off c =
    let b = c.args.it.now in
    IfOk-weaker c.look_for-in-Off.result _ _
    (λ made is. is ∙ ap (look_for b.span c.args.kind) c.any_unit-class.ensures
    ∙ c.in-Off.ensures (leaf (tree.boundary b)) (look_for b.span c.args.kind (no_line_terminator b.span)) (look_for b.span c.args.kind (any_unit b.span)))
    c.look_for-in-Off.ensures
