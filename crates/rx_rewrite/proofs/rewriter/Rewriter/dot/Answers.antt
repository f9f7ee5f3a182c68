use Rattle.std.proofs.Common.{ap, ◌∙◌}
use Rattle.std.proofs.lemmas.Result.{IfOk-weaker}
use Rattle.rx_ast.specs.Tree as tree
use Rattle.rx_ast.specs.Tree.{leaf}
use Rattle.rx_ast.proofs.Equations.{dot_is}
use Rattle.rx_rewrite.specs.Rewriting.{any_unit, no_line_terminator}
use Rattle.rx_rewrite.proofs.rewriter.Rewriter.dot.Goals as goal

pub returns-in-Keep : goal.returns-in-Keep
returns-in-Keep c =
    let d = c.args.it in
    dot_is d ∙ c.in-Keep.ensures (leaf (tree.dot d)) (leaf (tree.class (any_unit d.span))) (leaf (tree.class (no_line_terminator d.span)))

pub returns-in-On : goal.returns-in-On
returns-in-On c =
    let d = c.args.it in
    IfOk-weaker c.class_term.result _ _
    (λ made is. is ∙ ap (λ k. leaf (tree.class k)) c.any_unit.ensures ∙ c.in-On.ensures (leaf (tree.dot d)) (leaf (tree.class (any_unit d.span))) (leaf (tree.class (no_line_terminator d.span))))
    c.class_term.ensures

pub returns-in_ok-no_line_terminator-in-Off : goal.returns-in_ok-no_line_terminator-in-Off
returns-in_ok-no_line_terminator-in-Off c =
    let d = c.args.it in
    IfOk-weaker c.class_term-in-Off.result _ _
    (λ made is. is ∙ ap (λ k. leaf (tree.class k)) c.in_ok-no_line_terminator-in-Off.ensures ∙ c.in-Off.ensures (leaf (tree.dot d)) (leaf (tree.class (any_unit d.span))) (leaf (tree.class (no_line_terminator d.span))))
    c.class_term-in-Off.ensures
