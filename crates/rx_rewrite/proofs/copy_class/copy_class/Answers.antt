use Rattle.std.proofs.Common.{ap, sym, ◌∙◌, map}
use Rattle.rx_ast.specs.ClassTree.{class, members, mirror_contents}
use Rattle.rx_ast.proofs.ClassEquations.{class_is}
use Rattle.rx_rewrite.proofs.ClassCopies.{copied_all}
use Rattle.rx_rewrite.proofs.copy_class.copy_class.Goals as goal

pub returns : goal.returns
returns c =
    let k = c.args.class.now in
    c.with_body.ensures
    ∙ ap (class k.span k.negative k.strings k.kind) (copied_all c.loop-task.copier (members (map mirror_contents k.body)) c.in_default.ensures.0 c.loop-task.invariant)
    ∙ sym (class_is k)
