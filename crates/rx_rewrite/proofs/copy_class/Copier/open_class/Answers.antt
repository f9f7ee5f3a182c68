use Rattle.std.proofs.Common.{refl, ap, ◌∙◌, map}
use Rattle.std.proofs.lemmas.Result.{on_ok_weaker}
use Rattle.rx_ast.specs.ClassTree.{members, mirror_contents}
use Rattle.rx_rewrite.specs.declared.copy_class.ClassTask.TheVariants as task
use Rattle.rx_rewrite.specs.ClassWorks.{contents, with_class_task}
use Rattle.rx_rewrite.proofs.ClassCopies.{opens_class}
use Rattle.rx_rewrite.proofs.copy_class.Copier.open_class.Goals as goal

pub returns : goal.returns
returns c =
    let t = task.EndClass c.args.class c.replace-before.result in
    let u = task.Contents c.as_slice-contents.result in
    on_ok_weaker c.push_task-2.result
    (λ pushed. opens_class c.args.self.now c.push_task-2.new.self c.args.class.now c.replace-before.result c.replace-before.new.dest t u refl
    (ap (λ b. contents (members (map mirror_contents b))) c.as_slice-contents.ensures) c.replace-before.ensures.value (c.replace-before.ensures.after ∙ c.in_ok-inner.ensures)
    (pushed ∙ ap (λ y. with_class_task y u) c.in_ok-push_task.ensures))
    c.push_task-2.ensures
