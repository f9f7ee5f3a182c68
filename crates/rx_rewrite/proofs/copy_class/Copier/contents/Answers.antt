use Rattle.std.proofs.Common.{refl, ap, map}
use Rattle.std.proofs.lemmas.Result.{on_ok_weaker}
use Rattle.rx_ast.specs.ClassTree.{no_member, member, members, mirror_contents}
use Rattle.rx_rewrite.specs.declared.copy_class.ClassTask.TheVariants as task
use Rattle.rx_rewrite.specs.ClassWorks.{contents}
use Rattle.std.proofs.lemmas.List.{nil_from_length}
use Rattle.rx_rewrite.proofs.ClassCopies.{copies_is, copies_none, copies_first}
use Rattle.rx_rewrite.proofs.copy_class.Copier.contents.Goals as goal

pub returns-in_default : goal.returns-in_default
returns-in_default c =
    copies_is c.args.self.now c.args.self.now (contents (members (map mirror_contents c.args.contents.now))) (contents no_member) (ap (λ cs. contents (members (map mirror_contents cs))) (nil_from_length c.args.contents.now c.in_default.ensures.cases))
    (copies_none c.args.self.now)

pub returns : goal.returns
returns c =
    let ms = members (map mirror_contents c.in-Some.more.now) in
    on_ok_weaker c.copy.result
    (λ copied. copies_is c.args.self.now c.copy.new.self (contents (members (map mirror_contents c.args.contents.now))) (contents (member (mirror_contents c.in-Some.first.now) ms))
    (ap (λ cs. contents (members (map mirror_contents cs))) c.in-Some.ensures.cases.0)
    (copies_first c.args.self.now c.push_task.new.self c.copy.new.self (task.Contents c.in-Some.more) (mirror_contents c.in-Some.first.now) ms c.in_ok-push_task.ensures refl copied))
    c.copy.ensures
