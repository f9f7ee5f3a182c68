use Rattle.std.proofs.Common.{ap}
use Rattle.std.proofs.lemmas.Result.{on_ok_weaker}
use Rattle.rx_rewrite.specs.declared.copy_class.ClassTask.TheVariants as task
use Rattle.rx_rewrite.specs.ClassWorks.{class_work}
use Rattle.rx_rewrite.proofs.ClassCopies.{copies_is}
use Rattle.rx_rewrite.proofs.copy_class.Copier.perform.Goals as goal

pub returns-in-Contents : goal.returns-in-Contents
returns-in-Contents c =
    on_ok_weaker c.contents.result (copies_is c.args.self.now c.contents.new.self (class_work c.args.task) (class_work (task.Contents c.in-Contents.contents)) (ap class_work c.in-Contents.is)) c.contents.ensures

pub returns-in-EndClass : goal.returns-in-EndClass
returns-in-EndClass c =
    on_ok_weaker c.end_class.result (copies_is c.args.self.now c.end_class.new.self (class_work c.args.task) (class_work (task.EndClass c.in-EndClass.class c.in-EndClass.before)) (ap class_work c.in-EndClass.is)) c.end_class.ensures
