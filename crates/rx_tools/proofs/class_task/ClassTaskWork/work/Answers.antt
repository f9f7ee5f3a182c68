use Rattle.rx_tools.specs.ClassTasks.{class_task_text}
use Rattle.rx_tools.proofs.Writes.{composes, no_text}
use Rattle.rx_tasks.proofs.Texts.{leads_written}
use Rattle.rx_tools.proofs.class_task.ClassTaskWork.work.Goals as goal

pub returns-in-Ok-clause-leads : goal.returns-in-Ok-clause-leads
returns-in-Ok-clause-leads g c = leads_written class_task_text _ c.in-Ok.next (composes g.W.TextSink.taken) (no_text g.W.TextSink.taken _) c.in-Ok.ensures.text
