use Rattle.rx_display.specs.Tasks.{task_text}
use Rattle.rx_display.proofs.Writers.{composes, no_text}
use Rattle.rx_tasks.proofs.Texts.{leads_written}
use Rattle.rx_display.proofs.printing.TaskWorkFmtFormatter.work.Goals as goal

pub returns-in-Ok-clause-ready : goal.returns-in-Ok-clause-ready
returns-in-Ok-clause-ready g c = c.in-Ok.ensures.text.written.plain

pub returns-in-Ok-clause-leads : goal.returns-in-Ok-clause-leads
returns-in-Ok-clause-leads g c = let goes = c.in-Ok.ensures.text in leads_written task_text _ c.in-Ok.next composes (no_text goes.written.plain) goes
