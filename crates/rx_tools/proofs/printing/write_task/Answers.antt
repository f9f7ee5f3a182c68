use Rattle.std.proofs.Common.{refl, ◌++◌}
use Rattle.rx_tools.specs.Tasks.{closer_text, suffix_text, task_text}
use Rattle.rx_tools.proofs.Writes.{composes}
use Rattle.rx_tasks.proofs.Texts.{goes_last}
use Rattle.rx_tools.proofs.printing.write_task.Goals as goal

pub returns-clause-text : goal.returns-clause-text
returns-clause-text g c =
    let both = composes g.W.TextSink.taken in
    let closer = closer_text c.args.task.closes in
    let suffix = suffix_text c.args.task.suffix in
    let written = both.joined _ _ _ closer suffix c.in_ok-write_closer.ensures.whole c.in_ok-write_suffix.ensures.whole in
    goes_last c.write_body.result task_text _ both (record { front = closer ++ suffix; cut = refl; written = written }) (rw c.body.ensures at c.write_body.ensures.text)
